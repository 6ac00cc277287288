-- What each turn of `canonical_rows::counting::count_ends` keeps.
use mathlib.Core.Path.{◌≡◌}
use Prim.Native.Nat.{◌≤◌}
use lib.ListN.{length}
use Rattle.closing_model.specs.Table.{view}
use Rattle.canonical_rows.specs.Lines.{part_rows}
use Rattle.canonical_rows.proofs.counting.count_ends.Given as goal

abbrev pub invariant-loop-i : goal.invariant-loop-i
invariant-loop-i l = (l.count ≡ length (part_rows l.n (view l.lowers l.uppers) l.v l.from l.i)) × (l.count ≤ l.i)
