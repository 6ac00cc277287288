-- What each turn of `canonical_rows::count_rows` keeps.
use mathlib.Core.Path.{◌≡◌}
use Prim.Native.Nat.{◌*◌, ◌≤◌}
use lib.ListN.{length}
use Rattle.closing_model.specs.Table.{view}
use Rattle.canonical_model.specs.CornerRows.{canonical_rows}
use Rattle.canonical_rows.proofs.count_rows.Given as goal

abbrev pub invariant-loop-v : goal.invariant-loop-v
invariant-loop-v l = (l.count ≡ length (canonical_rows l.n l.v (view l.lowers l.uppers))) × (l.count ≤ 256 * l.v)
