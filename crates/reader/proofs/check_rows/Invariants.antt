-- What each turn of `reader::check_rows` keeps, and what falls from turn to turn.
use mathlib.Core.Path.{◌≡◌}
use Prim.Native.Nat.{◌-◌, ◌≤◌}
use Rattle.book.specs.Layout.{row_at}
use Rattle.book.specs.Refusal.{first_of, row_fault}
use Rattle.reader.proofs.check_rows.Given as goal

abbrev pub invariant-loop-i : goal.invariant-loop-i
invariant-loop-i l = (l.i ≤ l.count) × (first_of l.i (λ j. row_fault l.n l.k (row_at l.rows j)) ≡ 0)

abbrev pub decreases-loop-i : goal.decreases-loop-i
decreases-loop-i l = l.count - l.i
