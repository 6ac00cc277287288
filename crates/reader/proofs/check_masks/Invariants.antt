-- What each turn of `reader::check_masks` keeps, and what falls from turn to turn.
use mathlib.Core.Path.{◌≡◌}
use Prim.Native.Nat.{◌-◌, ◌≤◌}
use Rattle.book.specs.Layout.{mask_at}
use Rattle.book.specs.Refusal.{first_of, mask_fault}
use Rattle.reader.proofs.check_masks.Given as goal

abbrev pub invariant-loop-s : goal.invariant-loop-s
invariant-loop-s l = (l.s ≤ l.n) × (first_of l.s (λ j. mask_fault l.k (mask_at l.book j)) ≡ 0)

abbrev pub decreases-loop-s : goal.decreases-loop-s
decreases-loop-s l = l.n - l.s
