-- What each turn of `corners::previous_turn` keeps, and what falls from turn to turn.
use Prim.Native.Nat.{ℕ, ◌<◌}
use Rattle.corners.specs.Turn.{Straight}
use Rattle.corners.proofs.previous_turn.Given as goal

abbrev pub invariant-loop-i : goal.invariant-loop-i
invariant-loop-i l = (l.i < l.t) × ((j : ℕ) → l.i < j → j < l.t → Straight l.rises l.v j)

abbrev pub decreases-loop-i : goal.decreases-loop-i
decreases-loop-i l = l.i
