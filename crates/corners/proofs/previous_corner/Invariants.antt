-- What each turn of `corners::previous_corner` keeps, and what falls from turn to turn.
use Prim.Native.Nat.{◌<◌}
use Rattle.corners.specs.Turn.{Straight}
use Rattle.corners.proofs.TurnLaws.{Cornerless}
use Rattle.corners.proofs.previous_corner.Given as goal

abbrev pub invariant-loop-i : goal.invariant-loop-i
invariant-loop-i l = (l.i < l.t) × (0 < l.i → Straight l.rises l.v l.i → ⊥) × Cornerless l.lower l.n l.rises l.v l.i l.t

abbrev pub decreases-loop-i : goal.decreases-loop-i
decreases-loop-i l = l.i
