-- What each turn of `corners::count_back` keeps: i is not before s, and the counts stand at i.
use Prim.Native.Nat.{◌≤◌}
use Rattle.segments_model.specs.Build.{Counts}
use Rattle.corners.proofs.count_back.Given as goal

abbrev pub invariant-loop-i : goal.invariant-loop-i
invariant-loop-i l = (l.s ≤ l.i) × Counts l.lower l.rises l.masks l.v l.i l.r l.k
