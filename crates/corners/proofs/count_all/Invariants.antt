-- What each turn of `corners::count_all` keeps: the counts stand at t.
use Rattle.segments_model.specs.Build.{Counts}
use Rattle.corners.proofs.count_all.Given as goal

abbrev pub invariant-loop-t : goal.invariant-loop-t
invariant-loop-t l = Counts l.lower l.rises l.masks l.v l.t l.risen l.counted
