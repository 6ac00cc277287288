-- What each turn of `mirroring::mark_open` keeps: the words before b are written.
use Rattle.mirroring.specs.Built.{Marked}
use Rattle.mirroring.proofs.mark_open.Given as goal

abbrev pub invariant-loop-b : goal.invariant-loop-b
invariant-loop-b l = Marked l.n l.k l.masks l.initial.cells l.cells l.b
