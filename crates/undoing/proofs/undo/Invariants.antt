-- What each turn of `undoing::undo` keeps.
use Rattle.undoing.proofs.UndoneLaws.{Putting}
use Rattle.undoing.proofs.undo.Given as goal

abbrev pub invariant-loop-i : goal.invariant-loop-i
invariant-loop-i l = Putting l.initial.masks l.initial.cells l.trail l.n l.k l.from l.to l.masks l.cells l.i
