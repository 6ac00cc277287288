-- What each turn of `opening::prune_all` keeps: the rows of the values below v are quiet.
use Rattle.outcomes.specs.declared.Outcome.TheVariants.{Live}
use Rattle.filter.specs.Filtered.{Filtered}
use Rattle.opening.specs.Opened.{Anything, QuietBelow}
use Rattle.opening.proofs.prune_all.Given as goal

abbrev pub invariant-loop-v : goal.invariant-loop-v
invariant-loop-v l =
    Filtered l.n l.k Anything (QuietBelow l.n l.k l.initial.masks l.initial.cells l.v) l.initial.masks l.initial.cells l.initial.trail l.initial.h
    l.masks l.cells l.trail (Live l.h)
