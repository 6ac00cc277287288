-- What each turn of `filling::fill` keeps.
use Rattle.std.proofs.Common.{◌≡◌, ◌++◌, replicate, drop}
use Rattle.filling.proofs.fill.Given as goal

abbrev pub invariant-loop-place : goal.invariant-loop-place
invariant-loop-place g l = l.s ≡ replicate l.place-index l.x ++ drop l.place-index l.initial.s
