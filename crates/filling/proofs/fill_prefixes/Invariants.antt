-- What each turn of the two loops of `filling::fill_prefixes` keeps, and what falls from line to line.
use Prim.Native.Nat.{◌-◌}
use lib.ListN.{length}
use Rattle.filling.proofs.FillLaws.{LinesInv, LineUpTo}
use Rattle.filling.proofs.fill_prefixes.Given as goal

abbrev pub invariant-loop-base : goal.invariant-loop-base
invariant-loop-base l = LinesInv l.n l.initial.s l.base l.s

abbrev pub decreases-loop-base : goal.decreases-loop-base
decreases-loop-base l = length l.initial.s - l.base

abbrev pub invariant-loop-t : goal.invariant-loop-t
invariant-loop-t l = LineUpTo l.n l.base l.initial.s l.t l.s
