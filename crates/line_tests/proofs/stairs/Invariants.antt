-- What each turn of `line_tests::stairs` keeps.
use lib.ListN.{get_or}
use Rattle.closing_model.proofs.LineLaws.{StairsInv}
use Rattle.line_tests.proofs.stairs.Given as goal

abbrev pub invariant-loop-t : goal.invariant-loop-t
invariant-loop-t l = StairsInv (λ p. get_or l.s p 0) l.base l.n l.rise l.fall l.t
