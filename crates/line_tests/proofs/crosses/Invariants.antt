-- What each turn of `line_tests::crosses` keeps.
use Rattle.closing_model.specs.Table.{view}
use Rattle.line_tests.proofs.CrossLaws.{CrossInv}
use Rattle.line_tests.proofs.crosses.Given as goal

abbrev pub invariant-loop-t : goal.invariant-loop-t
invariant-loop-t l = CrossInv l.p l.m l.gap l.t (view l.lowers l.uppers)
