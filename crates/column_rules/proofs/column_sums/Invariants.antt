-- What each turn of `column_rules::column_sums` keeps.
use Rattle.closing_model.specs.Table.{view}
use Rattle.column_rules.proofs.AnswerLaws.{SumsInv}
use Rattle.column_rules.proofs.column_sums.Given as goal

abbrev pub invariant-loop-v : goal.invariant-loop-v
invariant-loop-v l = SumsInv l.n l.t (view l.lowers l.uppers) l.sl l.su l.gap l.v
