-- What each turn of `column_rules::each_column` keeps.
use Rattle.closing_model.specs.Table.{size}
use Rattle.closing_model.specs.Sweep.{Ran}
use Rattle.column_rules.specs.Answer.{Between}
use Rattle.column_rules.proofs.each_column.Given as goal

abbrev pub invariant-loop-t : goal.invariant-loop-t
invariant-loop-t l =
    Ran (size l.n l.k) (Between l.n l.k l.from l.end) (Between l.n l.k l.from l.t) l.initial.lowers l.initial.uppers l.lowers l.uppers l.changed
