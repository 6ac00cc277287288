-- What each turn of `column_rules::narrow_column` keeps.
use Rattle.closing_model.specs.Table.{place}
use Rattle.closing_model.proofs.AcrossLaws.{AcrossInv}
use Rattle.column_rules.proofs.narrow_column.Given as goal

abbrev pub invariant-loop-v : goal.invariant-loop-v
invariant-loop-v l = AcrossInv l.n l.k l.t l.su l.sl l.initial.lowers l.initial.uppers l.lowers l.uppers l.changed l.v (place l.n l.v l.t)
