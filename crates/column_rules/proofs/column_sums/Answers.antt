-- `column_rules::column_sums` meets its contract. The invariant of its loop, `SumsInv`: the sums and the gap are those of the first v values.
-- `sums_more` is the turn. Assumes nothing.
use Rattle.column_rules.proofs.AnswerLaws.{sums_start, sums_more}
use Rattle.column_rules.proofs.column_sums.Goals as goal

pub loop-v-init : goal.loop-v-init
loop-v-init c = sums_start _ _ _

pub loop-v-preserved : goal.loop-v-preserved
loop-v-preserved c =
    let a = c.at-a.ensures in
    let b = c.at-b.ensures in
    sums_more _ c.loop-v.invariant a.0 a.1 b.0 b.1 c.saturating_sub.ensures c.max-gap.ensures
