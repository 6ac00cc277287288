-- `bands::column_sums` meets its contract. The invariant of its loop: the sums are those of the first v values. `sums_more` is the turn.
-- Assumes nothing.
use Rattle.bands.proofs.SumsLaws.{sums_none, sums_more}
use Rattle.bands.proofs.column_sums.Goals as goal

pub loop-v-init : goal.loop-v-init
loop-v-init c = sums_none _ _ _ c.same-sums.result c.same-sums.ensures

pub loop-v-preserved : goal.loop-v-preserved
loop-v-preserved c = sums_more _ _ _ c.loop-v.v c.loop-v.sums c.load.result c.sum-sums.result c.loop-v.invariant c.load.ensures c.sum-sums.ensures
