-- `corners::count_all` meets its contract. The invariant: the counts stand at t (`Counts`). One step more: `counts_next`. Assumes nothing.
use mathlib.Core.Path.{◌≡◌}
use native.Mathlib.Omega.{arith}
use Rattle.segments_model.proofs.CountsLaws.{counts_none, risen_next, counted_next, counts_next}
use Rattle.corners.proofs.count_all.Goals as goal

pub loop-t-init : goal.loop-t-init
loop-t-init c = counts_none _ _ _ _

pub overflow_add-counted : goal.overflow_add-counted
overflow_add-counted c = omega (arith, counted_next c.loop-t.invariant c.tick-counted.ensures)

pub overflow_add-risen : goal.overflow_add-risen
overflow_add-risen c = omega (arith, risen_next c.loop-t.invariant c.rise-risen.ensures)

pub loop-t-preserved : goal.loop-t-preserved
loop-t-preserved c = counts_next c.loop-t.invariant c.rise-risen.ensures c.tick-counted.ensures

pub returns : goal.returns
returns c =
    let last : c.loop-t.t ≡ c.args.n = omega arith in
    rw last at c.loop-t.invariant
