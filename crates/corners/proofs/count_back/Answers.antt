-- `corners::count_back` meets its contract. The invariant: i is not before s, and the counts stand at i (`Counts`). One step
-- back: `counts_last`. Assumes nothing.
use mathlib.Core.Path.{◌≡◌}
use Prim.Native.Nat.{◌+◌, ◌-◌}
use native.Mathlib.Omega.{arith}
use Rattle.segments_model.proofs.CountsLaws.{risen_has, counted_has, counts_last}
use Rattle.corners.proofs.count_back.Goals as goal

pub loop-i-init : goal.loop-i-init
loop-i-init c = (omega arith, c.requires.4)

pub overflow_sub-r : goal.overflow_sub-r
overflow_sub-r c =
    let back : c.loop-i.i - 1 + 1 ≡ c.loop-i.i = omega arith in
    risen_has c.loop-i.invariant.1 (omega arith) (rw back at c.rise-r.ensures)

pub overflow_sub-k : goal.overflow_sub-k
overflow_sub-k c = counted_has c.loop-i.invariant.1 (omega arith) c.tick-k.ensures

pub loop-i-preserved : goal.loop-i-preserved
loop-i-preserved c =
    let back : c.loop-i.i - 1 + 1 ≡ c.loop-i.i = omega arith in
    (omega arith, counts_last c.loop-i.invariant.1 (omega arith) (rw back at c.rise-r.ensures) c.tick-k.ensures)

pub returns : goal.returns
returns c =
    let last : c.loop-i.i ≡ c.args.s = omega arith in
    rw last at c.loop-i.invariant.1
