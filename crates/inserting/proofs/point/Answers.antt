-- `inserting::point` meets its contract. The invariant: c is the link from i to `next`, and the cells from `from` on and before i are such links
-- (`Pointed`). One more cell: `pointed_more`. Assumes nothing.
use mathlib.Core.Path.{◌≡◌}
use Prim.Native.Nat.{◌+◌, ◌-◌}
use native.Mathlib.Omega.{arith}
use Rattle.segments_model.proofs.LinkedLaws.{pointed_more}
use Rattle.inserting.proofs.point.Goals as goal

pub loop-i-preserved : goal.loop-i-preserved
loop-i-preserved c =
    let now = c.loop-i in
    let link : now.c ≡ 1024 + (c.args.next - now.i - 1) = omega arith in
    (omega arith, omega arith, rw link (pointed_more now.invariant.2 now.invariant.0 (omega (arith, now.invariant.2.size))))
