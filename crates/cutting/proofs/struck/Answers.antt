-- `cutting::struck` meets its contract. The invariant: `count` is how many of the strikes that were passed took out another value than the idle one. The
-- measure is how many are left. One strike more: `struck_next`. So many ones the masks have lost: `ones_lost`. Assumes nothing.
use mathlib.Core.Path.{◌≡◌}
use Prim.Native.Nat.{◌+◌, ◌-◌}
use native.Mathlib.Omega.{arith}
use Rattle.cutting.proofs.StruckLaws.{news_struck_le, struck_next, ones_lost}
use Rattle.cutting.proofs.struck.Goals as goal

pub loop-i-init : goal.loop-i-init
loop-i-init c =
    let args = c.args in (
      omega arith,
      omega (arith, c.requires.order),
      omega (arith, news_struck_le args.idle args.n args.trail.now args.from (args.from - args.from)),
    )

pub value_at-v-requires : goal.value_at-v-requires
value_at-v-requires c = omega (arith, c.loop-i-test.true, c.requires.upto)

pub only-requires : goal.only-requires
only-requires c = omega (arith, c.value_at-v.ensures)

pub overflow_add-count : goal.overflow_add-count
overflow_add-count c =
    let args = c.args in
    let pre = c.requires in
    let loop = c.loop-i in
    let only = c.only in
    let value = c.value_at-v in
    let trail = args.trail.now in
    let next = struck_next args.idle args.n trail args.from loop.i loop.count only.result value.result c.news-count.result
    loop.invariant.0 loop.invariant.2 value.ensures only.ensures c.news-count.ensures in
    omega (
      arith,
      next,
      news_struck_le args.idle args.n trail args.from (loop.i + 1 - args.from),
      c.loop-i-test.true,
      pre.upto,
      pre.heights_fit,
    )

pub overflow_step-i : goal.overflow_step-i
overflow_step-i c =
    let pre = c.requires in
    omega (arith, c.loop-i-test.true, pre.upto, pre.heights_fit)

pub loop-i-smaller : goal.loop-i-smaller
loop-i-smaller c = omega (arith, c.loop-i-test.true)

pub loop-i-preserved : goal.loop-i-preserved
loop-i-preserved c =
    let args = c.args in
    let loop = c.loop-i in
    let only = c.only in
    let value = c.value_at-v in
    let next = struck_next args.idle args.n args.trail.now args.from loop.i loop.count only.result value.result c.news-count.result
    loop.invariant.0 loop.invariant.2 value.ensures only.ensures c.news-count.ensures in
    (omega (arith, loop.invariant.0), omega (arith, c.loop-i-test.true), next)

pub returns : goal.returns
returns c =
    let last : c.loop-i.i ≡ c.args.to = omega (arith, c.loop-i-test.false, c.loop-i.invariant.1) in
    ones_lost _ _ _ _ _ _ (rw last at c.loop-i.invariant.2)
