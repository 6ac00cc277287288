-- `mirroring::build_rows` meets its contract. The invariant of its loop: the rows of the values below v are built (`RowsBuilt`). Each turn is
-- `rows_more`. Assumes nothing.
use native.Mathlib.Omega.{arith}
use borrow.Author.Tests.{not-true, not-false}
use Rattle.mirroring.proofs.BuiltLaws.{row_fits, rows_none, rows_more, rows_broken, rows_all}
use Rattle.mirroring.proofs.build_rows.Goals as goal

pub loop-v-init : goal.loop-v-init
loop-v-init c = rows_none _ _ _ _ _ _

pub build_in-requires : goal.build_in-requires
build_in-requires c =
    let args = c.args in
    let pre = c.requires in
    let building = pre.0 in
    let fits = row_fits building args.lower c.loop-v.v args.first pre.1 c.loop-v-test.true in (
      omega (arith, fits, c.loop-v.invariant.size),
      building.rises_in,
      building.slots,
      omega (arith, building.slots_fit),
      omega (arith, building.values_fit, c.loop-v-test.true),
    )

pub returns-then-not-build_in : goal.returns-then-not-build_in
returns-then-not-build_in c =
    let build-in = c.build_in in
    let loop-test = c.loop-v-test in
    let loop = c.loop-v in
    let pre = c.requires in
    rows_broken pre.0 pre.1 loop-test.true loop.invariant build-in.ensures (not-true _ c.if-not-build_in.true-raw)

pub loop-v-preserved : goal.loop-v-preserved
loop-v-preserved c =
    let build-in = c.build_in in
    let loop-test = c.loop-v-test in
    let loop = c.loop-v in
    let pre = c.requires in
    rows_more pre.0 pre.1 loop-test.true loop.invariant build-in.ensures (not-false _ c.if-not-build_in.false-raw)

pub returns : goal.returns
returns c = rows_all c.loop-v-test.false c.loop-v.invariant
