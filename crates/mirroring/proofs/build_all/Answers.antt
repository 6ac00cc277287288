-- `mirroring::build_all` meets its contract: the rows of one kind, then those of the other, then the set of open slots (`all_broken_low`,
-- `all_broken_high`, `all_built`). Assumes nothing.
use native.Mathlib.Omega.{arith}
use borrow.Author.Tests.{not-true, not-false}
use Rattle.mirroring.proofs.BuiltLaws.{rows_at, all_broken_low, all_broken_high, all_built}
use Rattle.mirroring.proofs.build_all.Goals as goal

pub returns-then-not-build_rows : goal.returns-then-not-build_rows
returns-then-not-build_rows c =
    let build-rows = c.build_rows in
    all_broken_low (rows_at (not-true _ c.if-not-build_rows.true-raw) build-rows.ensures)

pub returns-then-not-build_rows-2 : goal.returns-then-not-build_rows-2
returns-then-not-build_rows-2 c = all_broken_high (rows_at (not-false _ c.if-not-build_rows.false-raw) c.build_rows.ensures) (rows_at (not-true _ c.if-not-build_rows-2.true-raw) c.build_rows-2.ensures)

pub mark_open-requires : goal.mark_open-requires
mark_open-requires c =
    let building = c.requires.0 in
    record {
      slots_fit = building.slots_fit;
      values_fit = building.values_fit;
      slots = building.slots;
      rows = omega (arith, building.rows, c.build_rows.ensures.size, c.build_rows-2.ensures.size);
    }

pub returns : goal.returns
returns c = all_built (rows_at (not-false _ c.if-not-build_rows.false-raw) c.build_rows.ensures) c.requires.0 (rows_at (not-false _ c.if-not-build_rows-2.false-raw) c.build_rows-2.ensures) c.mark_open.ensures
