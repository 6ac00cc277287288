-- `close_bytes::close_into` meets its contract: refused before anything is written (`closes_err`), else the fronts of both
-- arrays go to `close_exactly` and are written out as bytes (`closes_wrote`, `overlay_written`). Assumes nothing.
use mathlib.Core.Path.{◌≡◌, sym, ◌∙◌}
use mathlib.Core.List.{List}
use Prim.Native.Nat.{ℕ, ◌≤◌}
use lib.ListN.{length}
use lib.Seq.{length-take-le}
use Rattle.std.proofs.Common.{rules}
use Rattle.elements.specs.Elements.{bytes_of, whole}
use Rattle.elements.proofs.ElementsLaws.{bytes_of_empty}
use Rattle.closing_model.specs.Start.{entries}
use Rattle.closing.specs.Close.{close_fault}
use Rattle.closing.proofs.CloseLaws.{close_fault_good, close_fault_room_lowers, close_fault_room_uppers, close_of_good, closes_err, closes_wrote, ready_of}
use Rattle.entries_model.specs.Entries.{full_limits}
use Rattle.close_bytes.proofs.CloseBytesLaws.{entries_most, front_inside, length_front, front_fits, overlay_written}
use Rattle.close_bytes.proofs.close_into.Goals as goal

-- m elements, as many as the book's table has: room for them in the arrays and in the outputs
module _ (b L U : List ℕ) (m : ℕ) (none : 0 ≡ close_fault full_limits b (whole 2 (length L)) (whole 2 (length U))) (size : m ≡ entries b) where
  most : m ≤ 8224
  most = rw size (entries_most b (close_fault_good full_limits b (whole 2 (length L)) (whole 2 (length U)) (sym none)))

  room_lowers : m ≤ whole 2 (length L)
  room_lowers = rw size (close_fault_room_lowers full_limits b (whole 2 (length L)) (whole 2 (length U)) (sym none))

  room_uppers : m ≤ whole 2 (length U)
  room_uppers = rw size (close_fault_room_uppers full_limits b (whole 2 (length L)) (whole 2 (length U)) (sym none))

pub returns-in_err-check : goal.returns-in_err-check
returns-in_err-check c =
    let told = closes_err (bytes_of 2) full_limits c.args.book.now _ _ c.in_err-check.field-0.0 c.args.lowers.now c.args.uppers.now (bytes_of_empty 2)
    c.in_err-check.ensures in
    search (rules, told)

pub table_size-m-requires : goal.table_size-m-requires
table_size-m-requires c = (close_fault_good _ _ _ _ (sym c.in_ok-check.ensures)).header.header_inside

pub slice_bounds-lower_table-end : goal.slice_bounds-lower_table-end
slice_bounds-lower_table-end c = most _ c.args.lowers.now c.args.uppers.now _ c.in_ok-check.ensures c.table_size-m.ensures

pub slice_bounds-close_exactly-end : goal.slice_bounds-close_exactly-end
slice_bounds-close_exactly-end c =
    sym (length-take-le _ _ (most _ c.args.lowers.now c.args.uppers.now _ c.in_ok-check.ensures c.table_size-m.ensures))

pub slice_bounds-upper_table-end : goal.slice_bounds-upper_table-end
slice_bounds-upper_table-end c = most _ c.args.lowers.now c.args.uppers.now _ c.in_ok-check.ensures c.table_size-m.ensures

pub slice_bounds-close_exactly-end-2 : goal.slice_bounds-close_exactly-end-2
slice_bounds-close_exactly-end-2 c =
    sym (length-take-le _ _ (most _ c.args.lowers.now c.args.uppers.now _ c.in_ok-check.ensures c.table_size-m.ensures))

pub close_exactly-verdict-requires : goal.close_exactly-verdict-requires
close_exactly-verdict-requires c =
    let long = length-take-le _ _ (most _ c.args.lowers.now c.args.uppers.now _ c.in_ok-check.ensures c.table_size-m.ensures) in
    ready_of _ _ _ _ (sym c.in_ok-check.ensures) (long ∙ c.table_size-m.ensures) (long ∙ c.table_size-m.ensures)

pub slice_bounds-lower_table-end-2 : goal.slice_bounds-lower_table-end-2
slice_bounds-lower_table-end-2 c =
    let long = length-take-le _ _ (most _ c.args.lowers.now c.args.uppers.now _ c.in_ok-check.ensures c.table_size-m.ensures) in
    front_inside _ c.close_exactly-verdict.new.lowers _ (c.close_exactly-verdict.auto.lowers ∙ long)

pub slice_bounds-write16-end : goal.slice_bounds-write16-end
slice_bounds-write16-end c =
    let long = length-take-le _ _ (most _ c.args.lowers.now c.args.uppers.now _ c.in_ok-check.ensures c.table_size-m.ensures) in
    length_front _ c.close_exactly-verdict.new.lowers _ (c.close_exactly-verdict.auto.lowers ∙ long)

pub write16-requires : goal.write16-requires
write16-requires c =
    let long = length-take-le _ _ (most _ c.args.lowers.now c.args.uppers.now _ c.in_ok-check.ensures c.table_size-m.ensures) in
    front_fits _ c.close_exactly-verdict.new.lowers _ (c.close_exactly-verdict.auto.lowers ∙ long) _
    (room_lowers _ c.args.lowers.now c.args.uppers.now _ c.in_ok-check.ensures c.table_size-m.ensures)

pub slice_bounds-upper_table-end-2 : goal.slice_bounds-upper_table-end-2
slice_bounds-upper_table-end-2 c =
    let long = length-take-le _ _ (most _ c.args.lowers.now c.args.uppers.now _ c.in_ok-check.ensures c.table_size-m.ensures) in
    front_inside _ c.close_exactly-verdict.new.uppers _ (c.close_exactly-verdict.auto.uppers ∙ long)

pub slice_bounds-write16-end-2 : goal.slice_bounds-write16-end-2
slice_bounds-write16-end-2 c =
    let long = length-take-le _ _ (most _ c.args.lowers.now c.args.uppers.now _ c.in_ok-check.ensures c.table_size-m.ensures) in
    length_front _ c.close_exactly-verdict.new.uppers _ (c.close_exactly-verdict.auto.uppers ∙ long)

pub write16-requires-2 : goal.write16-requires-2
write16-requires-2 c =
    let long = length-take-le _ _ (most _ c.args.lowers.now c.args.uppers.now _ c.in_ok-check.ensures c.table_size-m.ensures) in
    front_fits _ c.close_exactly-verdict.new.uppers _ (c.close_exactly-verdict.auto.uppers ∙ long) _
    (room_uppers _ c.args.lowers.now c.args.uppers.now _ c.in_ok-check.ensures c.table_size-m.ensures)

pub returns : goal.returns
returns c =
    let long = length-take-le _ _ (most _ c.args.lowers.now c.args.uppers.now _ c.in_ok-check.ensures c.table_size-m.ensures) in
    rw (close_of_good _ _ _ _ (sym c.in_ok-check.ensures))
    (closes_wrote (bytes_of 2) _ c.close_exactly-verdict.result c.close_exactly-verdict.ensures
    (overlay_written _ c.close_exactly-verdict.new.lowers _ (c.close_exactly-verdict.auto.lowers ∙ long) _ _ c.write16.ensures)
    (overlay_written _ c.close_exactly-verdict.new.uppers _ (c.close_exactly-verdict.auto.uppers ∙ long) _ _ c.write16-2.ensures))
