-- `closing::close` meets its contract: refused before anything is lent on (`closes_err`), else the fronts of both outputs go to
-- `close_exactly` and come back written (`closes_wrote`, `overlay_front`). Assumes nothing.
use mathlib.Core.Path.{◌≡◌, refl, sym, ◌∙◌}
use mathlib.Core.List.{List}
use Prim.Native.Nat.{ℕ, ◌≤◌}
use lib.ListN.{length, take}
use lib.Seq.{length-take-le}
use Rattle.std.proofs.Common.{rules}
use Rattle.book.specs.declared.Limits.{Limits}
use Rattle.closing_model.specs.Start.{entries}
use Rattle.closing.specs.Close.{close_fault}
use Rattle.closing.proofs.CloseLaws.{close_fault_good, close_fault_room_lowers, close_fault_room_uppers}
use Rattle.closing.proofs.CloseLaws.{close_of_good, overlay_front, closes_err, closes_wrote, ready_of}
use Rattle.closing.proofs.close.Goals as goal

-- room for m elements, as many as the book's table has
module _ (limits : Limits) (b L U : List ℕ) (m : ℕ) (none : 0 ≡ close_fault limits b (length L) (length U)) (size : m ≡ entries b) where
  room_lowers : m ≤ length L
  room_lowers = rw size (close_fault_room_lowers limits b (length L) (length U) (sym none))

  room_uppers : m ≤ length U
  room_uppers = rw size (close_fault_room_uppers limits b (length L) (length U) (sym none))

  front_lowers : length (take m L) ≡ m
  front_lowers = length-take-le m L room_lowers

  front_uppers : length (take m U) ≡ m
  front_uppers = length-take-le m U room_uppers

pub returns-in_err-check : goal.returns-in_err-check
returns-in_err-check c =
    let told = closes_err (λ xs. xs) c.args.limits c.args.book.now _ _ c.in_err-check.field-0.0 c.args.lowers.now c.args.uppers.now refl
    c.in_err-check.ensures in
    search (rules, told)

pub table_size-m-requires : goal.table_size-m-requires
table_size-m-requires c = (close_fault_good _ _ _ _ (sym c.in_ok-check.ensures)).header.header_inside

pub slice_bounds-close_exactly-end : goal.slice_bounds-close_exactly-end
slice_bounds-close_exactly-end c = room_lowers _ _ _ _ _ c.in_ok-check.ensures c.table_size-m.ensures

pub slice_bounds-close_exactly-end-2 : goal.slice_bounds-close_exactly-end-2
slice_bounds-close_exactly-end-2 c = sym (front_lowers _ _ _ _ _ c.in_ok-check.ensures c.table_size-m.ensures)

pub slice_bounds-close_exactly-end-3 : goal.slice_bounds-close_exactly-end-3
slice_bounds-close_exactly-end-3 c = room_uppers _ _ _ _ _ c.in_ok-check.ensures c.table_size-m.ensures

pub slice_bounds-close_exactly-end-4 : goal.slice_bounds-close_exactly-end-4
slice_bounds-close_exactly-end-4 c = sym (front_uppers _ _ _ _ _ c.in_ok-check.ensures c.table_size-m.ensures)

pub close_exactly-requires : goal.close_exactly-requires
close_exactly-requires c =
    ready_of _ _ _ _ (sym c.in_ok-check.ensures)
    (front_lowers _ _ _ _ _ c.in_ok-check.ensures c.table_size-m.ensures ∙ c.table_size-m.ensures)
    (front_uppers _ _ _ _ _ c.in_ok-check.ensures c.table_size-m.ensures ∙ c.table_size-m.ensures)

pub returns : goal.returns
returns c =
    let lowers = c.close_exactly.auto.lowers ∙ front_lowers _ _ _ _ _ c.in_ok-check.ensures c.table_size-m.ensures in
    let uppers = c.close_exactly.auto.uppers ∙ front_uppers _ _ _ _ _ c.in_ok-check.ensures c.table_size-m.ensures in
    rw (close_of_good _ _ _ _ (sym c.in_ok-check.ensures))
    (closes_wrote (λ xs. xs) _ c.close_exactly.result c.close_exactly.ensures
    (overlay_front _ c.close_exactly.new.lowers c.args.lowers.now lowers)
    (overlay_front _ c.close_exactly.new.uppers c.args.uppers.now uppers))
