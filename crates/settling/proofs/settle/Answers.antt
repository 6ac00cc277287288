-- `settling::settle` meets its contract: refused before anything is lent on (`settles_err`), else the front of the output goes to
-- `settle_exactly` and comes back written (`settles_wrote`, closing's `overlay_front`). Assumes nothing.
use mathlib.Core.Path.{◌≡◌, refl, sym, ◌∙◌}
use mathlib.Core.List.{List}
use Prim.Native.Nat.{ℕ, ◌≤◌}
use lib.ListN.{length, take}
use lib.Seq.{length-take-le}
use Rattle.std.proofs.Common.{rules}
use Rattle.book.specs.declared.Limits.{Limits}
use Rattle.book.specs.Layout.{slots}
use Rattle.closing.proofs.CloseLaws.{overlay_front}
use Rattle.settle_fault.specs.Settle.{settle_fault}
use Rattle.settle_fault.proofs.SettleLaws.{settle_fault_good, settle_fault_room, settle_of_good, settles_err, settles_wrote, ready_of}
use Rattle.settling.proofs.settle.Goals as goal

-- room for n masks, as many as the book has slots
module _ (limits : Limits) (b M : List ℕ) (n : ℕ) (none : 0 ≡ settle_fault limits b (length M)) (size : n ≡ slots b) where
  room : n ≤ length M
  room = rw size (settle_fault_room limits b (length M) (sym none))

  front : length (take n M) ≡ n
  front = length-take-le n M room

pub returns-in_err-check : goal.returns-in_err-check
returns-in_err-check c =
    let told = settles_err (λ xs. xs) c.args.limits c.args.book.now _ c.in_err-check.field-0.0 c.args.masks.now refl c.in_err-check.ensures in
    search (rules, told)

pub slots-n-requires : goal.slots-n-requires
slots-n-requires c = (settle_fault_good _ _ _ (sym c.in_ok-check.ensures)).header.header_inside

pub slice_bounds-settle_exactly-end : goal.slice_bounds-settle_exactly-end
slice_bounds-settle_exactly-end c = room _ _ _ _ c.in_ok-check.ensures c.slots-n.ensures.0

pub slice_bounds-settle_exactly-end-2 : goal.slice_bounds-settle_exactly-end-2
slice_bounds-settle_exactly-end-2 c = sym (front _ _ _ _ c.in_ok-check.ensures c.slots-n.ensures.0)

pub settle_exactly-requires : goal.settle_exactly-requires
settle_exactly-requires c =
    ready_of _ _ _ c.requires (sym c.in_ok-check.ensures) (front _ _ _ _ c.in_ok-check.ensures c.slots-n.ensures.0 ∙ c.slots-n.ensures.0)

pub returns : goal.returns
returns c =
    let settled = c.settle_exactly in
    rw (settle_of_good _ _ _ (sym c.in_ok-check.ensures))
    (settles_wrote (λ xs. xs) _ settled.result settled.ensures
    (overlay_front _ settled.new.masks c.args.masks.now (settled.auto.masks ∙ front _ _ _ _ c.in_ok-check.ensures c.slots-n.ensures.0)))
