-- `settle_bytes::settle_into` meets its contract: refused before anything is written (`settles_err`), else the front of the array has room
-- for the masks, and the output for their bytes. Assumes nothing.
use mathlib.Core.Path.{◌≡◌, sym, ◌∙◌}
use mathlib.Core.List.{List}
use Prim.Native.Nat.{ℕ, ◌≤◌}
use native.Mathlib.Nat.{le_refl}
use native.Mathlib.Omega.{arith}
use lib.ListN.{length}
use lib.Seq.{length-take-le}
use Rattle.std.proofs.Common.{rules}
use Rattle.book.specs.Layout.{slots}
use Rattle.elements.specs.Elements.{bytes_of, whole}
use Rattle.elements.proofs.ElementsLaws.{bytes_of_empty}
use Rattle.settle_fault.specs.Settle.{settle_fault}
use Rattle.settle_fault.specs.Ready.{Capacity}
use Rattle.settle_fault.proofs.SettleLaws.{settle_fault_good, settle_fault_room, settle_of_good, settles_err, ready_of}
use Rattle.entries_model.specs.Entries.{full_limits}
use Rattle.settle_bytes.proofs.settle_into.Goals as goal

-- the array has room for every book
capacity : Capacity full_limits
capacity = record { slots = le_refl 256; values = le_refl 32 }

-- n masks, as many as the book has slots: room for them in the array and in the output
module _ (b M : List ℕ) (n : ℕ) (none : 0 ≡ settle_fault full_limits b (whole 4 (length M))) (size : n ≡ slots b) where
  most : n ≤ 256
  most = rw size (settle_fault_good full_limits b (whole 4 (length M)) (sym none)).header.slots_most

  room : n ≤ whole 4 (length M)
  room = rw size (settle_fault_room full_limits b (whole 4 (length M)) (sym none))

pub returns-in_err-check : goal.returns-in_err-check
returns-in_err-check c =
    let told = settles_err (bytes_of 4) full_limits c.args.book.now _ c.in_err-check.field-0.0 c.args.masks.now (bytes_of_empty 4)
    c.in_err-check.ensures in
    search (rules, told)

pub slots-n-requires : goal.slots-n-requires
slots-n-requires c = (settle_fault_good _ _ _ (sym c.in_ok-check.ensures)).header.header_inside

pub slice_bounds-words-end : goal.slice_bounds-words-end
slice_bounds-words-end c = most _ c.args.masks.now _ c.in_ok-check.ensures c.slots-n.ensures.0

pub slice_bounds-settle_out-end : goal.slice_bounds-settle_out-end
slice_bounds-settle_out-end c = sym (length-take-le _ _ (most _ c.args.masks.now _ c.in_ok-check.ensures c.slots-n.ensures.0))

pub settle_out-requires : goal.settle_out-requires
settle_out-requires c =
    let long = length-take-le _ _ (most _ c.args.masks.now _ c.in_ok-check.ensures c.slots-n.ensures.0) in
    let enough = room _ c.args.masks.now _ c.in_ok-check.ensures c.slots-n.ensures.0 in
    (ready_of _ _ _ capacity (sym c.in_ok-check.ensures) (long ∙ c.slots-n.ensures.0), omega (arith, long, enough))

pub returns : goal.returns
returns c = rw (settle_of_good _ _ _ (sym c.in_ok-check.ensures)) c.settle_out.ensures
