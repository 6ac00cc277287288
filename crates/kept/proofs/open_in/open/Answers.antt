-- `kept::open_in::open` meets its contract: refused before anything is lent on (`open_refused`), else the front of the masks goes to `open_exactly` and
-- comes back written (`open_done`, closing's `overlay_front`). Assumes nothing.
use mathlib.Core.Path.{◌≡◌, refl, sym, ◌∙◌}
use mathlib.Core.Bool.{Bool}
use mathlib.Core.List.{List}
use Prim.Native.Nat.{ℕ, ◌≤◌}
use lib.ListN.{length, take}
use lib.Seq.{length-take-le}
use Rattle.std.proofs.Common.{rules}
use Rattle.answer.specs.Answer as Answer
use Rattle.book.specs.Layout.{slots}
use Rattle.book.proofs.RefusalLaws.{some_number}
use Rattle.closing.proofs.CloseLaws.{overlay_front}
use Rattle.kept_model.specs.Entries.{open_fault}
use Rattle.kept_model.specs.Memory.{memory, sized}
use Rattle.kept_model.proofs.EntriesLaws.{open_fault_facts, slots_inside, open_ready, open_refused, open_unrefused, open_done}
use Rattle.kept.proofs.open_in.open.Goals as goal

-- nothing refuses: room for n masks, as many as the book has slots
module _ (b masks cells trail heights numbers : List ℕ) (fits : Bool) (fits_is : fits ≡ sized (memory masks cells trail heights numbers))
    (none : 0 ≡ open_fault b fits) where
  unrefused : open_fault b (sized (memory masks cells trail heights numbers)) ≡ 0
  unrefused = open_unrefused b (memory masks cells trail heights numbers) fits 0 fits_is none refl

  module _ (n : ℕ) (size : n ≡ slots b) where
    room : n ≤ length masks
    room = rw size (slots_inside b masks cells trail heights numbers unrefused)

    front : length (take n masks) ≡ n
    front = length-take-le n masks room

pub returns-in_err-check : goal.returns-in_err-check
returns-in_err-check c =
    let e = c.in_err-check.field-0.0 in
    let before = memory c.args.masks.now c.args.cells.now c.args.trail.now c.args.heights.now c.args.numbers.now in
    let told = open_refused c.args.book.now before c.sized-fits.result (Answer.number_of e) c.sized-fits.ensures c.in_err-check.ensures (some_number e) in
    search (rules, told)

pub slots-n-requires : goal.slots-n-requires
slots-n-requires c =
    let none = unrefused _ _ c.args.cells.now c.args.trail.now c.args.heights.now c.args.numbers.now _ c.sized-fits.ensures c.in_ok-check.ensures in
    (open_fault_facts _ _ none).header.header_inside

pub slice_bounds-open_exactly-end : goal.slice_bounds-open_exactly-end
slice_bounds-open_exactly-end c =
    room _ c.args.masks.now c.args.cells.now c.args.trail.now c.args.heights.now c.args.numbers.now _ c.sized-fits.ensures c.in_ok-check.ensures _
    c.slots-n.ensures.0

pub slice_bounds-open_exactly-end-2 : goal.slice_bounds-open_exactly-end-2
slice_bounds-open_exactly-end-2 c =
    sym
    (front _ c.args.masks.now c.args.cells.now c.args.trail.now c.args.heights.now c.args.numbers.now _ c.sized-fits.ensures c.in_ok-check.ensures _
    c.slots-n.ensures.0)

pub open_exactly-requires : goal.open_exactly-requires
open_exactly-requires c =
    open_ready _ c.args.masks.now c.args.cells.now c.args.trail.now c.args.heights.now c.args.numbers.now
    (unrefused _ _ _ _ _ _ _ c.sized-fits.ensures c.in_ok-check.ensures) c.slots-n.ensures.0

pub returns : goal.returns
returns c =
    let done = c.open_exactly in
    let long = front _ c.args.masks.now c.args.cells.now c.args.trail.now c.args.heights.now c.args.numbers.now _ c.sized-fits.ensures
    c.in_ok-check.ensures _ c.slots-n.ensures.0 in
    rw (overlay_front _ done.new.masks c.args.masks.now (done.auto.masks ∙ long))
    (open_done c.args.masks.now c.args.cells.now c.args.trail.now c.args.heights.now c.args.numbers.now
    (unrefused _ _ _ _ _ _ _ c.sized-fits.ensures c.in_ok-check.ensures) done.ensures done.auto.cells done.auto.trail)
