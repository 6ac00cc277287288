-- `session::entry::run_session` meets its contract: refused before anything is lent on (`session_err`), else the front of the masks goes to
-- `run_exactly` and comes back written (`session_ran`, closing's `overlay_front`). Assumes nothing.
use mathlib.Core.Path.{◌≡◌, refl, sym, ◌∙◌}
use mathlib.Core.List.{List}
use Prim.Native.Nat.{ℕ, ◌≤◌}
use lib.Seq.{length-take-le}
use lib.ListN.{length, take}
use Rattle.std.proofs.Common.{rules}
use Rattle.book.specs.declared.Limits.{Limits}
use Rattle.book.specs.Layout.{slots}
use Rattle.closing.proofs.CloseLaws.{overlay_front}
use Rattle.session_fault.specs.Entry.{session_fault}
use Rattle.session_fault.proofs.EntryLaws.{session_fault_good, session_fault_room_masks, session_of_good, session_err, session_ran, session_ready}
use Rattle.session.proofs.entry.run_session.Goals as goal

-- room for n masks, as many as the book has slots
module _ (limits : Limits) (b : List ℕ) (bytes words : ℕ) (M : List ℕ) (n : ℕ) (none : 0 ≡ session_fault limits b bytes words (length M))
    (size : n ≡ slots b) where
  room : n ≤ length M
  room = rw size (session_fault_room_masks limits b bytes words (length M) (sym none))

  front : length (take n M) ≡ n
  front = length-take-le n M room

pub returns-in_err-check : goal.returns-in_err-check
returns-in_err-check c =
    let told = session_err (λ xs. xs) c.args.limits c.args.book.now c.args.calls.now _ _ c.in_err-check.field-0.0 c.args.answers.now c.args.masks.now
    refl c.in_err-check.ensures in
    search (rules, told)

pub slots-n-requires : goal.slots-n-requires
slots-n-requires c = (session_fault_good _ _ _ _ _ (sym c.in_ok-check.ensures)).header.header_inside

pub slice_bounds-run_exactly-end : goal.slice_bounds-run_exactly-end
slice_bounds-run_exactly-end c = room _ _ _ _ _ _ c.in_ok-check.ensures c.slots-n.ensures.0

pub slice_bounds-run_exactly-end-2 : goal.slice_bounds-run_exactly-end-2
slice_bounds-run_exactly-end-2 c = sym (front _ _ _ _ _ _ c.in_ok-check.ensures c.slots-n.ensures.0)

pub run_exactly-requires : goal.run_exactly-requires
run_exactly-requires c =
    session_ready _ _ _ _ c.requires (sym c.in_ok-check.ensures)
    (front _ _ _ _ _ _ c.in_ok-check.ensures c.slots-n.ensures.0 ∙ c.slots-n.ensures.0)

pub returns : goal.returns
returns c =
    let ran = c.run_exactly in
    rw (session_of_good _ _ _ _ _ (sym c.in_ok-check.ensures))
    (session_ran (λ xs. xs) c.args.book.now c.args.calls.now ran.result ran.ensures.answer refl ran.ensures.masks ran.ensures.words
    (overlay_front _ ran.new.masks c.args.masks.now (ran.auto.masks ∙ front _ _ _ _ _ _ c.in_ok-check.ensures c.slots-n.ensures.0)))
