-- `session_bytes::run_into` meets its contract: refused before anything is written (`session_err`), else the fronts of the arrays
-- have room for the words and the masks, and the outputs for their bytes. Assumes nothing.
use mathlib.Core.Path.{◌≡◌, sym, ◌∙◌}
use mathlib.Core.List.{List}
use Prim.Native.Nat.{ℕ, ◌*◌, ◌/◌, ◌≤◌}
use native.Mathlib.Nat.{le_of_eq, le_refl}
use native.Mathlib.Omega.{arith}
use lib.Seq.{length-take-le}
use lib.ListN.{length}
use Rattle.std.proofs.Common.{rules}
use Rattle.book.specs.Layout.{slots}
use Rattle.session_fault.proofs.EntryLaws.{session_fault_good, session_fault_short, session_fault_room_words, session_fault_room_masks}
use Rattle.session_fault.proofs.EntryLaws.{session_of_good, session_err}
use Rattle.session_fault.specs.Entry.{session_fault}
use Rattle.settle_fault.proofs.SettleLaws.{fit_of}
use Rattle.settle_fault.specs.Ready.{Capacity}
use Rattle.elements.proofs.ElementsLaws.{bytes_of_empty}
use Rattle.elements.specs.Elements.{bytes_of, whole}
use Rattle.entries_model.specs.Entries.{full_limits}
use Rattle.session_bytes.proofs.run_into.Goals as goal

-- the arrays have room for every book
capacity : Capacity full_limits
capacity = record { slots = le_refl 256; values = le_refl 32 }

-- two words a call, and n masks, as many as the book has slots: room for them in the arrays and in the outputs
module _ (b : List ℕ) (bytes : ℕ) (A M : List ℕ) (none : 0 ≡ session_fault full_limits b bytes (whole 4 (length A)) (whole 4 (length M))) where
  most_words : 2 * (bytes / 4) ≤ 8192
  most_words = omega (arith, session_fault_short full_limits b bytes (whole 4 (length A)) (whole 4 (length M)) (sym none))

  room_words : 2 * (bytes / 4) ≤ whole 4 (length A)
  room_words = session_fault_room_words full_limits b bytes (whole 4 (length A)) (whole 4 (length M)) (sym none)

  module _ (n : ℕ) (size : n ≡ slots b) where
    most : n ≤ 256
    most = rw size (session_fault_good full_limits b bytes (whole 4 (length A)) (whole 4 (length M)) (sym none)).header.slots_most

    room : n ≤ whole 4 (length M)
    room = rw size (session_fault_room_masks full_limits b bytes (whole 4 (length A)) (whole 4 (length M)) (sym none))

pub returns-in_err-check : goal.returns-in_err-check
returns-in_err-check c =
    let told = session_err (bytes_of 4) full_limits c.args.book.now c.args.calls.now _ _ c.in_err-check.field-0.0 c.args.answers.now c.args.masks.now
    (bytes_of_empty 4) c.in_err-check.ensures in
    search (rules, told)

pub slots-n-requires : goal.slots-n-requires
slots-n-requires c = (session_fault_good _ _ _ _ _ (sym c.in_ok-check.ensures)).header.header_inside

pub slice_bounds-words-end : goal.slice_bounds-words-end
slice_bounds-words-end c = most_words _ _ c.args.answers.now c.args.masks.now c.in_ok-check.ensures

pub slice_bounds-session_out-end : goal.slice_bounds-session_out-end
slice_bounds-session_out-end c = sym (length-take-le _ _ (most_words _ _ c.args.answers.now c.args.masks.now c.in_ok-check.ensures))

pub slice_bounds-row-end : goal.slice_bounds-row-end
slice_bounds-row-end c = most _ _ c.args.answers.now c.args.masks.now c.in_ok-check.ensures _ c.slots-n.ensures.0

pub slice_bounds-session_out-end-2 : goal.slice_bounds-session_out-end-2
slice_bounds-session_out-end-2 c =
    sym (length-take-le _ _ (most _ _ c.args.answers.now c.args.masks.now c.in_ok-check.ensures _ c.slots-n.ensures.0))

pub session_out-requires : goal.session_out-requires
session_out-requires c =
    let words_long = length-take-le _ _ (most_words _ _ c.args.answers.now c.args.masks.now c.in_ok-check.ensures) in
    let row_long = length-take-le _ _ (most _ _ c.args.answers.now c.args.masks.now c.in_ok-check.ensures _ c.slots-n.ensures.0) in
    record {
      ready = record {
        ready = record {
          book = fit_of capacity (session_fault_good _ _ _ _ _ (sym c.in_ok-check.ensures));
          masks = row_long ∙ c.slots-n.ensures.0;
        };
        room = le_of_eq (sym words_long);
      };
      words_exact = words_long;
      answers_in = omega (arith, words_long, room_words _ _ c.args.answers.now c.args.masks.now c.in_ok-check.ensures);
      masks_inside = omega (arith, row_long, room _ _ c.args.answers.now c.args.masks.now c.in_ok-check.ensures _ c.slots-n.ensures.0);
    }

pub returns : goal.returns
returns c = rw (session_of_good _ _ _ _ _ (sym c.in_ok-check.ensures)) c.session_out.ensures
