-- Books of the same parts that close to the same table are answered alike: `same_alike`, from `SameBook` to `AnswersAlike` of `specs/CanonicalMeaning.antt`. A
-- session's rules have slots, types, byte 3 and the closed table of a book, and nothing else of it (`rules_of`). No contract cites this file.
-- Assumes nothing.
use mathlib.Core.Path.{◌≡◌, refl, sym, subst, ◌∙◌}
use mathlib.Core.List.{List}
use Prim.Native.Nat.{ℕ}
use lib.ListN.{length}
use Rattle.book.specs.Refusal.{refusal, GoodBook}
use Rattle.elements.specs.Elements.{bytes_of, whole}
use Rattle.closing.specs.Close as Close
use Rattle.closing.specs.Close.{close_fault, close_good, close_of}
use Rattle.settle_fault.specs.Settle.{settle_fault, settle_good, settle_of}
use Rattle.session_fault.specs.Entry.{session_fault, session_good, session_of, Outcome, SessionRan}
use Rattle.probe_model.specs.Probe.{probe_fault, probe}
use Rattle.entries_model.specs.Entries.{full_limits}
use Rattle.entries_model.specs.CanonicalMeaning.{SameBook, AnswersAlike}

module _ {b c : List ℕ} (good : GoodBook full_limits b) (same : SameBook b c) where
  unrefused : refusal full_limits c ≡ refusal full_limits b
  unrefused = same.good ∙ sym good

  close_same : (L U : ℕ) → close_of full_limits c L U ≡ close_of full_limits b L U
  unfolding close_of close_fault close_good
  close_same L U = rw (unrefused, same.closes_same, same.parts.slots_same, same.parts.types_same) refl

  settle_same : (M : ℕ) → settle_of full_limits c M ≡ settle_of full_limits b M
  unfolding settle_of settle_fault settle_good
  settle_same M = rw (unrefused, same.settles_same, same.parts.slots_same) refl

  session_same : (calls : List ℕ) (A M : ℕ) → session_of full_limits c calls A M ≡ session_of full_limits b calls A M
  unfolding session_of session_fault session_good
  session_same calls A M =
      let parts = same.parts in
      rw (unrefused, same.settles_same, same.closes_same, parts.masks_same, parts.slots_same, parts.types_same, parts.byte_3_same) refl

  probe_same : (calls D : List ℕ) → probe full_limits c calls D ≡ probe full_limits b calls D
  unfolding probe probe_fault
  probe_same calls D =
      let parts = same.parts in
      rw (unrefused, same.settles_same, same.closes_same, parts.masks_same, parts.slots_same, parts.types_same, parts.byte_3_same) refl

  pub same_alike : AnswersAlike b c
  same_alike =
      record {
        close = λ L U r L' U' entry.
            subst (λ (o : Close.Outcome). Close.Closes (bytes_of 2) o r L U L' U') (sym (close_same (whole 2 (length L)) (whole 2 (length U)))) entry;
        settle = λ M r M' entry. rw (settle_same (whole 4 (length M))) entry;
        session = λ calls A M r A' M' entry.
            subst (λ (o : Outcome). SessionRan (bytes_of 4) o r A M A' M') (sym (session_same calls (whole 4 (length A)) (whole 4 (length M)))) entry;
        probe = λ calls D r D' entry. entry ∙ sym (probe_same calls D);
      }
