-- The idle byte changes no answer of an entry but the struck figures (`same_entries`, `specs/IdleMeaning.antt`): session_model's `same_but_struck`, with the
-- refusals (`refusal_same` of the crate book) and the bytes. No contract cites this file. Assumes nothing.
use mathlib.Core.Path.{◌≡◌, refl, sym, ap, ◌∙◌, subst}
use mathlib.Core.List.{List, []}
use Prim.Native.Nat.{ℕ, zero, suc, ◌+◌, ◌*◌, ◌/◌, ◌<◌}
use native.Mathlib.Omega.{arith}
use lib.ListN.{length, get_or}
use Rattle.book.specs.Idle.{OtherIdle}
use Rattle.book.specs.Layout.{word32}
use Rattle.book.proofs.IdleLaws.{slots_same, values_same, refusal_same}
use Rattle.elements.specs.Elements.{bytes_of, whole}
use Rattle.closing.specs.Close as Close
use Rattle.closing.specs.Close.{close_fault, close_good, close_of, overlay}
use Rattle.settling_model.specs.Book.{settled_book}
use Rattle.settle_fault.specs.Settle.{settle_fault, settle_good, settle_of}
use Rattle.session_model.specs.BookRun.{replies_of}
use Rattle.session_model.specs.Calls.{calls_of}
use Rattle.session_model.specs.Idle.{SameButStruck}
use Rattle.session_model.specs.State.{State, Reply, words_of}
use Rattle.session_model.proofs.CallsLaws.{length_calls_of}
use Rattle.session_model.proofs.IdleLaws.{same_but_struck, struckless_first, struckless_second}
use Rattle.session_model.proofs.OutputLaws.{length_words}
use Rattle.session_fault.specs.Entry.{most_marks, session_fault, Outcome, refused, ran, opened_word, session_good, session_of, SessionRan}
use Rattle.probe_model.proofs.IdleLaws.{probe_same}
use Rattle.entries_model.specs.Entries.{full_limits, answered, SessionEntry}
use Rattle.entries_model.specs.IdleMeaning.{SameTold, SameEntries}
use Rattle.entries_model.specs.Meaning.{session_number, session_words, session_masks}
use Rattle.entries_model.proofs.WidthLaws.{session_words_fit, read32_written}

-- ---- the words that a host reads
read_word : (b calls A M : List ℕ) → session_number b calls A M ≡ 0 → (i : ℕ) → i < 2 * (length calls / 4)
    → word32 (overlay (bytes_of 4 (session_words b calls)) A) (4 * i) ≡ get_or (session_words b calls) i 0
read_word b calls A M unrefused i inside =
    let within : i < length (session_words b calls) = omega (arith, length_words b most_marks (calls_of calls), length_calls_of calls, inside) in
    read32_written (session_words b calls) A i within (session_words_fit b calls A M unrefused i within)

-- ---- a session's outcome
module _ (b calls A M : List ℕ) where
  outcome_refused : (x : ℕ) → session_number b calls A M ≡ suc x → session_of full_limits b calls (whole 4 (length A)) (whole 4 (length M)) ≡ refused (suc x)
  unfolding session_of
  outcome_refused x is = rw is refl

  outcome_ran : session_number b calls A M ≡ 0
      → session_of full_limits b calls (whole 4 (length A)) (whole 4 (length M)) ≡ ran (opened_word (settled_book b)) (session_words b calls) (session_masks b calls)
  unfolding session_of session_good
  outcome_ran is = rw is refl

module _ {b c : List ℕ} (other : OtherIdle b c) where
  -- ---- close and settle
  close_same : (L U : ℕ) → close_of full_limits c L U ≡ close_of full_limits b L U
  unfolding close_of close_fault close_good
  close_same L U =
      let only = other.only in
      rw (refusal_same other full_limits, (same_but_struck only most_marks []).closed, slots_same only, values_same only) refl

  settle_same : (M : ℕ) → settle_of full_limits c M ≡ settle_of full_limits b M
  unfolding settle_of settle_fault settle_good
  settle_same M =
      let only = other.only in
      rw (refusal_same other full_limits, (same_but_struck only most_marks []).settled, slots_same only) refl

  -- ---- session
  module _ (calls A M : List ℕ) where
    number_same : session_number c calls A M ≡ session_number b calls A M
    unfolding session_fault
    number_same = rw (refusal_same other full_limits, slots_same other.only) refl

    same : SameButStruck b c most_marks (calls_of calls)
    same = same_but_struck other.only most_marks (calls_of calls)

    first_same : (i : ℕ) → get_or (session_words c calls) (2 * i) 0 ≡ get_or (session_words b calls) (2 * i) 0
    first_same i =
        sym (struckless_first (replies_of c most_marks (calls_of calls)) i)
        ∙ ap (λ (rs : List Reply). get_or (words_of rs) (2 * i) 0) same.answers
        ∙ struckless_first (replies_of b most_marks (calls_of calls)) i

    second_same : (i : ℕ) → (get_or (session_words b calls) (2 * i) 0 ≡ 0 → ⊥)
        → get_or (session_words c calls) (2 * i + 1) 0 ≡ get_or (session_words b calls) (2 * i + 1) 0
    second_same i not_live =
        sym (struckless_second (replies_of c most_marks (calls_of calls)) i (λ is. not_live (sym (first_same i) ∙ is)))
        ∙ ap (λ (rs : List Reply). get_or (words_of rs) (2 * i + 1) 0) same.answers
        ∙ struckless_second (replies_of b most_marks (calls_of calls)) i not_live

    told_same : session_number b calls A M ≡ 0
        → SameTold calls (overlay (bytes_of 4 (session_words b calls)) A) (overlay (bytes_of 4 (session_words c calls)) A)
    told_same is =
        let also = number_same ∙ is in
        let at_b = read_word b calls A M is in
        let at_c = read_word c calls A M also in
        record {
          first = λ i inside. at_c (2 * i) (omega arith) ∙ first_same i ∙ sym (at_b (2 * i) (omega arith));
          second = λ i inside not_live.
              at_c (2 * i + 1) (omega arith)
              ∙ second_same i (λ zero_is. not_live (at_b (2 * i) (omega arith) ∙ zero_is)) ∙ sym (at_b (2 * i + 1) (omega arith));
        }

    session_same : (r : ℕ) (A' M' : List ℕ) (r'' : ℕ) (A'' M'' : List ℕ) → SessionEntry b calls A M r A' M' → SessionEntry c calls A M r'' A'' M''
        → (r'' ≡ r) × (M'' ≡ M') × SameTold calls A' A''
    session_same r A' M' r'' A'' M'' of_b of_c = go (session_number b calls A M) refl
      where
        go : (x : ℕ) → session_number b calls A M ≡ x → (r'' ≡ r) × (M'' ≡ M') × SameTold calls A' A''
        go zero is =
            let also = number_same ∙ is in
            let ran_b = subst (λ (o : Outcome). SessionRan (bytes_of 4) o r A M A' M') (outcome_ran b calls A M is) of_b in
            let ran_c = subst (λ (o : Outcome). SessionRan (bytes_of 4) o r'' A M A'' M'') (outcome_ran c calls A M also) of_c in (
              ran_c.answers ∙ ap opened_word same.settled ∙ sym ran_b.answers,
              ran_c.masks ∙ ap (λ (S : State). overlay (bytes_of 4 S.masks) M) same.state ∙ sym ran_b.masks,
              rw (ran_b.words, ran_c.words) (told_same is),
            )
        go (suc x) is =
            let also = number_same ∙ is in
            let ran_b = subst (λ (o : Outcome). SessionRan (bytes_of 4) o r A M A' M') (outcome_refused b calls A M x is) of_b in
            let ran_c = subst (λ (o : Outcome). SessionRan (bytes_of 4) o r'' A M A'' M'') (outcome_refused c calls A M x also) of_c in
            let alike : A'' ≡ A' = ran_c.words ∙ sym ran_b.words in (
              ran_c.answers ∙ sym ran_b.answers,
              ran_c.masks ∙ sym ran_b.masks,
              record {
                first = λ i inside. ap (λ (X : List ℕ). word32 X (4 * (2 * i))) alike;
                second = λ i inside not_live. ap (λ (X : List ℕ). word32 X (4 * (2 * i + 1))) alike;
              },
            )

  -- ---- the entries
  pub same_entries : SameEntries b c
  same_entries =
      record {
        check = ap answered (refusal_same other full_limits);
        close = λ L U r L' U' entry.
            subst (λ (o : Close.Outcome). Close.Closes (bytes_of 2) o r L U L' U') (sym (close_same (whole 2 (length L)) (whole 2 (length U)))) entry;
        settle = λ M r M' entry. rw (settle_same (whole 4 (length M))) entry;
        probe = λ calls D r D' entry. entry ∙ sym (probe_same other full_limits calls D);
        session = session_same;
      }
