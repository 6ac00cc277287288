-- The laws of `specs/Entry.antt`, in its order. No contract cites this file. The ones that matter most: `session_fault_good` (what no refusal gives),
-- `session_of_refused` and `session_of_good` (the outcome by cases), `session_ran` (the outputs of a good book).
-- Assumes nothing.
use mathlib.Core.Path.{◌≡◌, refl, sym, ap, ◌∙◌}
use mathlib.Core.Bool.{Bool, true, false, true≢false, not, ◌||◌}
use mathlib.Core.List.{List, []}
use Prim.Native.Nat.{ℕ, zero, suc, ◌+◌, ◌*◌, ◌/◌, ◌%◌, ◌≤◌, ◌<◌}
use borrow.Author.Tests.{eq-eqb, ne_eqb, lt-ltb, le-ltb, ltb-false}
use lib.Dec.{eqb, ltb, lit<}
use lib.ListN.{length}
use Rattle.std.specs.Prelude.{Err, Ok}
use Rattle.answer.specs.declared.Refusal.{Refusal}
use Rattle.answer.specs.declared.Verdict.{Verdict}
use Rattle.answer.specs.Answer.{number_of, word_of}
use Rattle.book.specs.declared.Limits.{Limits}
use Rattle.book.specs.Layout.{slots}
use Rattle.book.specs.Refusal.{fault, refusal}
use Rattle.book.specs.GoodFacts.{GoodFacts}
use Rattle.book.proofs.BookLaws.{good_facts}
use Rattle.book.proofs.RefusalLaws.{fault_none, or_else_none, or_else_some, none_of_or_else, some_number}
use Rattle.closing.specs.Close.{overlay}
use Rattle.settling_model.specs.Book.{settled_book}
use Rattle.settle_fault.specs.Ready.{Capacity}
use Rattle.settle_fault.proofs.SettleLaws.{fit_of}
use Rattle.session_model.specs.BookRun.{state_after, replies_of}
use Rattle.session_model.specs.Calls.{calls_of}
use Rattle.session_model.specs.State.{words_of}
use Rattle.session_fault.specs.Entry.{bad_calls, most_marks, session_fault, Outcome, refused, opened_word, session_good, unless, session_of}
use Rattle.session_fault.specs.Entry.{SessionRan, SessionReady}

-- ---- session_fault
pub or_first : (a b : Bool) → a ≡ true → a || b ≡ true
or_first a b is = rw is refl

pub or_second : (a b : Bool) → b ≡ true → a || b ≡ true
or_second true b is = refl
or_second false b is = is

pub or_none : (a b : Bool) → a ≡ false → b ≡ false → a || b ≡ false
or_none a b no_a no_b = rw (no_a, no_b) refl

pub none_first : (a b : Bool) → a || b ≡ false → a ≡ false
none_first true b is = is
none_first false b is = refl

pub none_second : (a b : Bool) → a || b ≡ false → b ≡ false
none_second true b is = absurd (true≢false is)
none_second false b is = is

module _ (limits : Limits) (b : List ℕ) (bytes words_room masks_room : ℕ) where
  -- the book's own number comes first
  pub session_fault_book : (refusal limits b ≡ 0 → ⊥) → session_fault limits b bytes words_room masks_room ≡ refusal limits b
  unfolding session_fault
  session_fault_book refusing = or_else_some (refusal limits b) _ refusing

  pub session_fault_refuses : (e : Refusal) → number_of e ≡ refusal limits b → number_of e ≡ session_fault limits b bytes words_room masks_room
  session_fault_refuses e refuses = refuses ∙ sym (session_fault_book (λ none. some_number e (refuses ∙ none)))

  module _ (accepted : refusal limits b ≡ 0) where
    -- then 10
    fault_calls : bad_calls bytes ≡ true → session_fault limits b bytes words_room masks_room ≡ 10
    unfolding session_fault
    fault_calls bad = or_else_none (refusal limits b) _ accepted ∙ rw bad refl

    pub session_fault_parts : (bytes % 4 ≡ 0 → ⊥) → session_fault limits b bytes words_room masks_room ≡ 10
    session_fault_parts part = fault_calls (or_first (not (eqb (bytes % 4) 0)) _ (ap not (ne_eqb (bytes % 4) 0 part)))

    pub session_fault_long : 16384 < bytes → session_fault limits b bytes words_room masks_room ≡ 10
    session_fault_long long = fault_calls (or_second (not (eqb (bytes % 4) 0)) _ (lt-ltb 16384 bytes long))

    module _ (whole : bytes % 4 ≡ 0) (short : bytes ≤ 16384) where
      good_calls : bad_calls bytes ≡ false
      good_calls = or_none (not (eqb (bytes % 4) 0)) _ (ap not (eq-eqb (bytes % 4) 0 whole)) (le-ltb 16384 bytes short)

      fault_room : ltb words_room (2 * (bytes / 4)) || ltb masks_room (slots b) ≡ true → session_fault limits b bytes words_room masks_room ≡ 9
      unfolding session_fault
      fault_room bad = or_else_none (refusal limits b) _ accepted ∙ rw (good_calls, bad) refl

      pub session_fault_words : words_room < 2 * (bytes / 4) → session_fault limits b bytes words_room masks_room ≡ 9
      session_fault_words few = fault_room (or_first (ltb words_room (2 * (bytes / 4))) _ (lt-ltb words_room (2 * (bytes / 4)) few))

      pub session_fault_masks : masks_room < slots b → session_fault limits b bytes words_room masks_room ≡ 9
      session_fault_masks few = fault_room (or_second (ltb words_room (2 * (bytes / 4))) _ (lt-ltb masks_room (slots b) few))

      pub session_fault_none : 2 * (bytes / 4) ≤ words_room → slots b ≤ masks_room → session_fault limits b bytes words_room masks_room ≡ 0
      unfolding session_fault
      session_fault_none enough_words enough_masks =
          let none : ltb words_room (2 * (bytes / 4)) || ltb masks_room (slots b) ≡ false = or_none (ltb words_room (2 * (bytes / 4))) _
          (le-ltb words_room (2 * (bytes / 4)) enough_words) (le-ltb masks_room (slots b) enough_masks) in
          or_else_none (refusal limits b) _ accepted ∙ rw (good_calls, none) refl

  -- no refusal: a good book, and room
  module _ (unrefused : session_fault limits b bytes words_room masks_room ≡ 0) where
    pub session_fault_good : GoodFacts limits b
    unfolding session_fault
    session_fault_good = good_facts limits b (none_of_or_else (refusal limits b) _ unrefused).0

    rooms_none : ltb words_room (2 * (bytes / 4)) || ltb masks_room (slots b) ≡ false
    unfolding session_fault
    rooms_none =
        fault_none 9 _ (lit< tt) (none_of_or_else (fault 10 (bad_calls bytes)) _ (none_of_or_else (refusal limits b) _ unrefused).1).1

    -- the list is not too long
    pub session_fault_short : bytes ≤ 16384
    unfolding session_fault
    session_fault_short =
        let none = (none_of_or_else (fault 10 (bad_calls bytes)) _ (none_of_or_else (refusal limits b) _ unrefused).1).0 in
        ltb-false 16384 bytes (none_second (not (eqb (bytes % 4) 0)) _ (fault_none 10 _ (lit< tt) none))

    pub session_fault_room_words : 2 * (bytes / 4) ≤ words_room
    session_fault_room_words = ltb-false words_room (2 * (bytes / 4)) (none_first (ltb words_room (2 * (bytes / 4))) _ rooms_none)

    pub session_fault_room_masks : slots b ≤ masks_room
    session_fault_room_masks = ltb-false masks_room (slots b) (none_second (ltb words_room (2 * (bytes / 4))) _ rooms_none)

-- ---- session_of
pub unless_some : (x : ℕ) (o : Outcome) → (x ≡ 0 → ⊥) → unless x o ≡ refused x
unless_some zero o refusing = absurd (refusing refl)
unless_some (suc x) o refusing = refl

module _ (limits : Limits) (b calls : List ℕ) (words_room masks_room : ℕ) where
  pub session_of_refused : (x : ℕ) → x ≡ session_fault limits b (length calls) words_room masks_room → (x ≡ 0 → ⊥)
      → session_of limits b calls words_room masks_room ≡ refused x
  unfolding session_of
  session_of_refused x is_fault refusing = rw (sym is_fault) (unless_some x (session_good b (calls_of calls)) refusing)

  pub session_of_good : session_fault limits b (length calls) words_room masks_room ≡ 0
      → session_of limits b calls words_room masks_room ≡ session_good b (calls_of calls)
  unfolding session_of
  session_of_good unrefused = rw unrefused refl

-- ---- SessionRan
-- refused: nothing is written
pub session_refused : (stored : List ℕ → List ℕ) {o : Outcome} (x : ℕ) (A M : List ℕ) → stored [] ≡ [] → o ≡ refused x
    → SessionRan stored o (256 + x) A M A M
session_refused stored x A M empty is = rw is (record { answers = refl; words = rw empty refl; masks = rw empty refl })

pub session_err : (stored : List ℕ → List ℕ) (limits : Limits) (b calls : List ℕ) (words_room masks_room : ℕ) (e : Refusal) (A M : List ℕ)
    → stored [] ≡ [] → number_of e ≡ session_fault limits b (length calls) words_room masks_room
    → SessionRan stored (session_of limits b calls words_room masks_room) (word_of (Err e)) A M A M
session_err stored limits b calls words_room masks_room e A M empty refuses =
    session_refused stored (number_of e) A M empty
    (session_of_refused limits b calls words_room masks_room (number_of e) refuses (some_number e))

-- else the words W and the masks F of the machine are written
pub session_ran : (stored : List ℕ → List ℕ) (b calls : List ℕ) (r : Verdict) {A M W F A' M' : List ℕ} → word_of (Ok r) ≡ opened_word (settled_book b)
    → W ≡ words_of (replies_of b most_marks (calls_of calls)) → F ≡ (state_after b most_marks (calls_of calls)).masks → A' ≡ overlay (stored W) A
    → M' ≡ overlay (stored F) M → SessionRan stored (session_good b (calls_of calls)) (word_of (Ok r)) A M A' M'
unfolding session_good
session_ran stored b calls r {A} {M} answer words_are masks_are words masks =
    record {
      answers = answer;
      words = words ∙ ap (λ (xs : List ℕ). overlay (stored xs) A) words_are;
      masks = masks ∙ ap (λ (xs : List ℕ). overlay (stored xs) M) masks_are;
    }

-- ---- SessionReady
pub session_ready : (limits : Limits) (b calls : List ℕ) (masks_room : ℕ) {A M : List ℕ} → Capacity limits
    → session_fault limits b (length calls) (length A) masks_room ≡ 0 → length M ≡ slots b → SessionReady b calls A M
session_ready limits b calls masks_room {A} capacity unrefused long =
    record {
      ready = record { book = fit_of capacity (session_fault_good limits b (length calls) (length A) masks_room unrefused); masks = long };
      room = session_fault_room_words limits b (length calls) (length A) masks_room unrefused;
    }
