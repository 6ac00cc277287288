-- The laws of `specs/Close.antt`, of starting's `specs/Ready.antt` and of `specs/Wrote.antt`, in this order. No contract cites
-- this file. The ones that matter most: `close_fault_good` (what no refusal gives), `close_of_refused` and `close_of_good` (the outcome by cases),
-- `overlay_front` (a front that is lent and comes back written).
-- Assumes nothing.
use mathlib.Core.Path.{◌≡◌, refl, sym, ap, ◌∙◌}
use mathlib.Core.Bool.{false}
use mathlib.Core.List.{List, [], ◌++◌}
use mathlib.Core.Option.{Option, none, some}
use Prim.Native.Nat.{ℕ, zero, suc, ◌+◌, ◌≤◌, ◌<◌}
use native.Mathlib.Omega.{arith}
use lib.Dec.{ltb, lit<}
use lib.ListN.{length, drop, replicate}
use borrow.Author.Tests.{lt-ltb, le-ltb, ltb-false}
use Rattle.std.specs.Prelude.{Err, Ok}
use Rattle.book.specs.declared.Limits.{Limits}
use Rattle.book.specs.Layout.{slots, values, rows}
use Rattle.book.specs.Refusal.{refusal}
use Rattle.book.specs.GoodFacts.{GoodFacts}
use Rattle.book.proofs.RefusalLaws.{fault_none, none_of_or, or_else_none, or_else_some, none_of_or_else, some_number}
use Rattle.book.proofs.BookLaws.{good_facts}
use Rattle.answer.specs.declared.Refusal.{Refusal}
use Rattle.answer.specs.declared.Verdict.{Verdict}
use Rattle.answer.specs.declared.Verdict.TheVariants.{Live, Dead}
use Rattle.answer.specs.Answer.{number_of, word_of}
use Rattle.closing_model.specs.Closing.{closing}
use Rattle.closing_model.specs.Start.{start_lowers, start_uppers, entries}
use Rattle.starting.specs.Ready.{Ready}
use Rattle.closing.specs.Close.{Outcome, refused, outcome_of, close_fault, close_good, unless, close_of, overlay, Closes}
use Rattle.closing.specs.Wrote.{Wrote}

-- ---- close_fault

module _ (limits : Limits) (b : List ℕ) (lowers_room uppers_room : ℕ) where
  -- the book's own number comes first
  pub close_fault_book : (refusal limits b ≡ 0 → ⊥) → close_fault limits b lowers_room uppers_room ≡ refusal limits b
  unfolding close_fault
  close_fault_book refusing = or_else_some (refusal limits b) _ refusing

  pub close_fault_refuses : (e : Refusal) → number_of e ≡ refusal limits b → number_of e ≡ close_fault limits b lowers_room uppers_room
  close_fault_refuses e refuses = refuses ∙ sym (close_fault_book (λ none. some_number e (refuses ∙ none)))

  module _ (accepted : refusal limits b ≡ 0) where
    pub close_fault_lowers : lowers_room < entries b → close_fault limits b lowers_room uppers_room ≡ 9
    unfolding close_fault
    close_fault_lowers short = or_else_none (refusal limits b) _ accepted ∙ rw (lt-ltb lowers_room (entries b) short)

    pub close_fault_uppers : entries b ≤ lowers_room → uppers_room < entries b → close_fault limits b lowers_room uppers_room ≡ 9
    unfolding close_fault
    close_fault_uppers room short =
        or_else_none (refusal limits b) _ accepted ∙ rw (le-ltb lowers_room (entries b) room, lt-ltb uppers_room (entries b) short)

    pub close_fault_none : entries b ≤ lowers_room → entries b ≤ uppers_room → close_fault limits b lowers_room uppers_room ≡ 0
    unfolding close_fault
    close_fault_none room room' =
        or_else_none (refusal limits b) _ accepted ∙ rw (le-ltb lowers_room (entries b) room, le-ltb uppers_room (entries b) room')

  -- no refusal: a good book, and room for its table in both outputs
  module _ (accepted : close_fault limits b lowers_room uppers_room ≡ 0) where
    pub close_fault_good : GoodFacts limits b
    unfolding close_fault
    close_fault_good = good_facts limits b (none_of_or_else (refusal limits b) _ accepted).0

    tests_false : (ltb lowers_room (entries b) ≡ false) × (ltb uppers_room (entries b) ≡ false)
    unfolding close_fault
    tests_false = none_of_or _ _ (fault_none 9 _ (lit< tt) (none_of_or_else (refusal limits b) _ accepted).1)

    pub close_fault_room_lowers : entries b ≤ lowers_room
    close_fault_room_lowers = ltb-false lowers_room (entries b) tests_false.0

    pub close_fault_room_uppers : entries b ≤ uppers_room
    close_fault_room_uppers = ltb-false uppers_room (entries b) tests_false.1

-- ---- close_of

pub unless_some : (x : ℕ) (o : Outcome) → (x ≡ 0 → ⊥) → unless x o ≡ refused x
unless_some zero o refusing = absurd (refusing refl)
unless_some (suc x) o refusing = refl

module _ (limits : Limits) (b : List ℕ) (lowers_room uppers_room : ℕ) where
  pub close_of_refused : (x : ℕ) → x ≡ close_fault limits b lowers_room uppers_room → (x ≡ 0 → ⊥)
      → close_of limits b lowers_room uppers_room ≡ refused x
  unfolding close_of
  close_of_refused x is_fault refusing = rw (sym is_fault) (unless_some x (close_good b) refusing)

  pub close_of_good : close_fault limits b lowers_room uppers_room ≡ 0 → close_of limits b lowers_room uppers_room ≡ close_good b
  unfolding close_of
  close_of_good accepted = rw accepted

-- ---- overlay

-- a front that is m elements long
pub overlay_front : (m : ℕ) (front lent : List ℕ) → length front ≡ m → front ++ drop m lent ≡ overlay front lent
overlay_front m front lent long = rw (sym long)

-- ---- Closes

-- refused: nothing is written
pub closes_refused : (stored : List ℕ → List ℕ) {o : Outcome} (x : ℕ) (L U : List ℕ) → stored [] ≡ [] → o ≡ refused x
    → Closes stored o (256 + x) L U L U
closes_refused stored x L U empty is_refused =
    rw is_refused (record { answers = refl; lowers = rw empty; uppers = rw empty })

pub closes_err : (stored : List ℕ → List ℕ) (limits : Limits) (b : List ℕ) (lowers_room uppers_room : ℕ) (e : Refusal) (L U : List ℕ) → stored [] ≡ []
    → number_of e ≡ close_fault limits b lowers_room uppers_room
    → Closes stored (close_of limits b lowers_room uppers_room) (word_of (Err e)) L U L U
closes_err stored limits b lowers_room uppers_room e L U empty refuses =
    closes_refused stored (number_of e) L U empty (close_of_refused limits b lowers_room uppers_room (number_of e) refuses (some_number e))

-- live or dead: both lists of the outcome are written
pub closes_wrote : (stored : List ℕ → List ℕ) (o : Outcome) (r : Verdict) {L U F G L' U' : List ℕ} → Wrote o r F G
    → L' ≡ overlay (stored F) L → U' ≡ overlay (stored G) U → Closes stored o (word_of (Ok r)) L U L' U'
closes_wrote stored o r {L} {U} wrote lowers uppers =
    record {
      answers = wrote.answer;
      lowers = lowers ∙ ap (λ (xs : List ℕ). overlay (stored xs) L) wrote.lowers;
      uppers = uppers ∙ ap (λ (xs : List ℕ). overlay (stored xs) U) wrote.uppers;
    }

-- ---- Ready

pub ready_of : (limits : Limits) (b : List ℕ) (lowers_room uppers_room : ℕ) {L U : List ℕ} → close_fault limits b lowers_room uppers_room ≡ 0
    → length L ≡ entries b → length U ≡ entries b → Ready b L U
ready_of limits b lowers_room uppers_room accepted lowers uppers =
    let good = close_fault_good limits b lowers_room uppers_room accepted in
    record { inside = omega (arith, good.header.lent_length); row = good.row; lowers = lowers; uppers = uppers }

-- ---- Wrote

-- what the model says of the starting table, where n, k, L and U are those of the book
module _ (b : List ℕ) (n k : ℕ) (L U : List ℕ) (is_n : n ≡ slots b) (is_k : k ≡ values b)
    (starts : L ≡ start_lowers (slots b) (values b) (rows b))
    (starts' : U ≡ start_uppers (slots b) (values b) (rows b)) where
  close_good_of : (T : Option (List ℕ × List ℕ)) → closing n k L U ≡ T → close_good b ≡ outcome_of (entries b) T
  unfolding close_good
  close_good_of T says = ap (outcome_of (entries b)) (rw (is_n, is_k, starts, starts') at says)

  pub wrote_live : (L' U' : List ℕ) → closing n k L U ≡ some (L', U') → Wrote (close_good b) Live L' U'
  wrote_live L' U' says = rw (close_good_of (some (L', U')) says) (record { answer = refl; lowers = refl; uppers = refl })

  pub wrote_dead : {F G : List ℕ} → closing n k L U ≡ none → F ≡ replicate (entries b) 0 → G ≡ replicate (entries b) 0 → Wrote (close_good b) Dead F G
  wrote_dead says zeros zeros' = rw (close_good_of none says) (record { answer = refl; lowers = zeros; uppers = zeros' })
