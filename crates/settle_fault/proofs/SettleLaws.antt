-- The laws of `specs/Settle.antt` and `specs/Ready.antt`, in their order. No contract cites this file. The ones that matter most:
-- `settle_fault_good` (what no refusal gives), `settle_of_refused` and `settle_of_good` (the outcome by cases), `wrote_live` and `wrote_dead` (the outcome
-- of a good book).
-- Assumes nothing.
use mathlib.Core.Path.{◌≡◌, refl, sym, ap, ◌∙◌}
use mathlib.Core.Bool.{Bool, true, false}
use mathlib.Core.List.{List, []}
use Prim.Native.Nat.{ℕ, ◌+◌, ◌≤◌, ◌<◌}
use native.Mathlib.Nat.{le_trans}
use native.Mathlib.Omega.{arith}
use lib.Dec.{lit<}
use lib.ListN.{length, replicate}
use borrow.Author.Tests.{lt-ltb, le-ltb, ltb-false}
use Rattle.std.specs.Prelude.{Ok, Err}
use Rattle.answer.specs.declared.Refusal.{Refusal}
use Rattle.answer.specs.declared.Verdict.{Verdict}
use Rattle.answer.specs.declared.Verdict.TheVariants.{Live, Dead}
use Rattle.answer.specs.Answer.{number_of, word_of}
use Rattle.book.specs.declared.Limits.{Limits}
use Rattle.book.specs.Layout.{slots}
use Rattle.book.specs.Refusal.{refusal}
use Rattle.book.specs.GoodFacts.{GoodFacts}
use Rattle.book.proofs.RefusalLaws.{fault_none, or_else_none, or_else_some, none_of_or_else, some_number}
use Rattle.book.proofs.BookLaws.{good_facts}
use Rattle.closing.specs.Close.{Outcome, refused, overlay}
use Rattle.closing.proofs.CloseLaws.{unless_some}
use Rattle.settling_model.specs.Book.{settled_book}
use Rattle.settle_fault.specs.Settle.{settle_fault, settle_good, settle_of, Settles}
use Rattle.settle_fault.specs.Ready.{Capacity, FitBook, Ready, Wrote, settled_by}

-- ---- settle_fault

module _ (limits : Limits) (b : List ℕ) (room : ℕ) where
  -- the book's own number comes first
  pub settle_fault_book : (refusal limits b ≡ 0 → ⊥) → settle_fault limits b room ≡ refusal limits b
  unfolding settle_fault
  settle_fault_book refusing = or_else_some (refusal limits b) _ refusing

  pub settle_fault_refuses : (e : Refusal) → number_of e ≡ refusal limits b → number_of e ≡ settle_fault limits b room
  settle_fault_refuses e refuses = refuses ∙ sym (settle_fault_book (λ none. some_number e (refuses ∙ none)))

  pub settle_fault_short : refusal limits b ≡ 0 → room < slots b → settle_fault limits b room ≡ 9
  unfolding settle_fault
  settle_fault_short accepted short = or_else_none (refusal limits b) _ accepted ∙ rw (lt-ltb room (slots b) short)

  pub settle_fault_none : refusal limits b ≡ 0 → slots b ≤ room → settle_fault limits b room ≡ 0
  unfolding settle_fault
  settle_fault_none accepted enough = or_else_none (refusal limits b) _ accepted ∙ rw (le-ltb room (slots b) enough)

  -- no refusal: a good book, and room for its masks
  module _ (accepted : settle_fault limits b room ≡ 0) where
    pub settle_fault_good : GoodFacts limits b
    unfolding settle_fault
    settle_fault_good = good_facts limits b (none_of_or_else (refusal limits b) _ accepted).0

    pub settle_fault_room : slots b ≤ room
    unfolding settle_fault
    settle_fault_room = ltb-false room (slots b) (fault_none 9 _ (lit< tt) (none_of_or_else (refusal limits b) _ accepted).1)

  -- ---- settle_of

  pub settle_of_refused : (x : ℕ) → x ≡ settle_fault limits b room → (x ≡ 0 → ⊥) → settle_of limits b room ≡ refused x
  unfolding settle_of
  settle_of_refused x is_fault refusing = rw (sym is_fault) (unless_some x (settle_good b) refusing)

  pub settle_of_good : settle_fault limits b room ≡ 0 → settle_of limits b room ≡ settle_good b
  unfolding settle_of
  settle_of_good accepted = rw accepted

-- ---- Settles

-- refused: nothing is written
pub settles_refused : (stored : List ℕ → List ℕ) {o : Outcome} (x : ℕ) (M : List ℕ) → stored [] ≡ [] → o ≡ refused x → Settles stored o (256 + x) M M
settles_refused stored x M empty is_refused = rw is_refused (record { answers = refl; masks = rw empty })

pub settles_err : (stored : List ℕ → List ℕ) (limits : Limits) (b : List ℕ) (room : ℕ) (e : Refusal) (M : List ℕ) → stored [] ≡ []
    → number_of e ≡ settle_fault limits b room → Settles stored (settle_of limits b room) (word_of (Err e)) M M
settles_err stored limits b room e M empty refuses =
    settles_refused stored (number_of e) M empty (settle_of_refused limits b room (number_of e) refuses (some_number e))

-- live or dead: the masks of the outcome are written
pub settles_wrote : (stored : List ℕ → List ℕ) (o : Outcome) (r : Verdict) {M F M' : List ℕ} → Wrote o r F → M' ≡ overlay (stored F) M
    → Settles stored o (word_of (Ok r)) M M'
settles_wrote stored o r {M} wrote masks =
    record { answers = wrote.answer; masks = masks ∙ ap (λ (xs : List ℕ). overlay (stored xs) M) wrote.masks }

-- ---- Ready

pub fit_of : {limits : Limits} {b : List ℕ} → Capacity limits → GoodFacts limits b → FitBook b
fit_of capacity good =
    record {
      inside = omega (arith, good.header.lent_length);
      slots_most = le_trans good.header.slots_most capacity.slots;
      values_most = le_trans good.header.values_most capacity.values;
      idle_known = good.header.idle_known;
      mask = good.mask;
      row = good.row;
    }

pub ready_of : (limits : Limits) (b : List ℕ) (room : ℕ) {M : List ℕ} → Capacity limits → settle_fault limits b room ≡ 0 → length M ≡ slots b → Ready b M
ready_of limits b room capacity accepted long = record { book = fit_of capacity (settle_fault_good limits b room accepted); masks = long }

-- ---- Wrote

pub wrote_live : (b M : List ℕ) (r : Bool) → settled_book b ≡ settled_by r M → r ≡ true → Wrote (settle_good b) Live M
unfolding settle_good
wrote_live b M true settled live = rw settled (record { answer = refl; masks = refl })
wrote_live b M false settled live = absurd (let z : ◌≡◌ {A = ℕ} 0 1 = cc in omega arith)

pub wrote_dead : (b M F : List ℕ) (r : Bool) → settled_book b ≡ settled_by r M → r ≡ false → F ≡ replicate (slots b) 0 → Wrote (settle_good b) Dead F
unfolding settle_good
wrote_dead b M F false settled dead zeros = rw settled (record { answer = refl; masks = zeros })
wrote_dead b M F true settled dead zeros = absurd (let z : ◌≡◌ {A = ℕ} 0 1 = cc in omega arith)
