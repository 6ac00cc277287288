-- What a call of `close_exactly` says of the book's closed table (`wrote_closed`, `wrote_none`), and the room for it (`entries_most`).
-- No contract cites this file. Assumes nothing.
use mathlib.Core.Path.{◌≡◌, refl, sym, ap, ap₂}
use mathlib.Core.List.{List}
use mathlib.Core.Option.{Option, none, some}
use Prim.Native.Nat.{ℕ, ◌+◌, ◌≤◌}
use native.Mathlib.Nat.{mul-le-mul_right, le_trans}
use native.Mathlib.Omega.{arith}
use Rattle.std.specs.Prelude.{Ok}
use Rattle.answer.specs.declared.Verdict.{Verdict}
use Rattle.answer.specs.Answer.{word_of}
use Rattle.book.specs.Layout.{slots}
use Rattle.closing_model.specs.Start.{entries}
use Rattle.closing.specs.Close.{outcome_of, close_good}
use Rattle.closing.specs.Wrote.{Wrote}
use Rattle.settling_model.specs.Book.{closed_book}
use Rattle.settle_fault.specs.Ready.{FitBook}

closed_or_none : (T : Option (List ℕ × List ℕ)) (m : ℕ) (r : Verdict) (L U : List ℕ) → Wrote (outcome_of m T) r L U
    → word_of (Ok r) ≡ 0 → T ≡ some (L, U)
closed_or_none none m r L U wrote live = absurd (omega (arith, wrote.answer))
closed_or_none (some T) m r L U wrote live = ap some (ap₂ (λ (A B : List ℕ). (A, B)) (sym wrote.lowers) (sym wrote.uppers))

none_or_closed : (T : Option (List ℕ × List ℕ)) (m : ℕ) (r : Verdict) (L U : List ℕ) → Wrote (outcome_of m T) r L U
    → (word_of (Ok r) ≡ 0 → ⊥) → T ≡ none
none_or_closed none m r L U wrote dead = refl
none_or_closed (some T) m r L U wrote dead = absurd (dead wrote.answer)

module _ (b : List ℕ) {r : Verdict} {L U : List ℕ} (wrote : Wrote (close_good b) r L U) where
  pub wrote_closed : word_of (Ok r) ≡ 0 → closed_book b ≡ some (L, U)
  unfolding close_good
  wrote_closed live = closed_or_none _ (entries b) r L U wrote live

  pub wrote_none : (word_of (Ok r) ≡ 0 → ⊥) → closed_book b ≡ none
  unfolding close_good
  wrote_none dead = none_or_closed _ (entries b) r L U wrote dead

pub entries_most : {b : List ℕ} → FitBook b → entries b ≤ 8224
entries_most {b} fit = le_trans (mul-le-mul_right (slots b + 1) fit.values_most) (omega (arith, fit.slots_most))
