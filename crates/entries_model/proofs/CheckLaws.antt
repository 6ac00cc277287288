-- The laws of `specs/Entries.antt` on check: it answers 0 exactly for a good book, and never 1. No contract cites this file.
-- Assumes nothing.
use mathlib.Core.Path.{◌≡◌, refl}
use mathlib.Core.List.{List}
use Prim.Native.Nat.{ℕ, zero, suc, ◌+◌}
use native.Mathlib.Omega.{arith}
use Rattle.book.specs.Refusal.{refusal, GoodBook}
use Rattle.entries_model.specs.Entries.{full_limits, answered, check_answer}

-- ---- answered
pub answered_none : (number : ℕ) → number ≡ 0 → answered number ≡ 0
answered_none number none = rw none

pub answered_some : (number : ℕ) → (number ≡ 0 → ⊥) → answered number ≡ 256 + number
answered_some zero some = absurd (some refl)
answered_some (suc x) some = refl

none_answered : (number : ℕ) → answered number ≡ 0 → number ≡ 0
none_answered zero none = refl
none_answered (suc x) none = absurd (omega arith)

never_1 : (number : ℕ) → answered number ≡ 1 → ⊥
never_1 zero dead = omega arith
never_1 (suc x) dead = omega arith

-- ---- check_answer
pub check_good : (b : List ℕ) → GoodBook full_limits b → check_answer b ≡ 0
check_good b good = answered_none (refusal full_limits b) good

pub good_check : (b : List ℕ) → check_answer b ≡ 0 → GoodBook full_limits b
good_check b answer = none_answered (refusal full_limits b) answer

pub check_never_dead : (b : List ℕ) → check_answer b ≡ 1 → ⊥
check_never_dead b dead = never_1 (refusal full_limits b) dead
