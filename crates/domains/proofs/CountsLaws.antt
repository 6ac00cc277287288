-- The laws of `specs/Counts.antt`, in its order. No contract cites this file. The ones that matter most: `count_mono` and `count_same`
-- (sums of functions that lie one below the other), `count_has_subset` and `count_fixed_subset` (what happens as masks shrink).
-- Assumes nothing.
use mathlib.Core.Path.{◌≡◌, refl, ap}
use mathlib.Core.Logic.{dite}
use mathlib.Core.List.{List}
use Prim.Native.Nat.{ℕ, zero, suc, ◌+◌, ◌^◌, ◌≤◌, ◌<◌, zero-le}
use native.Mathlib.Nat.{le_refl, le_antisymm, le_of_eq}
use native.Mathlib.Numerals.{add-one}
use native.Mathlib.Decide.{ℕ_discrete}
use native.Mathlib.Omega.{arith}
use lib.ListN.{get_or}
use borrow.Author.Tests.{eq-eqb, ne_eqb}
use Rattle.domains.specs.Mask.{test_bit, Fixed}
use Rattle.domains.specs.Masks.{Alive, Subset}
use Rattle.domains.specs.Counts.{count, only, count_has, count_fixed}
use Rattle.domains.proofs.MaskLaws.{test_bit_fixed_same}
use Rattle.domains.proofs.MasksLaws.{fixed_subset}

-- ---- count
pub count_none : (f : ℕ → ℕ) → count f 0 ≡ 0
unfolding count
count_none f = refl

-- one slot more, at the code's `t + 1`
pub count_next : (f : ℕ → ℕ) (t : ℕ) → count f (t + 1) ≡ count f t + f t
unfolding count
count_next f t = rw add-one

module _ (f g : ℕ → ℕ) where
  pub count_mono : (t : ℕ) → ((s : ℕ) → s < t → f s ≤ g s) → count f t ≤ count g t
  unfolding count
  count_mono zero f≤g = le_refl _
  count_mono (suc t) f≤g = omega (arith, count_mono t (λ s s<t. f≤g s (omega arith)), f≤g t (le_refl _))

  -- no more at each and no less in sum: the same at each
  pub count_same : (t : ℕ) → ((s : ℕ) → s < t → f s ≤ g s) → count g t ≤ count f t → (s : ℕ) → s < t → g s ≤ f s
  unfolding count
  count_same zero f≤g more s s<t = absurd (omega arith)
  count_same (suc t) f≤g more s s<t =
      let below = count_mono t (λ s' h. f≤g s' (omega arith)) in
      let last = f≤g t (le_refl _) in
      dite (ℕ_discrete s t) (λ e. rw e (omega arith)) (λ ne. count_same t (λ s' h. f≤g s' (omega arith)) (omega arith) s (omega arith))

-- equal at each, equal in sum
pub count_ext : (f g : ℕ → ℕ) (t : ℕ) → ((s : ℕ) → s < t → f s ≡ g s) → count f t ≡ count g t
count_ext f g t same =
    le_antisymm (count_mono f g t (λ s s<t. le_of_eq (same s s<t))) (count_mono g f t (λ s s<t. omega (arith, same s s<t)))

-- ---- only
module _ (m v : ℕ) where
  pub only_fixed : Fixed m v → only m v ≡ 1
  unfolding only
  only_fixed fixed = rw (eq-eqb m (2 ^ v) fixed)

  pub only_free : (Fixed m v → ⊥) → only m v ≡ 0
  unfolding only
  only_free free = rw (ne_eqb m (2 ^ v) free)

  pub fixed_only : 0 < only m v → Fixed m v
  fixed_only h = dite (ℕ_discrete m (2 ^ v)) (λ e. e) (λ ne. absurd (omega (arith, only_free ne)))

  pub only_lt : only m v < 2
  only_lt = dite (ℕ_discrete m (2 ^ v)) (λ e. omega (arith, only_fixed e)) (λ ne. omega (arith, only_free ne))

  pub only_has : only m v ≤ test_bit m v
  only_has =
      dite (ℕ_discrete m (2 ^ v)) (λ e. omega (arith, only_fixed e, ap (λ (x : ℕ). test_bit x v) e, test_bit_fixed_same v))
      (λ ne. omega (arith, only_free ne))

-- ---- count_has, count_fixed
-- fixed slots have their value
pub count_fixed_has : (M : List ℕ) (v t : ℕ) → count_fixed M v t ≤ count_has M v t
count_fixed_has M v t = count_mono _ _ t (λ s s<t. only_has (get_or M s 0) v)

-- as masks shrink, no more slots have v, and where none is empty no fewer are fixed to v
module _ {N M : List ℕ} (N⊆M : Subset N M) where
  pub count_has_subset : (v t : ℕ) → count_has N v t ≤ count_has M v t
  count_has_subset v t = count_mono _ _ t (λ s s<t. N⊆M.bits s v)

  pub only_subset : Alive N → (v s : ℕ) → only (get_or M s 0) v ≤ only (get_or N s 0) v
  only_subset alive v s =
      dite (ℕ_discrete (get_or M s 0) (2 ^ v))
      (λ fixed. omega (arith, only_lt (get_or M s 0) v, only_fixed (get_or N s 0) v (fixed_subset N⊆M alive s v fixed)))
      (λ free. rw (only_free (get_or M s 0) v free) zero-le)

  pub count_fixed_subset : Alive N → (v t : ℕ) → count_fixed M v t ≤ count_fixed N v t
  count_fixed_subset alive v t = count_mono _ _ t (λ s s<t. only_subset alive v s)
