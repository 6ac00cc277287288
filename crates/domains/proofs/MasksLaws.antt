-- The laws of `specs/Masks.antt`, in its order. No contract cites this file. The ones that matter most: `subset_refl`, `subset_trans`,
-- `subset_antisym` (the order of lists of masks), `has_store_same`, `has_store_other`, `subset_store` and `total_store` (what a store
-- does), `total_most`, `total_mono` and `total_same` (the measure).
-- Assumes nothing.
use mathlib.Core.Path.{◌≡◌, refl, ap, ◌∙◌}
use mathlib.Core.Logic.{dite}
use mathlib.Core.List.{List, [], ◌∷◌}
use Prim.Native.Nat.{ℕ, zero, suc, ◌+◌, ◌*◌, ◌^◌, ◌≤◌, ◌<◌, zero-le}
use native.Mathlib.Nat.{le_refl, le_trans, le_antisymm, mul-suc, suc_inj}
use native.Mathlib.Decide.{ℕ_discrete, dec_lt}
use native.Mathlib.Omega.{arith}
use lib.Pow.{pow_pos}
use lib.ListN.{length, get_or, set, length-set, get_or-eq_default}
use lib.Seq.{ext_get_or, get_or-set_same, get_or-set_other}
use lib.Count.{ones, ones-le}
use Rattle.domains.specs.Mask.{test_bit, clear_bit}
use Rattle.domains.specs.Masks.{HasAt, FixedAt, Alive, Subset, total}
use Rattle.domains.proofs.MaskLaws.{test_bit_lt, test_bit_empty, test_bit_ext, test_bit_clear_bit_le}
use Rattle.domains.proofs.MaskLaws.{ones_clear_bit, ones_subset, ones_same, fixed_has, fixed_within}

-- ---- HasAt, FixedAt
-- past the end no slot has a value
pub has_inside : (M : List ℕ) (s v : ℕ) → HasAt M s v → s < length M
has_inside M s v has =
    dite (dec_lt s (length M)) (λ inside. inside)
    (λ outside. absurd (omega (arith, has, ap (λ (m : ℕ). test_bit m v) (get_or-eq_default M 0 {n = s} (omega arith)), test_bit_empty v)))

pub fixed_inside : (M : List ℕ) (s v : ℕ) → FixedAt M s v → s < length M
fixed_inside M s v fixed =
    dite (dec_lt s (length M)) (λ inside. inside)
    (λ outside. absurd (omega (arith, fixed, pow_pos v, get_or-eq_default M 0 {n = s} (omega arith))))

-- after a store: its own slot, and every other
pub has_store_same : (M : List ℕ) (s m v : ℕ) → s < length M → test_bit (get_or (set M s m) s 0) v ≡ test_bit m v
has_store_same M s m v inside = rw (get_or-set_same M s m 0 inside)

pub has_store_other : (M : List ℕ) (s m s' v : ℕ) → (s' ≡ s → ⊥) → test_bit (get_or (set M s m) s' 0) v ≡ test_bit (get_or M s' 0) v
has_store_other M s m s' v s'≢s = rw (get_or-set_other M s s' m 0 s'≢s)

-- ---- Subset
pub subset_refl : (M : List ℕ) → Subset M M
subset_refl M = record { len = refl; bits = λ s v. le_refl (test_bit (get_or M s 0) v) }

pub subset_trans : {A B C : List ℕ} → Subset A B → Subset B C → Subset A C
subset_trans A⊆B B⊆C = record { len = A⊆B.len ∙ B⊆C.len; bits = λ s v. le_trans (A⊆B.bits s v) (B⊆C.bits s v) }

pub subset_antisym : {A B : List ℕ} → Subset A B → Subset B A → A ≡ B
subset_antisym {A} {B} A⊆B B⊆A = ext_get_or 0 A B A⊆B.len (λ s h. test_bit_ext _ _ (λ v. le_antisymm (A⊆B.bits s v) (B⊆A.bits s v)))

-- a store of a mask within the one that stands there
pub subset_store : (M : List ℕ) (s m : ℕ) → s < length M → ((v : ℕ) → test_bit m v ≤ test_bit (get_or M s 0) v) → Subset (set M s m) M
subset_store M s m inside sub =
    record {
      len = length-set M s m;
      bits = λ s' v.
          dite (ℕ_discrete s' s) (λ e. rw (e, get_or-set_same M s m 0 inside) (sub v)) (λ s'≢s. rw (get_or-set_other M s s' m 0 s'≢s) (le_refl _));
    }

pub subset_clear_bit : (M : List ℕ) (s v : ℕ) → s < length M → Subset (set M s (clear_bit (get_or M s 0) v)) M
subset_clear_bit M s v inside = subset_store M s _ inside (test_bit_clear_bit_le (get_or M s 0) v)

-- what a list within another has, that one has
pub has_subset : {N M : List ℕ} → Subset N M → (s v : ℕ) → HasAt N s v → HasAt M s v
has_subset {M} N⊆M s v has = omega (arith, N⊆M.bits s v, test_bit_lt (get_or M s 0) v)

-- a slot that M fixes to v, N fixes too where it has v, or is not empty
pub fixed_has_subset : {N M : List ℕ} → Subset N M → (s v : ℕ) → FixedAt M s v → HasAt N s v → FixedAt N s v
fixed_has_subset {N} N⊆M s v fixed has = fixed_has (get_or N s 0) v has (λ w. rw (← fixed) (N⊆M.bits s w))

pub fixed_subset : {N M : List ℕ} → Subset N M → Alive N → (s v : ℕ) → FixedAt M s v → FixedAt N s v
fixed_subset {N} {M} N⊆M alive s v fixed =
    fixed_within (get_or N s 0) v (alive.each s (omega (arith, N⊆M.len, fixed_inside M s v fixed))) (λ w. rw (← fixed) (N⊆M.bits s w))

-- ---- Alive
pub alive_superset : {N M : List ℕ} → Subset N M → Alive N → Alive M
alive_superset {N} {M} N⊆M alive =
    record {
      each = λ s inside empty.
          alive.each s (omega (arith, N⊆M.len))
          (test_bit_ext _ 0 (λ v. omega (arith, N⊆M.bits s v, ap (λ (m : ℕ). test_bit m v) empty, test_bit_empty v)));
    }

-- ---- total
-- after a store, without subtraction
pub total_store : (M : List ℕ) (s m : ℕ) → s < length M → total (set M s m) + ones (get_or M s 0) ≡ total M + ones m
unfolding total
total_store [] s m inside = absurd (omega arith)
total_store (x ∷ M) zero m inside = omega arith
total_store (x ∷ M) (suc s) m inside = omega (arith, total_store M s m (omega arith))

-- a value taken out at a slot
pub total_clear_bit : (M : List ℕ) (s v : ℕ) → s < length M → total (set M s (clear_bit (get_or M s 0) v)) + test_bit (get_or M s 0) v ≡ total M
total_clear_bit M s v inside = omega (arith, total_store M s (clear_bit (get_or M s 0) v) inside, ones_clear_bit (get_or M s 0) v)

-- a mask below 2 ^ k has at most k ones
pub total_most : (k : ℕ) (M : List ℕ) → ((s : ℕ) → s < length M → get_or M s 0 < 2 ^ k) → total M ≤ k * length M
unfolding total
total_most k [] below = omega arith
total_most k (m ∷ M) below =
    omega (arith, mul-suc k (length M), ones-le k m (below 0 (omega arith)), total_most k M (λ s inside. below (suc s) (omega arith)))

pub tail_subset : {x m : ℕ} {xs ms : List ℕ} → Subset (x ∷ xs) (m ∷ ms) → Subset xs ms
tail_subset N⊆M = record { len = suc_inj N⊆M.len; bits = λ s v. N⊆M.bits (suc s) v }

pub total_mono : (N M : List ℕ) → Subset N M → total N ≤ total M
unfolding total
total_mono [] [] N⊆M = le_refl _
total_mono [] (m ∷ ms) N⊆M = zero-le
total_mono (x ∷ xs) [] N⊆M = absurd (omega (arith, N⊆M.len))
total_mono (x ∷ xs) (m ∷ ms) N⊆M = omega (arith, ones_subset x m (λ v. N⊆M.bits 0 v), total_mono xs ms (tail_subset N⊆M))

-- within, and no fewer values: the same list
pub total_same : (N M : List ℕ) → Subset N M → total M ≤ total N → N ≡ M
unfolding total
total_same [] [] N⊆M more = refl
total_same [] (m ∷ ms) N⊆M more = absurd (omega (arith, N⊆M.len))
total_same (x ∷ xs) [] N⊆M more = absurd (omega (arith, N⊆M.len))
total_same (x ∷ xs) (m ∷ ms) N⊆M more =
    let head = ones_subset x m (λ v. N⊆M.bits 0 v) in
    let rest = total_mono xs ms (tail_subset N⊆M) in
    rw (ones_same x m (λ v. N⊆M.bits 0 v) (omega arith), total_same xs ms (tail_subset N⊆M) (omega arith))
