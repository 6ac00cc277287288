-- The laws of `specs/Stable.antt` for any list of bounds, in its order. No contract cites this file. The ones that matter most:
-- `keeps_low_settled`, `keeps_high_settled` and `settled_keeps` (both of document 01's conditions are `Settled`); the justified cuts
-- `low_cut` and `high_cut`; `stable_unbroken` and `empty_broken` (where there is nothing to keep); `largest_unique`; `largest_narrow` and
-- `unstable_narrow`, by which a decision may be cut from the settled masks.
-- Assumes nothing.
use mathlib.Core.Path.{◌≡◌}
use mathlib.Core.List.{List, [], ◌∷◌, ◌++◌}
use Prim.Native.Nat.{ℕ, ◌≤◌, ◌<◌}
use native.Mathlib.Nat.{le_trans}
use native.Mathlib.Omega.{arith}
use lib.ListN.{length, get_or}
use Rattle.domains.specs.Mask.{test_bit}
use Rattle.domains.specs.Masks.{HasAt, FixedAt, Alive, Subset}
use Rattle.domains.specs.Counts.{only, count_has, count_fixed}
use Rattle.domains.proofs.MaskLaws.{test_bit_lt}
use Rattle.domains.proofs.MasksLaws.{subset_refl, subset_trans, subset_antisym, alive_superset}
use Rattle.domains.proofs.CountsLaws.{count_same, only_fixed, fixed_only, count_has_subset, only_subset, count_fixed_subset}
use Rattle.settling_model.specs.Settled.{LacksAt, Settled}
use Rattle.book.specs.Lists.{All}
use Rattle.settling_model.specs.Stable.{Bound, Keeps, Unbroken, Stable, Largest, Unstable}
use Rattle.settling_model.proofs.SettledLaws.{settled_words, words_settled}

-- ---- Keeps
-- the conditions at a bound that is met are both `Settled`
module _ {b : Bound} {M : List ℕ} where
  pub keeps_low_settled : Keeps b M → count_has M b.value b.end ≡ b.lower → Settled M b.value b.end
  keeps_low_settled keeps met = record { each = keeps.at_low met }

  pub keeps_high_settled : Keeps b M → count_fixed M b.value b.end ≡ b.upper → Settled M b.value b.end
  keeps_high_settled keeps met = words_settled M b.value b.end (keeps.at_high met)

  pub settled_keeps : b.lower ≤ count_has M b.value b.end → count_fixed M b.value b.end ≤ b.upper
      → (count_has M b.value b.end ≡ b.lower → Settled M b.value b.end)
      → (count_fixed M b.value b.end ≡ b.upper → Settled M b.value b.end) → Keeps b M
  settled_keeps low high at_low at_high =
      record {
        low = low;
        high = high;
        at_low = λ met. (at_low met).each;
        at_high = λ met. settled_words M b.value b.end (at_high met);
      }

-- N keeps the bound b, has no empty mask and lies within M
module _ {b : Bound} {N M : List ℕ} (alive : Alive N) (keeps : Keeps b N) (N⊆M : Subset N M) where
  -- where M has no more than the lower bound, each slot that has v in M is fixed to v in N
  pub low_cut : count_has M b.value b.end ≡ b.lower → (s : ℕ) → s < b.end → HasAt M s b.value → FixedAt N s b.value
  low_cut met s s<t has =
      let fewer = count_has_subset N⊆M b.value b.end in
      let kept =
      count_same (λ r. test_bit (get_or N r 0) b.value) (λ r. test_bit (get_or M r 0) b.value) b.end (λ r r<t. N⊆M.bits r b.value)
      (omega (arith, keeps.low)) s s<t
      in
      keeps.at_low (omega (arith, keeps.low)) s s<t (omega (arith, test_bit_lt (get_or N s 0) b.value))

  -- where M fixes as many as the upper bound, N lacks v at each slot that M does not fix to v
  pub high_cut : count_fixed M b.value b.end ≡ b.upper → (s : ℕ) → s < b.end → (FixedAt M s b.value → ⊥) → LacksAt N s b.value
  high_cut met s s<t free =
      let more = count_fixed_subset N⊆M alive b.value b.end in
      let kept =
      count_same (λ r. only (get_or M r 0) b.value) (λ r. only (get_or N r 0) b.value) b.end (λ r r<t. only_subset N⊆M alive b.value r)
      (omega (arith, keeps.high)) s s<t
      in
      keeps.at_high (omega (arith, keeps.high)) s s<t
      (λ fixed. free (fixed_only (get_or M s 0) b.value (omega (arith, only_fixed (get_or N s 0) b.value fixed))))

  -- M breaks neither side of the bound
  pub keeps_unbroken : Unbroken M b
  keeps_unbroken =
      record {
        low = le_trans keeps.low (count_has_subset N⊆M b.value b.end);
        high = le_trans (count_fixed_subset N⊆M alive b.value b.end) keeps.high;
      }

-- ---- All
module _ {A : Type 0} (C D : A → Type 0) where
  pub all_map : (xs : List A) → ((x : A) → C x → D x) → All C xs → All D xs
  all_map [] f all = tt
  all_map (x ∷ xs) f all = (f x all.0, all_map xs f all.1)

  pub all_zip : (E : A → Type 0) (xs : List A) → ((x : A) → C x → D x → E x) → All C xs → All D xs → All E xs
  all_zip E [] f all all' = tt
  all_zip E (x ∷ xs) f all all' = (f x all.0 all'.0, all_zip E xs f all.1 all'.1)

module _ {A : Type 0} (C : A → Type 0) where
  pub all_append : (xs ys : List A) → All C xs → All C ys → All C (xs ++ ys)
  all_append [] ys all all' = all'
  all_append (x ∷ xs) ys all all' = (all.0, all_append xs ys all.1 all')

  pub append_all : (xs ys : List A) → All C (xs ++ ys) → All C xs × All C ys
  append_all [] ys all = (tt, all)
  append_all (x ∷ xs) ys all =
      let rest = append_all xs ys all.1 in
      ((all.0, rest.0), rest.1)

-- ---- Stable
-- a list that holds a stable one breaks no bound and has no empty mask
pub stable_unbroken : (bs : List Bound) (N M : List ℕ) → Stable bs N → Subset N M → All (Unbroken M) bs
stable_unbroken bs N M stable N⊆M =
    all_map (λ b. Keeps b N) (Unbroken M) bs (λ b keeps. keeps_unbroken stable.alive keeps N⊆M) stable.keeps

pub empty_broken : (bs : List Bound) (M : List ℕ) (s : ℕ) → s < length M → get_or M s 0 ≡ 0 → Unstable bs M
empty_broken bs M s inside empty N stable N⊆M = (alive_superset N⊆M stable.alive).each s inside empty

-- ---- Largest
pub largest_unique : {bs : List Bound} {M N N' : List ℕ} → Largest bs M N → Largest bs M N' → N ≡ N'
largest_unique {N} {N'} one other =
    subset_antisym (other.largest N one.stable one.within) (one.largest N' other.stable other.within)

pub stable_largest : {bs : List Bound} {M : List ℕ} → Stable bs M → Largest bs M M
stable_largest {M} stable = record { stable = stable; within = subset_refl M; largest = λ N N_stable N⊆M. N⊆M }

-- N is the largest stable list within M, A lies within M, and B holds all that A and N share (a decision cuts M to A and N to B):
-- what is largest within B is so within A
module _ {bs : List Bound} {M N A B : List ℕ} (largest : Largest bs M N) (A⊆M : Subset A M)
    (shared : (X : List ℕ) → Subset X A → Subset X N → Subset X B) where
  stable_shared : (X : List ℕ) → Stable bs X → Subset X A → Subset X B
  stable_shared X stable X⊆A = shared X X⊆A (largest.largest X stable (subset_trans X⊆A A⊆M))

  pub largest_narrow : {X : List ℕ} → Subset B A → Largest bs B X → Largest bs A X
  largest_narrow B⊆A within_B =
      record {
        stable = within_B.stable;
        within = subset_trans within_B.within B⊆A;
        largest = λ Y stable Y⊆A. within_B.largest Y stable (stable_shared Y stable Y⊆A);
      }

  pub unstable_narrow : Unstable bs B → Unstable bs A
  unstable_narrow none_in_B Y stable Y⊆A = none_in_B Y stable (stable_shared Y stable Y⊆A)
