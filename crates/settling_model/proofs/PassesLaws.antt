-- The laws of `pass`, `passes` and `fixpoint` of `specs/Settling.antt`: a pass shrinks the masks and keeps every stable list, where it
-- changes nothing no cut does, and one that changes something strikes a value. So the passes end (`fixpoint_still`) in a list within the
-- given one (`fixpoint_subset`) that has every stable list within it (`fixpoint_keeps`); `still_stable` says when it is stable itself.
-- No contract cites this file. Assumes nothing.
use mathlib.Core.Path.{◌≡◌, refl, sym, subst⁻¹, ◌∙◌}
use mathlib.Core.Bool.{Bool, true, false, true≢false}
use mathlib.Core.Logic.{dite}
use mathlib.Core.List.{List, [], ◌∷◌}
use Prim.Native.Nat.{ℕ, zero, suc, ◌≤◌}
use native.Mathlib.Nat.{le_refl}
use native.Mathlib.Decide.{dec_le}
use native.Mathlib.Omega.{arith}
use lib.Arith.{bin_ind}
use lib.Count.{ones, ones_step}
use Rattle.domains.specs.Masks.{Alive, Subset, total}
use Rattle.domains.proofs.MaskLaws.{ones_none}
use Rattle.domains.proofs.MasksLaws.{subset_refl, subset_trans, subset_antisym, total_same}
use Rattle.closing_model.specs.Closing.{same, list_sum}
use Rattle.closing_model.proofs.TestLaws.{same_true, true_same}
use Rattle.book.specs.Lists.{All}
use Rattle.settling_model.specs.Stable.{Bound, Keeps, Unbroken, Stable}
use Rattle.settling_model.specs.Cuts.{cut_low, cut_high}
use Rattle.settling_model.specs.Settling.{pass, passes, fixpoint}
use Rattle.settling_model.proofs.StableLaws.{settled_keeps, all_zip}
use Rattle.settling_model.proofs.CutsLaws.{cut_low_subset, cut_high_subset, cut_low_settled, cut_high_settled, cut_low_keeps, cut_high_keeps}

-- ---- pass
pass_subset : (bs : List Bound) (M : List ℕ) → Subset (pass bs M) M
unfolding pass
pass_subset [] M = subset_refl M
pass_subset (b ∷ bs) M =
    subset_trans (pass_subset bs (cut_high b (cut_low b M))) (subset_trans (cut_high_subset b (cut_low b M)) (cut_low_subset b M))

pass_keeps : (bs : List Bound) (N M : List ℕ) → Alive N → All (λ b. Keeps b N) bs → Subset N M → Subset N (pass bs M)
unfolding pass
pass_keeps [] N M alive keeps N⊆M = N⊆M
pass_keeps (b ∷ bs) N M alive keeps N⊆M =
    pass_keeps bs N (cut_high b (cut_low b M)) alive keeps.1 (cut_high_keeps alive keeps.0 (cut_low_keeps alive keeps.0 N⊆M))

-- a pass that changes nothing: no cut does
record Still (M : List ℕ) (b : Bound) : Type 0 where
  low : cut_low b M ≡ M
  high : cut_high b M ≡ M

pass_still : (bs : List Bound) (M : List ℕ) → pass bs M ≡ M → All (Still M) bs
unfolding pass
pass_still [] M still = tt
pass_still (b ∷ bs) M still =
    let A = cut_low b M in
    let M⊆ : Subset M (cut_high b A) = rw still at (pass_subset bs (cut_high b A)) in
    let low : A ≡ M = subset_antisym (cut_low_subset b M) (subset_trans M⊆ (cut_high_subset b A)) in
    let both : cut_high b A ≡ M = subset_antisym (subset_trans (cut_high_subset b A) (cut_low_subset b M)) M⊆ in
    let high : cut_high b M ≡ M = rw low at both in
    (record { low = low; high = high }, pass_still bs M (rw both at still))

-- where it changes nothing and no bound is broken, the list is stable
pub still_stable : (bs : List Bound) (M : List ℕ) → pass bs M ≡ M → Alive M → All (Unbroken M) bs → Stable bs M
still_stable bs M still alive unbroken =
    record {
      alive = alive;
      keeps =
          all_zip (Still M) (Unbroken M) (λ b. Keeps b M) bs
          (λ b s u. settled_keeps u.low u.high (cut_low_settled b M s.low) (cut_high_settled b M s.high))
          (pass_still bs M still) unbroken;
    }

-- ---- passes
module _ (fuel : ℕ) (bs : List Bound) (M : List ℕ) where
  passes_last : same M (pass bs M) ≡ true → passes (suc fuel) bs M ≡ M
  unfolding passes
  passes_last still = rw (passes, still)

  passes_more : same M (pass bs M) ≡ false → passes (suc fuel) bs M ≡ passes fuel bs (pass bs M)
  unfolding passes
  passes_more changed = rw (passes, changed)

  passes_case : (C : List ℕ → Type 0) → (pass bs M ≡ M → C M)
      → (same M (pass bs M) ≡ false → C (passes fuel bs (pass bs M))) → C (passes (suc fuel) bs M)
  passes_case C last more = go (same M (pass bs M)) refl
    where
      go : (still : Bool) → same M (pass bs M) ≡ still → C (passes (suc fuel) bs M)
      go true e = subst⁻¹ C (passes_last e) (last (sym (same_true _ _ e)))
      go false e = subst⁻¹ C (passes_more e) (more e)

passes_subset : (fuel : ℕ) (bs : List Bound) (M : List ℕ) → Subset (passes fuel bs M) M
passes_subset zero bs M = unfold passes in subset_refl M
passes_subset (suc fuel) bs M =
    passes_case fuel bs M (λ N. Subset N M) (λ still. subset_refl M) (λ changed. subset_trans (passes_subset fuel bs (pass bs M)) (pass_subset bs M))

passes_keeps : (fuel : ℕ) (bs : List Bound) (N M : List ℕ) → Stable bs N → Subset N M → Subset N (passes fuel bs M)
passes_keeps zero bs N M stable N⊆M = unfold passes in N⊆M
passes_keeps (suc fuel) bs N M stable N⊆M =
    passes_case fuel bs M (λ A. Subset N A) (λ still. N⊆M)
    (λ changed. passes_keeps fuel bs N (pass bs M) stable (pass_keeps bs N M stable.alive stable.keeps N⊆M))

-- enough fuel: one more pass changes nothing
passes_still : (fuel : ℕ) (bs : List Bound) (M : List ℕ) → total M ≤ fuel → pass bs (passes fuel bs M) ≡ passes fuel bs M
passes_still zero bs M enough = unfold passes in total_same (pass bs M) M (pass_subset bs M) (omega arith)
passes_still (suc fuel) bs M enough =
    passes_case fuel bs M (λ N. pass bs N ≡ N) (λ still. still)
    (λ changed.
    passes_still fuel bs (pass bs M)
    (dite (dec_le (total M) (total (pass bs M)))
    (λ no_less.
    absurd (true≢false (sym (true_same M (pass bs M) (sym (total_same (pass bs M) M (pass_subset bs M) no_less))) ∙ changed)))
    (λ less. omega arith)))

-- ---- list_sum, the fuel
ones_self : (m : ℕ) → ones m ≤ m
ones_self = bin_ind (λ (m : ℕ). ones m ≤ m) (omega (arith, ones_none)) (λ m half. omega (arith, ones_step m))

total_list_sum : (M : List ℕ) → total M ≤ list_sum M
unfolding total list_sum
total_list_sum [] = le_refl _
total_list_sum (m ∷ ms) = omega (arith, ones_self m, total_list_sum ms)

-- ---- fixpoint
module _ (bs : List Bound) (M : List ℕ) where
  pub fixpoint_subset : Subset (fixpoint bs M) M
  unfolding fixpoint
  fixpoint_subset = passes_subset _ bs M

  pub fixpoint_keeps : (N : List ℕ) → Stable bs N → Subset N M → Subset N (fixpoint bs M)
  unfolding fixpoint
  fixpoint_keeps N stable N⊆M = passes_keeps _ bs N M stable N⊆M

  pub fixpoint_still : pass bs (fixpoint bs M) ≡ fixpoint bs M
  unfolding fixpoint
  fixpoint_still = passes_still _ bs M (total_list_sum M)
