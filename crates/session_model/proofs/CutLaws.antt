-- The laws of one decision on masks (`specs/Decisions.antt`): a list lies within a cut exactly where it lies within what was cut and meets the
-- decision (`cut_subset`, `cut_meets`, `subset_cut`; `meets_subset`: what lies within a list that meets it meets it too). They ask nothing of
-- the slot: past the end there is nothing to cut. No contract cites this file. Assumes nothing.
use mathlib.Core.Path.{◌≡◌, sym, ap, ◌∙◌}
use mathlib.Core.Logic.{dite}
use mathlib.Core.List.{List}
use Prim.Native.Nat.{ℕ, ◌*◌, ◌^◌, ◌≤◌, ◌<◌}
use native.Mathlib.Nat.{zero-mul, one-mul}
use native.Mathlib.Decide.{ℕ_discrete, dec_lt}
use native.Mathlib.Omega.{arith}
use lib.ListN.{length, get_or, set, length-set}
use lib.Seq.{set_out, get_or-set_same, get_or-set_other}
use Rattle.domains.specs.Mask.{test_bit, clear_bit, Has}
use Rattle.domains.specs.Masks.{HasAt, Subset}
use Rattle.domains.proofs.MaskLaws.{test_bit_lt, test_bit_empty, test_bit_fixed_same, test_bit_fixed_other, test_bit_clear_bit_same, test_bit_clear_bit_other, test_bit_clear_bit_le}
use Rattle.domains.proofs.MasksLaws.{has_inside, has_subset, subset_refl, subset_store}
use Rattle.session_model.specs.Decisions.{Decision, assign, remove, keep_only, cut, Meets}

-- ---- keep_only
module _ (m v : ℕ) where
  keep_only_lacks : test_bit m v ≡ 0 → keep_only m v ≡ 0
  unfolding keep_only
  keep_only_lacks lacks = ap (λ (x : ℕ). x * 2 ^ v) lacks ∙ zero-mul (2 ^ v)

  keep_only_has : Has m v → keep_only m v ≡ 2 ^ v
  unfolding keep_only
  keep_only_has has = ap (λ (x : ℕ). x * 2 ^ v) has ∙ one-mul (2 ^ v)

  test_bit_keep_only_same : test_bit (keep_only m v) v ≡ test_bit m v
  test_bit_keep_only_same =
      dite (ℕ_discrete (test_bit m v) 1) (λ has. ap (λ (x : ℕ). test_bit x v) (keep_only_has has) ∙ test_bit_fixed_same v ∙ sym has)
      (λ lacks. omega (arith, test_bit_lt m v, ap (λ (x : ℕ). test_bit x v) (keep_only_lacks (omega (arith, test_bit_lt m v))), test_bit_empty v))

  test_bit_keep_only_other : (w : ℕ) → (w ≡ v → ⊥) → test_bit (keep_only m v) w ≡ 0
  test_bit_keep_only_other w w≢v =
      dite (ℕ_discrete (test_bit m v) 1) (λ has. ap (λ (x : ℕ). test_bit x w) (keep_only_has has) ∙ test_bit_fixed_other v w w≢v)
      (λ lacks. ap (λ (x : ℕ). test_bit x w) (keep_only_lacks (omega (arith, test_bit_lt m v))) ∙ test_bit_empty w)

  test_bit_keep_only_le : (w : ℕ) → test_bit (keep_only m v) w ≤ test_bit m w
  test_bit_keep_only_le w =
      dite (ℕ_discrete w v) (λ w≡v. rw w≡v (omega (arith, test_bit_keep_only_same))) (λ w≢v. omega (arith, test_bit_keep_only_other w w≢v))

-- ---- a store, inside or past the end
module _ (M : List ℕ) (s m : ℕ) where
  store_subset : ((w : ℕ) → test_bit m w ≤ test_bit (get_or M s 0) w) → Subset (set M s m) M
  store_subset less =
      dite (dec_lt s (length M)) (λ inside. subset_store M s m inside less)
      (λ outside. rw (set_out M s m (omega arith)) (subset_refl M))

  subset_of_store : (N : List ℕ) → Subset N M → ((w : ℕ) → test_bit (get_or N s 0) w ≤ test_bit m w) → Subset N (set M s m)
  subset_of_store N N⊆M less =
      dite (dec_lt s (length M))
      (λ inside.
      record {
        len = N⊆M.len ∙ sym (length-set M s m);
        bits = λ t w.
            dite (ℕ_discrete t s) (λ t≡s. rw (t≡s, get_or-set_same M s m 0 inside) (less w)) (λ t≢s. rw (get_or-set_other M s t m 0 t≢s) (N⊆M.bits t w));
      })
      (λ outside. rw (set_out M s m (omega arith)) N⊆M)

  -- what the slot has after it, the stored mask has
  store_has : (w : ℕ) → HasAt (set M s m) s w → Has m w
  store_has w has =
      let inside : s < length M = omega (arith, has_inside (set M s m) s w has, length-set M s m) in
      rw (get_or-set_same M s m 0 inside) at has

-- ---- Meets
-- what lies within a list that meets a decision meets it
pub meets_subset : (d : Decision) {N M : List ℕ} → Subset N M → Meets d M → Meets d N
meets_subset (assign s v) N⊆M meets = λ w has. meets w (has_subset N⊆M s w has)
meets_subset (remove s v) N⊆M meets = omega (arith, N⊆M.bits s v)

-- ---- cut
pub cut_subset : (d : Decision) (M : List ℕ) → Subset (cut d M) M
unfolding cut
cut_subset (assign s v) M = store_subset M s (keep_only (get_or M s 0) v) (test_bit_keep_only_le (get_or M s 0) v)
cut_subset (remove s v) M = store_subset M s (clear_bit (get_or M s 0) v) (test_bit_clear_bit_le (get_or M s 0) v)

pub cut_meets : (d : Decision) (M : List ℕ) → Meets d (cut d M)
unfolding cut
cut_meets (assign s v) M = λ w has.
    let kept = store_has M s (keep_only (get_or M s 0) v) w has in
    dite (ℕ_discrete w v) (λ w≡v. w≡v) (λ w≢v. absurd (omega (arith, test_bit_keep_only_other (get_or M s 0) v w w≢v)))
cut_meets (remove s v) M =
    let m = clear_bit (get_or M s 0) v in
    dite (ℕ_discrete (test_bit (get_or (set M s m) s 0) v) 1)
    (λ has. absurd (omega (arith, store_has M s m v has, test_bit_clear_bit_same (get_or M s 0) v)))
    (λ lacks. omega (arith, test_bit_lt (get_or (set M s m) s 0) v))

pub subset_cut : (d : Decision) (N M : List ℕ) → Subset N M → Meets d N → Subset N (cut d M)
unfolding cut
subset_cut (assign s v) N M N⊆M meets =
    subset_of_store M s (keep_only (get_or M s 0) v) N N⊆M
    (λ w.
    dite (ℕ_discrete w v) (λ w≡v. rw w≡v (omega (arith, test_bit_keep_only_same (get_or M s 0) v, N⊆M.bits s v)))
    (λ w≢v. dite (ℕ_discrete (test_bit (get_or N s 0) w) 1) (λ has. absurd (w≢v (meets w has))) (λ lacks. omega (arith, test_bit_lt (get_or N s 0) w))))
subset_cut (remove s v) N M N⊆M meets =
    subset_of_store M s (clear_bit (get_or M s 0) v) N N⊆M
    (λ w.
    dite (ℕ_discrete w v) (λ w≡v. rw w≡v (omega (arith, meets)))
    (λ w≢v. omega (arith, test_bit_clear_bit_other (get_or M s 0) v w w≢v, N⊆M.bits s w)))
