-- What the loops of the cycle pass: the values that `fix` strikes (`other_cut`, `other_last`), and the slots that a met bound concerns
-- (`free_concerned`). No contract cites this file. Assumes nothing.
use mathlib.Core.Path.{◌≡◌, sym, ap, ◌∙◌}
use mathlib.Core.Bool.{Bool, true, false}
use mathlib.Core.Logic.{dite}
use mathlib.Core.List.{List}
use Prim.Native.Nat.{ℕ, ◌≤◌, ◌<◌}
use native.Mathlib.Nat.{lt_of_not-le}
use native.Mathlib.Decide.{ℕ_discrete}
use native.Mathlib.Omega.{arith}
use lib.Count.{ones}
use lib.ListN.{length, get_or}
use Rattle.domains.specs.Mask.{test_bit, clear_bit, Has}
use Rattle.domains.specs.Masks.{HasAt, FixedAt, Alive, Subset, total}
use Rattle.domains.proofs.MaskLaws.{test_bit_lt, test_bit_empty, test_bit_clear_bit_same, test_bit_clear_bit_other, test_bit_clear_bit_le}
use Rattle.domains.proofs.MaskLaws.{ones_none, ones_empty, ones_clear_bit, test_bit_fixed_same, test_bit_fixed_other, fixed_within, single_alone}
use Rattle.domains.proofs.MasksLaws.{has_subset, fixed_has_subset, total_mono}
use Rattle.settling_model.proofs.SettledLaws.{lacks_not_has}
use Rattle.filter_model.specs.Cuts.{StrikeCut, FixCut, Concerned}
use Rattle.filter_model.specs.State.{World}
use Rattle.filter_model.proofs.StoreLaws.{single_has_fixed}

-- ---- fix: w is one of the values that the slot has besides v
pub record Other (M : List ℕ) (slot v w : ℕ) : Type 0 where
  pub left : Has (clear_bit (get_or M slot 0) v) w

pub other_of : (M : List ℕ) (slot v w : ℕ) {rest : ℕ} → rest ≡ clear_bit (get_or M slot 0) v → Has rest w → Other M slot v w
other_of M slot v w rest_is has = record { left = rw rest_is at has }

module _ {M : List ℕ} {slot v w : ℕ} (other : Other M slot v w) where
  pub other_has : HasAt M slot w
  other_has = omega (arith, other.left, test_bit_clear_bit_le (get_or M slot 0) v w, test_bit_lt (get_or M slot 0) w)

  other_not : w ≡ v → ⊥
  other_not w≡v =
      let bit : test_bit (clear_bit (get_or M slot 0) v) v ≡ 1 = rw w≡v at other.left in
      omega (arith, test_bit_clear_bit_same (get_or M slot 0) v)

  pub other_value : {cells trail : List ℕ} {n k top : ℕ} → World M cells trail n k top → w < k
  other_value world = lt_of_not-le (λ k≤w. lacks_not_has M slot w (world.values slot w k≤w) other_has)

  -- a list that is fixed to v lacks it
  pub other_cut : (N : List ℕ) → FixCut slot v N → StrikeCut slot w N
  other_cut N cut = record { lacks = rw cut.fixed (test_bit_fixed_other v w other_not) }

  -- where v and w are all, the strike of w leaves v
  pub other_last : {M' : List ℕ} → HasAt M slot v → ones (get_or M slot 0) ≤ 2 → slot < length M → Subset M' M → Alive M' → StrikeCut slot w M'
      → FixCut slot v M'
  other_last {M'} has_v few inside M'⊆M alive cut =
      let m = get_or M slot 0 in
      let m' = get_or M' slot 0 in
      let some : (ones (clear_bit m v) ≡ 0 → ⊥) =
      λ none. omega (arith, other.left, ap (λ (x : ℕ). test_bit x w) (ones_empty (clear_bit m v) none), test_bit_empty w) in
      let one : ones (clear_bit m v) ≡ 1 = omega (arith, some, ones_clear_bit m v, has_v, few) in
      record {
        fixed =
            fixed_within m' v (alive.each slot (omega (arith, M'⊆M.len)))
            (λ x.
            dite (ℕ_discrete x v) (λ same. rw same (omega (arith, test_bit_fixed_same v, test_bit_lt m' v)))
            (λ not_v.
            dite (ℕ_discrete x w) (λ same. rw same (omega (arith, cut.lacks)))
            (λ not_w.
            omega (arith, M'⊆M.bits slot x, test_bit_clear_bit_other m v x not_v, single_alone (clear_bit m v) w x one other.left not_w))));
      }

-- a slot that has v and nothing besides is fixed to v
pub other_none : (M : List ℕ) (slot v : ℕ) {rest : ℕ} → HasAt M slot v → rest ≡ clear_bit (get_or M slot 0) v → rest ≡ 0 → FixCut slot v M
other_none M slot v has rest_is none =
    let m = get_or M slot 0 in
    let empty : clear_bit m v ≡ 0 = sym rest_is ∙ none in
    record { fixed = single_has_fixed m v (omega (arith, ones_clear_bit m v, ap ones empty, ones_none, has)) has }

-- ---- the slots before an end
-- a slot that has v and others besides is concerned by a bound that M₀ meets, where M lies within M₀
pub free_concerned : (kind : Bool) {M M₀ : List ℕ} → Subset M M₀ → (s v : ℕ) → HasAt M s v → (FixedAt M s v → ⊥) → Concerned kind M₀ s v
free_concerned true M⊆M₀ s v has free = has_subset M⊆M₀ s v has
free_concerned false M⊆M₀ s v has free = λ fixed. free (fixed_has_subset M⊆M₀ s v fixed has)

-- ---- the measure
pub total_less : {N M : List ℕ} → Subset N M → total N ≤ total M
total_less {N} {M} N⊆M = total_mono N M N⊆M
