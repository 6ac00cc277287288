-- The three tests for a strike that no stable list allows (`Contradicted` of `specs/State.antt`): the slot's last value
-- (`contradicted_empty`), a slot before the spent corner of the value's lower bound (`contradicted_low`), or of the upper bound of the one value
-- that would be left (`contradicted_high`). No contract cites this file. Assumes nothing.
use mathlib.Core.Path.{◌≡◌, refl, ap}
use mathlib.Core.Bool.{true, false}
use mathlib.Core.List.{List}
use Prim.Native.Nat.{ℕ, ◌+◌, ◌*◌, ◌<◌}
use native.Mathlib.Nat.{lt_of_not-le}
use native.Mathlib.Omega.{arith}
use lib.Pow.{pow_pos}
use lib.ListN.{get_or}
use Rattle.domains.specs.Mask.{test_bit, Fixed, clear_bit}
use Rattle.domains.specs.Masks.{HasAt, Subset}
use Rattle.domains.proofs.MaskLaws.{test_bit_ext, test_bit_empty, test_bit_fixed_same, test_bit_clear_bit_le, fixed_within}
use Rattle.closing_model.specs.Table.{Table}
use Rattle.settling_model.specs.Stable.{Stable, table_bounds}
use Rattle.filter_model.specs.Cuts.{StrikeCut}
use Rattle.filter_model.specs.Mirror.{Mirror}
use Rattle.filter_model.specs.State.{World, Ready, Contradicted}
use Rattle.filter_model.proofs.SpentLaws.{spent_cut}
use Rattle.filter_model.proofs.StateLaws.{ready_slot}
use Rattle.filter_model.proofs.StoreLaws.{was_free, strike_bits}

-- the one value that is left is below k
pub left_in : {masks cells trail : List ℕ} {n k top : ℕ} (slot v w : ℕ) → World masks cells trail n k top → Fixed (clear_bit (get_or masks slot 0) v) w
    → w < k
left_in {masks} slot v w world left =
    lt_of_not-le
    (λ k≤w.
    absurd
    (omega (
      arith,
      world.values slot w k≤w,
      test_bit_clear_bit_le (get_or masks slot 0) v w,
      ap (λ (m : ℕ). test_bit m w) left,
      test_bit_fixed_same w,
    )))

module _ {masks cells trail : List ℕ} {n k top slot v : ℕ} (ready : Ready masks cells trail n k top slot v) (has : HasAt masks slot v) where
  abbrev Dead : Type 0
  Dead = (T : Table) → Mirror n k T masks cells → (N : List ℕ) → Stable (table_bounds n k T) N → Subset N masks → StrikeCut slot v N → ⊥

  unchanged : Dead → Contradicted n k masks cells trail masks cells trail slot v
  unchanged dead = record { masks_same = refl; cells_same = refl; trail_same = refl; dead = dead }

  pub contradicted_empty : clear_bit (get_or masks slot 0) v ≡ 0 → Contradicted n k masks cells trail masks cells trail slot v
  contradicted_empty empty =
      unchanged
      (λ T mirror N stable N⊆M cut.
      stable.alive.each slot (omega (arith, N⊆M.len, ready_slot ready))
      (test_bit_ext (get_or N slot 0) 0
      (λ x.
      omega (
        arith,
        strike_bits masks slot v (ready_slot ready) N⊆M cut x,
        ap (λ (m : ℕ). test_bit m x) empty,
        test_bit_empty x,
      ))))

  pub contradicted_low : (z : ℕ) → z ≡ get_or cells (v * (n + 2)) 0 → slot < z → Contradicted n k masks cells trail masks cells trail slot v
  contradicted_low z z_is before =
      unchanged
      (λ T mirror N stable N⊆M cut.
      let fixed = ((spent_cut mirror true v ready.value_in z z_is N stable N⊆M).each slot before has).fixed in
      omega (arith, cut.lacks, ap (λ (m : ℕ). test_bit m v) fixed, test_bit_fixed_same v))

  pub contradicted_high : (w z : ℕ) → Fixed (clear_bit (get_or masks slot 0) v) w → z ≡ get_or cells ((k + w) * (n + 2)) 0 → slot < z
      → Contradicted n k masks cells trail masks cells trail slot v
  contradicted_high w z left z_is before =
      unchanged
      (λ T mirror N stable N⊆M cut.
      let free = was_free (get_or masks slot 0) v w has (λ none. omega (arith, none, left, pow_pos w)) in
      let lacks = ((spent_cut mirror false w (left_in slot v w ready.world left) z z_is N stable N⊆M).each slot before free).lacks in
      let fixed =
      fixed_within (get_or N slot 0) w (stable.alive.each slot (omega (arith, N⊆M.len, ready_slot ready)))
      (λ x. rw (← left) (strike_bits masks slot v (ready_slot ready) N⊆M cut x))
      in
      omega (arith, lacks, ap (λ (m : ℕ). test_bit m w) fixed, test_bit_fixed_same w))
