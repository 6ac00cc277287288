-- What the outcomes of `strike` and `fix` say in the words of settling, for a closed table T that the cells mirror: from a stable list Live ends
-- in the largest stable list within the cut one (`strike_largest`, `fix_largest`), and Dead says that there is none (`strike_unstable`,
-- `fix_unstable`); `fix` is Live only where the slot has the value (`fix_live_has`). No contract cites this file. Assumes nothing.
use mathlib.Core.Logic.{dite}
use mathlib.Core.List.{List}
use Prim.Native.Nat.{ℕ, ◌^◌, ◌≤◌, ◌<◌, zero-le}
use native.Mathlib.Nat.{le_refl}
use native.Mathlib.Decide.{ℕ_discrete}
use native.Mathlib.Omega.{arith}
use lib.ListN.{length, get_or, set, length-set}
use Rattle.domains.specs.Mask.{test_bit, clear_bit}
use Rattle.domains.specs.Masks.{HasAt, Alive, Subset}
use Rattle.domains.proofs.MaskLaws.{test_bit_clear_bit_same, test_bit_clear_bit_le, test_bit_fixed_same, test_bit_fixed_other, fixed_within}
use Rattle.domains.proofs.MasksLaws.{has_subset}
use Rattle.closing_model.specs.Table.{Table, Closed}
use Rattle.settling_model.specs.Stable.{Stable, Largest, Unstable, table_bounds}
use Rattle.filter_model.specs.Cuts.{StrikeCut, FixCut}
use Rattle.filter_model.specs.Mirror.{Mirror}
use Rattle.filter_model.proofs.MirrorLaws.{progress_stable}
use Rattle.filter_model.proofs.StoreLaws.{within_store, store_within, store_at, strike_bits}
use Rattle.filter.specs.Filtered.{Filtered}
use Rattle.outcomes.specs.declared.Outcome.TheVariants.{Live, Dead}

-- ---- the slot's mask cut to m; a list that lies within it meets the cut Q
module _ {n k : ℕ} {Q : List ℕ → Type 0} {M c t M' c' t' : List ℕ} {top h : ℕ} {T : Table} (mirror : Mirror n k T M c) (slot m : ℕ)
    (inside : slot < length M) (less : (x : ℕ) → test_bit m x ≤ test_bit (get_or M slot 0) x)
    (cut : (N : List ℕ) → Alive N → Subset N (set M slot m) → Q N) where
  cut_largest : Closed n k T → Stable (table_bounds n k T) M → ((x : ℕ) → test_bit (get_or M' slot 0) x ≤ test_bit m x)
      → Filtered n k Q Q M c t top M' c' t' (Live h) → Largest (table_bounds n k T) (set M slot m) M'
  cut_largest closed stable small done =
      record {
        stable =
            progress_stable n k T M M' closed stable done.moved.within (done.moved.alive stable.alive) (done.mirror T mirror)
            (done.progress tt T mirror);
        within = within_store M slot m inside done.moved.within small;
        largest = λ N N_stable N⊆. done.keeps T mirror N N_stable (store_within M slot m inside less N⊆) (cut N N_stable.alive N⊆);
      }

  cut_unstable : Filtered n k Q Q M c t top M' c' t' (Dead h) → Unstable (table_bounds n k T) (set M slot m)
  cut_unstable done N N_stable N⊆ = done.keeps T mirror N N_stable (store_within M slot m inside less N⊆) (cut N N_stable.alive N⊆)

-- ---- what it is to lie within the cut list
module _ (M : List ℕ) (slot v : ℕ) (inside : slot < length M) where
  store_strike : (N : List ℕ) → Alive N → Subset N (set M slot (clear_bit (get_or M slot 0) v)) → StrikeCut slot v N
  store_strike N alive N⊆ =
      record { lacks = omega (arith, store_at M slot (clear_bit (get_or M slot 0) v) inside N⊆ v, test_bit_clear_bit_same (get_or M slot 0) v) }

  store_fix : (N : List ℕ) → Alive N → Subset N (set M slot (2 ^ v)) → FixCut slot v N
  store_fix N alive N⊆ =
      record {
        fixed =
            fixed_within (get_or N slot 0) v (alive.each slot (omega (arith, N⊆.len, length-set M slot (2 ^ v))))
            (store_at M slot (2 ^ v) inside N⊆);
      }

  fix_less : HasAt M slot v → (x : ℕ) → test_bit (2 ^ v) x ≤ test_bit (get_or M slot 0) x
  fix_less has x =
      dite (ℕ_discrete x v) (λ same. rw same (omega (arith, test_bit_fixed_same v, has))) (λ other. rw (test_bit_fixed_other v x other) zero-le)

-- ---- strike, and fix where the slot has the value
module _ {n k : ℕ} {M c t M' c' t' : List ℕ} {top h : ℕ} {T : Table} (mirror : Mirror n k T M c) (slot v : ℕ) (inside : slot < length M) where
  pub strike_largest : Closed n k T → Stable (table_bounds n k T) M → Filtered n k (StrikeCut slot v) (StrikeCut slot v) M c t top M' c' t' (Live h)
      → Largest (table_bounds n k T) (set M slot (clear_bit (get_or M slot 0) v)) M'
  strike_largest closed stable done =
      cut_largest mirror slot (clear_bit (get_or M slot 0) v) inside (test_bit_clear_bit_le (get_or M slot 0) v) (store_strike M slot v inside) closed stable
      (strike_bits M slot v inside done.moved.within (done.goal tt)) done

  pub strike_unstable : Filtered n k (StrikeCut slot v) (StrikeCut slot v) M c t top M' c' t' (Dead h)
      → Unstable (table_bounds n k T) (set M slot (clear_bit (get_or M slot 0) v))
  strike_unstable done =
      cut_unstable mirror slot (clear_bit (get_or M slot 0) v) inside (test_bit_clear_bit_le (get_or M slot 0) v) (store_strike M slot v inside) done

  pub fix_largest : HasAt M slot v → Closed n k T → Stable (table_bounds n k T) M
      → Filtered n k (FixCut slot v) (FixCut slot v) M c t top M' c' t' (Live h)
      → Largest (table_bounds n k T) (set M slot (2 ^ v)) M'
  fix_largest has closed stable done =
      cut_largest mirror slot (2 ^ v) inside (fix_less M slot v inside has) (store_fix M slot v inside) closed stable
      (λ x. rw (done.goal tt).fixed (le_refl _)) done

  -- a fix to an absent value is Dead
  pub fix_live_has : Filtered n k (FixCut slot v) (FixCut slot v) M c t top M' c' t' (Live h) → HasAt M slot v
  fix_live_has done = has_subset done.moved.within slot v (rw (done.goal tt).fixed (test_bit_fixed_same v))

  pub fix_unstable : HasAt M slot v → Filtered n k (FixCut slot v) (FixCut slot v) M c t top M' c' t' (Dead h)
      → Unstable (table_bounds n k T) (set M slot (2 ^ v))
  fix_unstable has done = cut_unstable mirror slot (2 ^ v) inside (fix_less M slot v inside has) (store_fix M slot v inside) done
