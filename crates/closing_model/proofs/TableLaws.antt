-- The laws of `specs/Table.antt`, in its order. No contract cites this file. `closed_by_sums` and `by_sums_closed`: document 01's words
-- and the form with whole sums say the same. `loosest_lowers`, `loosest_uppers`, `loosest_unique`: there is one loosest table.
-- `closed_lower_staircase`, `closed_upper_staircase`, `closed_lower_sum`, `closed_upper_sum`: what a closed table looks like.
-- Assumes nothing.
use mathlib.Core.Path.{◌≡◌, sym, ◌∙◌}
use mathlib.Core.List.{List}
use Prim.Native.Nat.{ℕ, suc, ◌+◌, ◌≤◌, ◌<◌}
use native.Mathlib.Nat.{le_refl, le_trans, le_antisymm}
use native.Mathlib.Omega.{arith}
use lib.ListN.{length}
use lib.Seq.{ext_get_or}
use Rattle.closing_model.specs.Table.{Table, view, size, place, Closed, Within, Loosest}
use Rattle.closing_model.specs.Sweep.{column_sum, ClosedBySums}
use Rattle.closing_model.specs.Corners.{Staircase, line}
use Rattle.closing_model.proofs.PlaceLaws.{place_next}
use Rattle.closing_model.proofs.SumLaws.{others_own}

-- ---- Closed
pub closed_by_sums : (n k : ℕ) (T : Table) → Closed n k T → ClosedBySums n k T
closed_by_sums n k T closed =
    record {
      along = λ v v<k.
          record {
            fwd = λ t t<n.
                record {
                  lower = rw (place_next n v t) (closed.lower_before v t v<k t<n);
                  upper = rw (place_next n v t) (closed.upper_before v t v<k t<n);
                };
            bwd = λ t from t<n.
                record {
                  lower = rw (place_next n v t) (closed.lower_after v t v<k t<n);
                  upper = rw (place_next n v t) (closed.upper_after v t v<k t<n);
                };
          };
      across = λ t t≤n v v<k.
          record {
            lower = omega (arith, closed.lower_across v t v<k t≤n, others_own n t T.upper v k v<k);
            upper = omega (arith, closed.upper_across v t v<k t≤n, others_own n t T.lower v k v<k);
          };
      uncrossed = closed.uncrossed;
    }

pub by_sums_closed : (n k : ℕ) (T : Table) → ClosedBySums n k T → Closed n k T
by_sums_closed n k T sums =
    record {
      lower_before = λ v t v<k t<n. rw (place_next n v t) at ((sums.along v v<k).fwd t t<n).lower;
      lower_after = λ v t v<k t<n. rw (place_next n v t) at ((sums.along v v<k).bwd t (omega arith) t<n).lower;
      upper_before = λ v t v<k t<n. rw (place_next n v t) at ((sums.along v v<k).fwd t t<n).upper;
      upper_after = λ v t v<k t<n. rw (place_next n v t) at ((sums.along v v<k).bwd t (omega arith) t<n).upper;
      lower_across = λ v t v<k t≤n. omega (arith, (sums.across t t≤n v v<k).lower, others_own n t T.upper v k v<k);
      upper_across = λ v t v<k t≤n. omega (arith, (sums.across t t≤n v v<k).upper, others_own n t T.lower v k v<k);
      uncrossed = sums.uncrossed;
    }

-- ---- Within
pub within_refl : (m : ℕ) (A : Table) → Within m A A
within_refl m A = record { lowers = λ p inside. le_refl _; uppers = λ p inside. le_refl _ }

pub within_trans : {m : ℕ} {A B C : Table} → Within m A B → Within m B C → Within m A C
within_trans ab bc =
    record {
      lowers = λ p inside. le_trans (ab.lowers p inside) (bc.lowers p inside);
      uppers = λ p inside. le_trans (bc.uppers p inside) (ab.uppers p inside);
    }

pub within_fewer : {m m' : ℕ} {A B : Table} → m ≤ m' → Within m' A B → Within m A B
within_fewer m≤m' ab = record { lowers = λ p inside. ab.lowers p (le_trans inside m≤m'); uppers = λ p inside. ab.uppers p (le_trans inside m≤m') }

-- ---- Loosest
pub loosest_lowers : {n k : ℕ} {A B C : Table} → Loosest n k A B → Loosest n k A C → (p : ℕ) → p < size n k → B.lower p ≡ C.lower p
loosest_lowers {B} {C} b c p inside = le_antisymm ((b.loosest C c.closed c.within).lowers p inside) ((c.loosest B b.closed b.within).lowers p inside)

pub loosest_uppers : {n k : ℕ} {A B C : Table} → Loosest n k A B → Loosest n k A C → (p : ℕ) → p < size n k → B.upper p ≡ C.upper p
loosest_uppers {B} {C} b c p inside = le_antisymm ((c.loosest B b.closed b.within).uppers p inside) ((b.loosest C c.closed c.within).uppers p inside)

pub loosest_unique : (n k : ℕ) {A : Table} (L U L' U' : List ℕ) → length L ≡ size n k → length U ≡ size n k → length L' ≡ size n k
    → length U' ≡ size n k → Loosest n k A (view L U) → Loosest n k A (view L' U') → (L ≡ L') × (U ≡ U')
loosest_unique n k L U L' U' long_L long_U long_L' long_U' one other = (
  ext_get_or 0 L L' (long_L ∙ sym long_L') (λ p inside. loosest_lowers one other p (rw long_L at inside)),
  ext_get_or 0 U U' (long_U ∙ sym long_U') (λ p inside. loosest_uppers one other p (rw long_U at inside)),
)

-- ---- what a closed table looks like
module _ (n k : ℕ) (T : Table) (closed : Closed n k T) where
  -- the sums across the values bracket the prefix length
  pub closed_lower_sum : (t : ℕ) → t ≤ n → 0 < k → column_sum n k T.lower t ≤ t
  closed_lower_sum t t≤n 0<k = omega (arith, closed.upper_across 0 t 0<k t≤n, closed.uncrossed 0 t 0<k t≤n, others_own n t T.lower 0 k 0<k)

  pub closed_upper_sum : (t : ℕ) → t ≤ n → 0 < k → t ≤ column_sum n k T.upper t
  closed_upper_sum t t≤n 0<k = omega (arith, closed.lower_across 0 t 0<k t≤n, closed.uncrossed 0 t 0<k t≤n, others_own n t T.upper 0 k 0<k)

  module _ (v : ℕ) (v<k : v < k) where
    pub closed_upper_start : T.upper (place n v 0) ≡ 0
    closed_upper_start = omega (arith, closed.upper_across v 0 v<k (omega arith))

    pub closed_lower_start : T.lower (place n v 0) ≡ 0
    closed_lower_start = omega (arith, closed.uncrossed v 0 v<k (omega arith), closed_upper_start)

    next : (t : ℕ) → t + 1 ≡ suc t
    next t = omega arith

    pub closed_upper_staircase : Staircase n (line T.upper n v)
    closed_upper_staircase =
        record {
          start = closed_upper_start;
          grows = λ t t<n. rw (next t) at (closed.upper_after v t v<k t<n);
          slowly = λ t t<n. rw (next t) at (closed.upper_before v t v<k t<n);
        }

    pub closed_lower_staircase : Staircase n (line T.lower n v)
    closed_lower_staircase =
        record {
          start = closed_lower_start;
          grows = λ t t<n. rw (next t) at (closed.lower_before v t v<k t<n);
          slowly = λ t t<n. rw (next t) at (closed.lower_after v t v<k t<n);
        }
