-- The laws of a step of the model, `step_lowers` and `step_uppers` of `specs/Closing.antt`. No contract cites this file. `step_narrows`: a step
-- narrows the table and loses no closed table within it; `fixed_closed`: an uncrossed table that a step leaves as it is, is closed.
-- Assumes nothing.
use mathlib.Core.Path.{◌≡◌, ap, ◌∙◌}
use mathlib.Core.Logic.{dite}
use mathlib.Core.List.{List}
use Prim.Native.Nat.{ℕ, ◌+◌, ◌-◌, ◌/◌, ◌%◌, ◌≤◌, ◌<◌}
use native.Mathlib.Decide.{dec_lt}
use native.Mathlib.Omega.{arith}
use lib.ListN.{length, get_or}
use Rattle.closing_model.specs.Table.{Table, view, size, place, Closed}
use Rattle.closing_model.specs.Sweep.{column_sum, Narrows}
use Rattle.closing_model.specs.Closing.{new_lower, new_upper, step_lowers, step_uppers}
use Rattle.closing_model.proofs.PlaceLaws.{place_below, place_value, place_prefix, value_below, prefix_upto, place_of}
use Rattle.closing_model.proofs.SumLaws.{others_own, column_sum_zero}
use Rattle.book.proofs.LayoutLaws.{length_list_of, get_d_list_of}
use Rattle.closing_model.proofs.RuleLaws.{new_lower_le, new_upper_le, new_lower_own, new_lower_before, new_lower_after, new_lower_across, new_upper_own, new_upper_before, new_upper_after, new_upper_across}

-- ---- step_lowers, step_uppers
module _ (n k : ℕ) (A : Table) where
  pub step_lowers_length : length (step_lowers n k A) ≡ size n k
  unfolding step_lowers
  step_lowers_length = length_list_of (size n k) _

  pub step_uppers_length : length (step_uppers n k A) ≡ size n k
  unfolding step_uppers
  step_uppers_length = length_list_of (size n k) _

  step_lowers_at : (p : ℕ) → p < size n k → get_or (step_lowers n k A) p 0 ≡ new_lower n k A (p / (n + 1)) (p % (n + 1))
  unfolding step_lowers
  step_lowers_at p inside = get_d_list_of (size n k) _ p 0 inside

  step_uppers_at : (p : ℕ) → p < size n k → get_or (step_uppers n k A) p 0 ≡ new_upper n k A (p / (n + 1)) (p % (n + 1))
  unfolding step_uppers
  step_uppers_at p inside = get_d_list_of (size n k) _ p 0 inside

  step_lowers_place : (v t : ℕ) → v < k → t ≤ n → get_or (step_lowers n k A) (place n v t) 0 ≡ new_lower n k A v t
  step_lowers_place v t v<k t≤n = step_lowers_at (place n v t) (place_below n k v t v<k t≤n) ∙ rw (place_value n v t t≤n, place_prefix n v t t≤n)

  step_uppers_place : (v t : ℕ) → v < k → t ≤ n → get_or (step_uppers n k A) (place n v t) 0 ≡ new_upper n k A v t
  step_uppers_place v t v<k t≤n = step_uppers_at (place n v t) (place_below n k v t v<k t≤n) ∙ rw (place_value n v t t≤n, place_prefix n v t t≤n)

  pub step_narrows : Narrows (size n k) (Closed n k) A (view (step_lowers n k A) (step_uppers n k A))
  step_narrows =
      record {
        within =
            record {
              lowers = λ p inside. rw (step_lowers_at p inside) (rw (place_of n k p inside) at (new_lower_own n k A (p / (n + 1)) (p % (n + 1))));
              uppers = λ p inside. rw (step_uppers_at p inside) (rw (place_of n k p inside) at (new_upper_own n k A (p / (n + 1)) (p % (n + 1))));
            };
        keeps = λ T closed within.
            record {
              lowers = λ p inside.
                  rw (step_lowers_at p inside) (rw (place_of n k p inside) at (new_lower_le n k (p / (n + 1)) (p % (n + 1)) (value_below n k p inside) (prefix_upto n k p inside) A T closed within));
              uppers = λ p inside.
                  rw (step_uppers_at p inside) (rw (place_of n k p inside) at (new_upper_le n k (p / (n + 1)) (p % (n + 1)) (value_below n k p inside) (prefix_upto n k p inside) A T closed within));
            };
      }

-- a table that a step leaves as it is, with no entry crossed
module _ (n k : ℕ) (L U : List ℕ) (lowers_fixed : L ≡ step_lowers n k
    (view L U)) (uppers_fixed : U ≡ step_uppers n k (view L U)) (uncrossed : (v t : ℕ) → v < k → t ≤ n → get_or L (place n v t) 0 ≤ get_or U (place n v t) 0) where
  lower_fixed : (v t : ℕ) → v < k → t ≤ n → get_or L (place n v t) 0 ≡ new_lower n k (view L U) v t
  lower_fixed v t v<k t≤n = ap (λ (l : List ℕ). get_or l (place n v t) 0) lowers_fixed ∙ step_lowers_place n k (view L U) v t v<k t≤n

  upper_fixed : (v t : ℕ) → v < k → t ≤ n → get_or U (place n v t) 0 ≡ new_upper n k (view L U) v t
  upper_fixed v t v<k t≤n = ap (λ (l : List ℕ). get_or l (place n v t) 0) uppers_fixed ∙ step_uppers_place n k (view L U) v t v<k t≤n

  -- were the lowers at t together above t, each of them would be 0
  lower_sum : (t : ℕ) → t ≤ n → column_sum n k (λ p. get_or L p 0) t ≤ t
  lower_sum t t≤n =
      dite (dec_lt t (column_sum n k (λ p. get_or L p 0) t))
      (λ more.
      absurd
      (omega (
        arith,
        column_sum_zero n t (λ p. get_or L p 0) k
            (λ w w<k.
            omega
            (arith, uncrossed w t w<k t≤n, upper_fixed w t w<k t≤n, new_upper_across n k (view L U) w t, others_own n t (λ p. get_or L p 0) w k w<k)),
      )))
      (λ upto. omega arith)

  pub fixed_closed : Closed n k (view L U)
  fixed_closed =
      record {
        lower_before = λ v t v<k t<n. rw (lower_fixed v (t + 1) v<k (omega arith)) (rw (back t) at (new_lower_before n k (view L U) v (t + 1) (omega arith)));
        lower_after = λ v t v<k t<n. omega (arith, lower_fixed v t v<k (omega arith), new_lower_after n k (view L U) v t t<n);
        upper_before = λ v t v<k t<n. rw (upper_fixed v (t + 1) v<k (omega arith)) (rw (back t) at (new_upper_before n k (view L U) v (t + 1) (omega arith)));
        upper_after = λ v t v<k t<n. rw (upper_fixed v t v<k (omega arith)) (new_upper_after n k (view L U) v t t<n);
        lower_across = λ v t v<k t≤n. omega (arith, lower_fixed v t v<k t≤n, new_lower_across n k (view L U) v t);
        upper_across = λ v t v<k t≤n.
            omega (arith, upper_fixed v t v<k t≤n, new_upper_across n k (view L U) v t, lower_sum t t≤n, others_own n t (λ p. get_or L p 0) v k v<k);
        uncrossed = uncrossed;
      }
    where
      back : (t : ℕ) → t + 1 - 1 ≡ t
      back t = omega arith
