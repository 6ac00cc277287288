-- The laws of `column_sum`, `widest` (`specs/Sweep.antt`) and `others` (`specs/Table.antt`). No contract cites this file. `column_sum_more` is a turn
-- of a loop that sums; `column_sum_others`: of two functions in order, the sums over the other values are in order;
-- `others_own`: the sum over the others and the own entry make the whole sum.
-- Assumes nothing.
use mathlib.Core.Path.{◌≡◌, refl}
use Prim.Native.Nat.{ℕ, zero, suc, ◌+◌, ◌-◌, ◌≤◌, ◌<◌, max}
use native.Mathlib.Nat.{le_refl, not-suc-le-zero}
use native.Mathlib.Numerals.{add-one}
use native.Mathlib.Decide.{ℕ_discrete}
use native.Mathlib.Omega.{arith}
use borrow.Author.Tests.{eq-eqb, ne_eqb}
use Rattle.closing_model.specs.Table.{Table, place, others}
use Rattle.closing_model.specs.Sweep.{column_sum, widest}

-- ---- column_sum
pub column_sum_none : (n t : ℕ) (f : ℕ → ℕ) → 0 ≡ column_sum n 0 f t
unfolding column_sum
column_sum_none n t f = refl

pub column_sum_next : (n t : ℕ) (f : ℕ → ℕ) (v : ℕ) → column_sum n (v + 1) f t ≡ column_sum n v f t + f (place n v t)
unfolding column_sum
column_sum_next n t f v = rw (add-one v)

pub column_sum_more : (n t : ℕ) (f : ℕ → ℕ) (v p : ℕ) {s x : ℕ} → s ≡ column_sum n v f t → p ≡ place n v t → x ≡ f p → s + x ≡ column_sum n (v + 1) f t
column_sum_more n t f v p sum_so_far p_is x_is = rw (x_is, p_is, sum_so_far, column_sum_next n t f v)

module _ (n t : ℕ) (f g : ℕ → ℕ) where
  pub column_sum_mono : (k : ℕ) → ((w : ℕ) → w < k → f (place n w t) ≤ g (place n w t)) → column_sum n k f t ≤ column_sum n k g t
  unfolding column_sum
  column_sum_mono zero f≤g = le_refl _
  column_sum_mono (suc k) f≤g = omega (arith, column_sum_mono k (λ w w<k. f≤g w (omega arith)), f≤g k (omega arith))

  pub column_sum_others : (k v : ℕ) → v < k → ((w : ℕ) → w < k → f (place n w t) ≤ g (place n w t))
      → column_sum n k f t + g (place n v t) ≤ column_sum n k g t + f (place n v t)
  unfolding column_sum
  column_sum_others zero v v<k f≤g = absurd (not-suc-le-zero v<k)
  column_sum_others (suc k) v v<k f≤g = go (ℕ_discrete v k) (λ v<k'. column_sum_others k v v<k' (λ w w<k. f≤g w (omega arith)))
    where
      go : Dec (v ≡ k) → (v < k → column_sum n k f t + g (place n v t) ≤ column_sum n k g t + f (place n v t))
          → column_sum n (suc k) f t + g (place n v t) ≤ column_sum n (suc k) g t + f (place n v t)
      go (yes e) before = rw e (omega (arith, column_sum_mono k (λ w w<k. f≤g w (omega arith))))
      go (no ne) before = omega (arith, before (omega arith), f≤g k (omega arith))

-- an entry is part of the sum
pub column_sum_part : (n t : ℕ) (f : ℕ → ℕ) (k v : ℕ) → v < k → f (place n v t) ≤ column_sum n k f t
unfolding column_sum
column_sum_part n t f zero v v<k = absurd (not-suc-le-zero v<k)
column_sum_part n t f (suc k) v v<k = go (ℕ_discrete v k) (column_sum_part n t f k v)
  where
    go : Dec (v ≡ k) → (v < k → f (place n v t) ≤ column_sum n k f t) → f (place n v t) ≤ column_sum n (suc k) f t
    go (yes e) before = rw e (omega arith)
    go (no ne) before = omega (arith, before (omega arith))

pub column_sum_zero : (n t : ℕ) (f : ℕ → ℕ) (k : ℕ) → ((w : ℕ) → w < k → f (place n w t) ≡ 0) → column_sum n k f t ≡ 0
unfolding column_sum
column_sum_zero n t f zero empty = refl
column_sum_zero n t f (suc k) empty = omega (arith, column_sum_zero n t f k (λ w w<k. empty w (omega arith)), empty k (omega arith))

-- ---- widest
pub widest_none : (n t : ℕ) (T : Table) → 0 ≡ widest n 0 T t
unfolding widest
widest_none n t T = refl

widest_next : (n t : ℕ) (T : Table) (v : ℕ) → widest n (v + 1) T t ≡ max (widest n v T t) (T.upper (place n v t) - T.lower (place n v t))
unfolding widest
widest_next n t T v = rw (add-one v)

pub widest_more : (n t : ℕ) (T : Table) (v p : ℕ) {w a b d w' : ℕ} → w ≡ widest n v T t → p ≡ place n v t → a ≡ T.lower p → b ≡ T.upper p → d ≡ b - a
    → w' ≡ max w d → w' ≡ widest n (v + 1) T t
widest_more n t T v p so_far p_is a_is b_is d_is New_is = rw (New_is, d_is, a_is, b_is, p_is, so_far, widest_next n t T v)

pub widest_part : (n t : ℕ) (T : Table) (k v : ℕ) → v < k → T.upper (place n v t) - T.lower (place n v t) ≤ widest n k T t
unfolding widest
widest_part n t T zero v v<k = absurd (not-suc-le-zero v<k)
widest_part n t T (suc k) v v<k = go (ℕ_discrete v k) (widest_part n t T k v)
  where
    go : Dec (v ≡ k) → (v < k → T.upper (place n v t) - T.lower (place n v t) ≤ widest n k T t)
        → T.upper (place n v t) - T.lower (place n v t) ≤ widest n (suc k) T t
    go (yes e) before = rw e (omega arith)
    go (no ne) before = omega (arith, before (omega arith))

-- ---- others
module _ (n t : ℕ) (f : ℕ → ℕ) (v : ℕ) where
  others_below : (k : ℕ) → k ≤ v → others n k f v t ≡ column_sum n k f t
  unfolding others column_sum
  others_below zero k≤v = refl
  others_below (suc k) k≤v = rw (ne_eqb k v (λ e. omega arith), others_below k (omega arith))

  pub others_own : (k : ℕ) → v < k → others n k f v t + f (place n v t) ≡ column_sum n k f t
  unfolding others column_sum
  others_own zero v<k = absurd (omega arith)
  others_own (suc k) v<k = go (ℕ_discrete k v) (others_own k)
    where
      go : Dec (k ≡ v) → (v < k → others n k f v t + f (place n v t) ≡ column_sum n k f t)
          → others n (suc k) f v t + f (place n v t) ≡ column_sum n (suc k) f t
      go (yes e) before = rw (eq-eqb k v e, others_below k (omega arith), e) (omega arith)
      go (no ne) before = rw (ne_eqb k v ne) (omega (arith, before (omega arith)))

pub others_mono : (n t : ℕ) (f g : ℕ → ℕ) (k v : ℕ) → v < k → ((w : ℕ) → w < k → f (place n w t) ≤ g (place n w t))
    → others n k f v t ≤ others n k g v t
others_mono n t f g k v v<k f≤g = omega (arith, column_sum_others n t f g k v v<k f≤g, others_own n t f v k v<k, others_own n t g v k v<k)
