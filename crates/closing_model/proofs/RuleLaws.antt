-- The laws of `new_lower` and `new_upper` of `specs/Closing.antt`. No contract cites this file. `new_lower_le`, `new_upper_le`: what the rules
-- ask of a table A is met by every closed table within A; the others: it is at least what each rule asks.
-- Assumes nothing.
use mathlib.Core.Path.{◌≡◌, refl}
use mathlib.Core.Bool.{Bool, true, false, cond}
use Prim.Native.Nat.{ℕ, ◌+◌, ◌-◌, ◌≤◌, ◌<◌, zero-le}
use native.Mathlib.Nat.{le_trans, max-le, le-min, le-max_left, le-max_right, min-le_left, min-le_right}
use native.Mathlib.Omega.{arith}
use lib.Dec.{ltb}
use borrow.Author.Tests.{ltb-true, lt-ltb}
use Rattle.closing_model.specs.Table.{Table, size, place, others, Closed, Within}
use Rattle.closing_model.specs.Closing.{new_lower, new_upper}
use Rattle.closing_model.proofs.PlaceLaws.{place_below}
use Rattle.closing_model.proofs.SumLaws.{others_mono}

-- ---- cond
cond_le : (b : Bool) {x y z : ℕ} → (b ≡ true → x ≤ z) → y ≤ z → cond b x y ≤ z
cond_le true first second = first refl
cond_le false first second = second

le_cond : (b : Bool) {x y z : ℕ} → (b ≡ true → z ≤ x) → z ≤ y → z ≤ cond b x y
le_cond true first second = first refl
le_cond false first second = second

-- ---- new_lower, new_upper
-- what a closed table T within A has at (v, t) is no looser than what the rules ask there of A
module _ (n k v t : ℕ) (v<k : v < k) (t≤n : t ≤ n) (A T : Table) (closed : Closed n k T) (within : Within (size n k) A T) where
  before : 0 < t → t - 1 + 1 ≡ t
  before 0<t = omega arith

  inside : (s : ℕ) → s ≤ n → place n v s < size n k
  inside s s≤n = place_below n k v s v<k s≤n

  pub new_lower_le : new_lower n k A v t ≤ T.lower (place n v t)
  unfolding new_lower
  new_lower_le =
      max-le (within.lowers _ (inside t t≤n))
      (max-le
      (cond_le (ltb 0 t)
      (λ e.
      let 0<t : 0 < t = ltb-true 0 t e in
      le_trans (within.lowers _ (inside (t - 1) (omega arith))) (rw (before 0<t) at (closed.lower_before v (t - 1) v<k (omega arith))))
      zero-le)
      (max-le
      (cond_le (ltb t n)
      (λ e.
      let t<n : t < n = ltb-true t n e in
      omega (arith, within.lowers _ (inside (t + 1) (omega arith)), closed.lower_after v t v<k t<n))
      zero-le)
      (omega (arith, closed.lower_across v t v<k t≤n, others_mono n t T.upper A.upper k v v<k (λ w w<k. within.uppers _ (place_below n k w t w<k t≤n))))))

  pub new_upper_le : T.upper (place n v t) ≤ new_upper n k A v t
  unfolding new_upper
  new_upper_le =
      let here = within.uppers _ (inside t t≤n) in
      le-min here
      (le-min
      (le_cond (ltb 0 t)
      (λ e.
      let 0<t : 0 < t = ltb-true 0 t e in
      let slow : T.upper (place n v t) ≤ T.upper (place n v (t - 1)) + 1 = rw (before 0<t) at (closed.upper_before v (t - 1) v<k (omega arith)) in
      omega (arith, within.uppers _ (inside (t - 1) (omega arith))))
      here)
      (le-min
      (le_cond (ltb t n)
      (λ e.
      let t<n : t < n = ltb-true t n e in
      le_trans (closed.upper_after v t v<k t<n) (within.uppers _ (inside (t + 1) (omega arith))))
      here)
      (omega (arith, closed.upper_across v t v<k t≤n, others_mono n t A.lower T.lower k v v<k (λ w w<k. within.lowers _ (place_below n k w t w<k t≤n))))))

-- what stands in a table is no tighter than what the rules ask there
module _ (n k : ℕ) (T : Table) (v t : ℕ) where
  pub new_lower_own : T.lower (place n v t) ≤ new_lower n k T v t
  unfolding new_lower
  new_lower_own = le-max_left _ _

  pub new_lower_before : 0 < t → T.lower (place n v (t - 1)) ≤ new_lower n k T v t
  unfolding new_lower
  new_lower_before 0<t = rw (lt-ltb 0 t 0<t) (le_trans (le-max_left _ _) (le-max_right _ _))

  pub new_lower_after : t < n → T.lower (place n v (t + 1)) - 1 ≤ new_lower n k T v t
  unfolding new_lower
  new_lower_after t<n = rw (lt-ltb t n t<n) (le_trans (le_trans (le-max_left _ _) (le-max_right _ _)) (le-max_right _ _))

  pub new_lower_across : t - others n k T.upper v t ≤ new_lower n k T v t
  unfolding new_lower
  new_lower_across = le_trans (le_trans (le-max_right _ _) (le-max_right _ _)) (le-max_right _ _)

  pub new_upper_own : new_upper n k T v t ≤ T.upper (place n v t)
  unfolding new_upper
  new_upper_own = min-le_left _ _

  pub new_upper_before : 0 < t → new_upper n k T v t ≤ T.upper (place n v (t - 1)) + 1
  unfolding new_upper
  new_upper_before 0<t = rw (lt-ltb 0 t 0<t) (le_trans (min-le_right _ _) (min-le_left _ _))

  pub new_upper_after : t < n → new_upper n k T v t ≤ T.upper (place n v (t + 1))
  unfolding new_upper
  new_upper_after t<n = rw (lt-ltb t n t<n) (le_trans (min-le_right _ _) (le_trans (min-le_right _ _) (min-le_left _ _)))

  pub new_upper_across : new_upper n k T v t ≤ t - others n k T.lower v t
  unfolding new_upper
  new_upper_across = le_trans (min-le_right _ _) (le_trans (min-le_right _ _) (min-le_right _ _))
