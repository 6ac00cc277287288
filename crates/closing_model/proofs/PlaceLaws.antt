-- The laws of `size` and `place` of `specs/Table.antt`. No contract cites this file. `place_below`: an entry's place is one of the table's.
-- `place_value`, `place_prefix`: value and prefix read back from a place. `value_below`, `prefix_upto`, `place_of`: every place is an entry's.
-- Assumes nothing.
use mathlib.Core.Path.{◌≡◌, ap, ◌∙◌}
use Prim.Native.Nat.{ℕ, ◌+◌, ◌*◌, ◌/◌, ◌%◌, ◌≤◌, ◌<◌}
use native.Mathlib.Nat.{mul-le-mul_right, mul-add-div_right, mul-add-mod_self_right, div-eq_of_lt, mod-eq_of_lt, add-zero, div-add-mod', div-lt_iff_lt-mul, mod-lt}
use native.Mathlib.Omega.{arith}
use Rattle.closing_model.specs.Table.{size, place}

-- v lines of m entries, and one more, are among k lines
pub line_below : (v k m : ℕ) → v < k → v * m + m ≤ k * m
line_below v k m v<k = omega (arith, mul-le-mul_right m v<k)

pub place_below : (n k v t : ℕ) → v < k → t ≤ n → place n v t < size n k
place_below n k v t v<k t≤n = omega (arith, mul-le-mul_right (n + 1) v<k)

pub place_next : (n v t : ℕ) → place n v t + 1 ≡ place n v (t + 1)
place_next n v t = omega arith

module _ (n v t : ℕ) (t≤n : t ≤ n) where
  pub place_value : place n v t / (n + 1) ≡ v
  place_value = mul-add-div_right {m = n + 1} (omega arith) v t ∙ ap (λ (x : ℕ). v + x) (div-eq_of_lt {n = t} {m = n + 1} (omega arith)) ∙ add-zero v

  pub place_prefix : place n v t % (n + 1) ≡ t
  place_prefix = mul-add-mod_self_right v (n + 1) t ∙ mod-eq_of_lt {n = t} {m = n + 1} (omega arith)

module _ (n k p : ℕ) (inside : p < size n k) where
  pub value_below : p / (n + 1) < k
  value_below = (div-lt_iff_lt-mul {k = n + 1} {x = p} {y = k} (omega arith)).1 inside

  pub prefix_upto : p % (n + 1) ≤ n
  prefix_upto = omega (arith, mod-lt p {m = n + 1} (omega arith))

  pub place_of : place n (p / (n + 1)) (p % (n + 1)) ≡ p
  place_of = div-add-mod' p (n + 1)
