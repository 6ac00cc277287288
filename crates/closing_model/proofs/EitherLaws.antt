-- What the bits of either of two numbers come to (`bit_or` of the library), for tests that gather many numbers in one: no less than each, no more than
-- both together, and at most 1 where both are. No contract cites this file.
-- Assumes nothing.
use mathlib.Core.Path.{◌≡◌}
use Prim.Native.Nat.{ℕ, ◌+◌, ◌≤◌}
use native.Mathlib.Omega.{arith}
use lib.Bits.{bit_or, or_add_and, and_le_l, and_le_r, or_lt}

pub record Gathers (a b x : ℕ) : Type 0 where
  pub first : a ≤ x
  pub second : b ≤ x
  pub both : x ≤ a + b

pub either_gathers : (a b : ℕ) {x : ℕ} → x ≡ bit_or a b → Gathers a b x
either_gathers a b is =
    record { first = omega (arith, or_add_and a b, and_le_r a b); second = omega (arith, or_add_and a b, and_le_l a b); both = omega (arith, or_add_and a b) }

pub either_one : (a b : ℕ) {x : ℕ} → x ≡ bit_or a b → a ≤ 1 → b ≤ 1 → x ≤ 1
either_one a b is a≤1 b≤1 = omega (arith, or_lt 1 a b (omega arith) (omega arith))
