-- One slot's mask, as a number: bit v says that value v (document 01: type v) may go in that slot.
--   test_bit m v        bit v of m: 0 or 1
--   Has m v            value v is in m
--   Fixed m v          v is the only value of m
--   Lowest m v         v is in m, and no value below it is
--   clear_bit m v       m with v taken out, whether it was in or not
--   MaskSubset a b    each value of a is one of b's
-- How many values m has is `ones m` of the library.
-- Assumes nothing.
use Rattle.std.specs.Prelude.{◌≡◌, ℕ, ◌-◌, ◌*◌, ◌/◌, ◌%◌, ◌^◌, ◌≤◌, ◌<◌}

unfoldable pub test_bit : ℕ → ℕ → ℕ
test_bit m v = m / 2 ^ v % 2

abbrev pub Has : ℕ → ℕ → Type 0
Has m v = test_bit m v ≡ 1

-- the mask of one value: `fixed_words` and `words_fixed` say that this is "v is its only value"
abbrev pub Fixed : ℕ → ℕ → Type 0
Fixed m v = m ≡ 2 ^ v

pub record Lowest (m v : ℕ) : Type 0 where
  pub has : Has m v
  pub first : (w : ℕ) → w < v → test_bit m w ≡ 0

unfoldable pub clear_bit : ℕ → ℕ → ℕ
unfolding test_bit
clear_bit m v = m - test_bit m v * 2 ^ v

pub record MaskSubset (a b : ℕ) : Type 0 where
  pub bits : (v : ℕ) → test_bit a v ≤ test_bit b v
