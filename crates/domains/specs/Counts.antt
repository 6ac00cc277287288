-- Counting over the slots of a list of masks.
--   bit b              1 for true, 0 for false
--   count f t          the sum of f over the slots before t
--   only m v           1 where m is fixed to v, else 0
--   count_has M v t     how many slots before t have v (document 01: P)
--   count_fixed M v t   how many slots before t are fixed to v (document 01: B)
-- Assumes nothing.
use Rattle.std.specs.Prelude.{Bool, true, false, List, ℕ, zero, suc, ◌+◌, ◌^◌, eqb, get_or}
use Rattle.domains.specs.Mask.{test_bit}

abbrev pub bit : Bool → ℕ
bit true = 1
bit false = 0

unfoldable pub count : (ℕ → ℕ) → ℕ → ℕ
count f zero = 0
count f (suc t) = count f t + f t

unfoldable pub only : ℕ → ℕ → ℕ
only m v = bit (eqb m (2 ^ v))

abbrev pub count_has : List ℕ → ℕ → ℕ → ℕ
count_has M v t = count (λ s. test_bit (get_or M s 0) v) t

abbrev pub count_fixed : List ℕ → ℕ → ℕ → ℕ
count_fixed M v t = count (λ s. only (get_or M s 0) v) t
