-- Lists of masks, one mask for each slot. Past the end of a list stands 0, the mask with no value.
--   HasAt M s v     slot s of M has value v
--   FixedAt M s v   slot s of M is fixed to v: v is its only value
--   Alive M         no mask is empty
--   Subset N M      N lies within M: as many slots, and each slot's values are among those of M
--   total M         how many values all masks have together (document 01: the ones)
-- Assumes nothing.
use Rattle.std.specs.Prelude.{◌≡◌, List, [], ◌∷◌, ℕ, ◌+◌, ◌≤◌, ◌<◌, length, get_or}
use Rattle.std.specs.Int.Count.{ones}
use Rattle.domains.specs.Mask.{test_bit, Has, Fixed}

abbrev pub HasAt : List ℕ → ℕ → ℕ → Type 0
HasAt M s v = Has (get_or M s 0) v

abbrev pub FixedAt : List ℕ → ℕ → ℕ → Type 0
FixedAt M s v = Fixed (get_or M s 0) v

pub record Alive (M : List ℕ) : Type 0 where
  pub each : (s : ℕ) → s < length M → get_or M s 0 ≡ 0 → ⊥

pub record Subset (N M : List ℕ) : Type 0 where
  pub len : length N ≡ length M
  pub bits : (s v : ℕ) → test_bit (get_or N s 0) v ≤ test_bit (get_or M s 0) v

unfoldable pub total : List ℕ → ℕ
total [] = 0
total (m ∷ ms) = ones m + total ms
