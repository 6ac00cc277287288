-- Slots before an end that have a value only where they are fixed to it.
--   LacksAt M s v   slot s of M lacks value v
--   Settled M v t   each slot before t that has v is fixed to it
-- Document 01 asks `Settled` of a stable list in these words where P = lower, and in other words where B = upper: each slot before t not
-- fixed to v lacks v (`settled_words`, `words_settled`).
-- Assumes nothing.
use Rattle.std.specs.Prelude.{◌≡◌, List, ℕ, ◌<◌, get_or}
use Rattle.domains.specs.Mask.{test_bit}
use Rattle.domains.specs.Masks.{HasAt, FixedAt}

abbrev pub LacksAt : List ℕ → ℕ → ℕ → Type 0
LacksAt M s v = test_bit (get_or M s 0) v ≡ 0

pub record Settled (M : List ℕ) (v t : ℕ) : Type 0 where
  pub each : (s : ℕ) → s < t → HasAt M s v → FixedAt M s v
