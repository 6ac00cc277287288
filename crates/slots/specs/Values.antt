-- What a slot has besides a value.
--   Free m v r              r tells whether m has v and others besides
--   OtherValues m v r       r is what m has besides v; 0 where m lacks v
-- Assumes nothing.
use Rattle.std.specs.Prelude.{◌≡◌, Bool, true, false, ℕ, ◌<◌}
use Rattle.domains.specs.Mask.{Has, Fixed, clear_bit}

abbrev pub Free : ℕ → ℕ → Bool → Type 0
Free m v true = Has m v × (Fixed m v → ⊥)
Free m v false = Has m v → Fixed m v

pub record OtherValues (m v r : ℕ) : Type 0 where
  pub besides : Has m v → r ≡ clear_bit m v
  pub has : 0 < r → Has m v
