-- Whether a row's fall can be.
--   Told slot z cells ..    whether the slot is before z, the row's spent corner; then the cells stay
-- Assumes nothing.
use Rattle.std.specs.Prelude.{◌≡◌, Bool, true, false, List, ℕ, ◌≤◌, ◌<◌}

abbrev pub Told : ℕ → ℕ → List ℕ → List ℕ → Bool → Type 0
Told slot z cells cells' true = (slot < z) × (cells' ≡ cells)
Told slot z cells cells' false = z ≤ slot
