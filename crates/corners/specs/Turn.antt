-- The searches back along one value's line for its last turn and its last corner.
--   Straight          the line's step to i and the one after it are the same
--   PreviousTurn      the last prefix before t after which the line goes on by another step, or 0
--   PreviousCorner    the last corner before t, or 0
-- Assumes nothing.
use Rattle.std.specs.Prelude.{◌≡◌, Bool, true, false, List, ℕ, ◌+◌, ◌<◌, get_or}
use Rattle.domains.specs.Mask.{test_bit}

abbrev pub Straight : List ℕ → ℕ → ℕ → Type 0
Straight rises v i = test_bit (get_or rises i 0) v ≡ test_bit (get_or rises (i + 1) 0) v

pub record PreviousTurn (rises : List ℕ) (v t s : ℕ) : Type 0 where
  pub before : s < t
  pub turns : 0 < s → Straight rises v s → ⊥
  pub straight : (i : ℕ) → s < i → i < t → Straight rises v i

-- C tells the corners
pub record PreviousCorner (C : ℕ → Bool) (t s : ℕ) : Type 0 where
  pub before : s < t
  pub corner : 0 < s → C s ≡ true
  pub none : (i : ℕ) → s < i → i < t → C i ≡ false
