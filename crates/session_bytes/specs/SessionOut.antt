-- What the function below the session's byte form rests on.
--   SessionOut        an accepted list on a good book, words and masks with just the room for it, and outputs with room for their bytes
-- Assumes nothing.
use Rattle.std.specs.Prelude.{◌≡◌, List, ℕ, ◌*◌, ◌/◌, ◌≤◌, length}
use Rattle.session_fault.specs.Entry.{SessionReady}

pub record SessionOut (b calls words row answers masks : List ℕ) : Type 0 where
  pub ready : SessionReady b calls words row
  pub words_exact : length words ≡ 2 * (length calls / 4)
  pub answers_in : 4 * length words ≤ length answers
  pub masks_inside : 4 * length row ≤ length masks
