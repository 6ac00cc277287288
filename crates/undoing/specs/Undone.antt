-- Taking calls back: the strikes that the trail has from a height on are taken back, the latest first, in the masks and in the cells. `Restores`
-- of filter_model says what the trail restores.
--   Sizes masks cells n k    n slots and k values, and room for the cells of both kinds and the set of open slots
--   RowUndoing, UpperUndoing   what a row's fall needs to be taken back, and that of a fixed slot's upper row
--   UpperUndone              the cells at exit are those before the upper fall
--   StrikeUndoing            the strike i may be taken back from these masks and cells
--   StrikeUndone             the masks and cells at exit are those before it
--   Undoable                 what `undo` needs: the trail from `from` up to `to` restores some masks and cells (`moved_undoable`: so it is after a call)
--   Undone                   the masks and cells at exit are those
-- Assumes nothing.
use Rattle.std.specs.Prelude.{◌≡◌, List, ℕ, ◌+◌, ◌*◌, ◌-◌, ◌≤◌, ◌<◌, length, get_or}
use Rattle.std.specs.Int.Count.{ones}
use Rattle.segments_model.specs.Part.{part}
use Rattle.segments_model.specs.Raise.{Raisable}
use Rattle.filter_model.specs.Open.{cells_size}
use Rattle.filter_model.specs.Trail.{UpperRaised, StrikeBack, Restores}

pub record Sizes (masks cells : List ℕ) (n k : ℕ) : Type 0 where
  pub slots : n ≤ length masks
  pub rows : cells_size n k ≤ length cells
  pub slots_fit : n ≤ 256
  pub values_fit : k ≤ 32

pub record RowUndoing (cells : List ℕ) (row n slot tag note : ℕ) : Type 0 where
  pub slot_in : slot ≤ n
  pub row_in : row * (n + 2) + n + 1 < length cells
  pub slots_fit : n < 1023
  pub raisable : Raisable (n + 1) slot tag note (part (row * (n + 2)) (n + 2) cells)

pub record UpperUndoing (masks cells trail : List ℕ) (n k slot : ℕ) : Type 0 where
  pub sizes : Sizes masks cells n k
  pub slot_in : slot < n
  pub notes_in : 2 * n ≤ length trail
  pub single : ones (get_or masks slot 0) ≡ 1
  pub before : List ℕ
  pub raised : UpperRaised n k trail masks slot cells before

pub record UpperUndone (masks cells trail : List ℕ) (n k slot : ℕ) (cells' : List ℕ) : Type 0 where
  pub restored : (before : List ℕ) → UpperRaised n k trail masks slot cells before → cells' ≡ before

pub record StrikeUndoing (masks cells trail : List ℕ) (n k i : ℕ) : Type 0 where
  pub sizes : Sizes masks cells n k
  pub strike_in : 2 * n + 3 * i + 2 < length trail
  pub old : List ℕ
  pub old_cells : List ℕ
  pub taken : StrikeBack n k trail i masks cells old old_cells

pub record StrikeUndone (masks cells trail : List ℕ) (n k i : ℕ) (masks' cells' : List ℕ) : Type 0 where
  pub restored : (old old_cells : List ℕ) → StrikeBack n k trail i masks cells old old_cells → (masks' ≡ old) × (cells' ≡ old_cells)

pub record Undoable (masks cells trail : List ℕ) (n k from to : ℕ) : Type 0 where
  pub sizes : Sizes masks cells n k
  pub order : from ≤ to
  pub upto : 2 * n + 3 * to ≤ length trail
  pub old : List ℕ
  pub old_cells : List ℕ
  pub restores : Restores n k trail from (to - from) masks cells old old_cells

pub record Undone (masks cells trail : List ℕ) (n k from to : ℕ) (masks' cells' : List ℕ) : Type 0 where
  pub cells_length : length cells' ≡ length cells
  pub restored : (old old_cells : List ℕ) → Restores n k trail from (to - from) masks cells old old_cells
      → (masks' ≡ old) × (cells' ≡ old_cells)
