-- The filter's state: masks, cells, and the trail up to a height; n slots and k values.
--   World, Ready, Pruning   what a call needs: sizes, room on the trail, no value from k on, no empty mask; the open slots, and a slot and a value,
--                           or a value and an end
--   Moved                   from one state to a later one: values only go, each that goes is one strike on the trail, no mask gets empty, the set
--                           keeps the open slots, and the trail leads back to the masks and the cells
--   Contradicted            a strike that changed nothing, since no stable list lacks the value there
--   Removed                 a strike that was made: the notes x and reaches a of the value v, and y and b of the only value w that is left
-- Assumes nothing.
use Rattle.std.specs.Prelude.{◌≡◌, List, ℕ, ◌+◌, ◌*◌, ◌≤◌, ◌<◌, length}
use Rattle.domains.specs.Masks.{Alive, Subset, total}
use Rattle.closing_model.specs.Table.{Table}
use Rattle.settling_model.specs.Settled.{LacksAt}
use Rattle.settling_model.specs.Stable.{Stable, table_bounds}
use Rattle.filter_model.specs.Cuts.{StrikeCut}
use Rattle.filter_model.specs.Mirror.{Mirror}
use Rattle.filter_model.specs.Open.{cells_size, OpenSlots}
use Rattle.filter_model.specs.Strike.{Struck}
use Rattle.filter_model.specs.Trail.{Trailed}

pub record World (masks cells trail : List ℕ) (n k top : ℕ) : Type 0 where
  pub slots : n ≤ length masks
  pub rows : cells_size n k ≤ length cells
  -- every value that is left has room on the trail
  pub room : 2 * n + 3 * (top + total masks) ≤ length trail
  -- a slot and a note fit a byte of the trail, and a value the mask
  pub slots_fit : n ≤ 256
  pub values_fit : k ≤ 32
  pub values : (s w : ℕ) → k ≤ w → LacksAt masks s w
  pub alive : Alive masks

pub record Ready (masks cells trail : List ℕ) (n k top slot v : ℕ) : Type 0 where
  pub world : World masks cells trail n k top
  pub opens : OpenSlots n k masks cells
  pub slot_in : slot < n
  pub value_in : v < k

pub record Pruning (masks cells trail : List ℕ) (n k top v end : ℕ) : Type 0 where
  pub world : World masks cells trail n k top
  pub opens : OpenSlots n k masks cells
  pub end_in : end ≤ n
  pub value_in : v < k

pub record Moved (n k : ℕ) (masks cells trail : List ℕ) (top : ℕ) (masks' cells' trail' : List ℕ) (h : ℕ) : Type 0 where
  pub within : Subset masks' masks
  pub alive : Alive masks → Alive masks'
  pub opens : OpenSlots n k masks cells → OpenSlots n k masks' cells'
  pub cells_length : length cells' ≡ length cells
  pub height : h + total masks' ≡ top + total masks
  pub trailed : Trailed n k masks cells trail top masks' cells' trail' h

pub record Contradicted (n k : ℕ) (masks cells trail masks' cells' trail' : List ℕ) (slot v : ℕ) : Type 0 where
  pub masks_same : masks' ≡ masks
  pub cells_same : cells' ≡ cells
  pub trail_same : trail' ≡ trail
  pub dead : (T : Table) → Mirror n k T masks cells → (N : List ℕ) → Stable (table_bounds n k T) N → Subset N masks → StrikeCut slot v N → ⊥

pub record Removed (n k : ℕ) (masks cells trail : List ℕ) (top : ℕ) (masks' cells' trail' : List ℕ) (slot v x a y b w : ℕ) : Type 0 where
  pub moved : Moved n k masks cells trail top masks' cells' trail' (top + 1)
  pub cut : StrikeCut slot v masks'
  pub low_in : a ≤ n
  pub high_in : b ≤ n
  pub value_in : w < k
  pub tables : (T : Table) → Mirror n k T masks cells → Struck n k T masks masks' cells' slot v x a w y b
