-- Opening: the cells are built, and everything before each row's spent corner is settled.
--   Anything                 the cut that asks nothing
--   Mirrored                 the cells mirror some table
--   QuietValue, QuietBelow   the rows of value v, or of all values below v, are quiet in M, for each table that the state at entry mirrors
--   Opening, Rooms           what `prune_all` and `open` need
--   Opened, OpenAnswer       for each table with the rises: Live, the cells mirror it and, where it is closed, the masks are the largest stable
--                            list within those at entry; Dead, there is none
-- Assumes nothing.
use Rattle.std.specs.Prelude.{◌≡◌, Bool, List, ℕ, ◌<◌, length}
use Rattle.closing_model.specs.Table.{Table, Closed}
use Rattle.settling_model.specs.Stable.{Largest, Unstable, table_bounds}
use Rattle.filter_model.specs.Mirror.{Mirror, Quiet}
use Rattle.filter_model.specs.Rises.{TableRises}
use Rattle.filter_model.specs.State.{World, Moved}
use Rattle.outcomes.specs.Codes.{height_of}
use Rattle.outcomes.specs.declared.Outcome.{Outcome}
use Rattle.outcomes.specs.declared.Outcome.TheVariants.{Live, Dead}

abbrev pub Anything : List ℕ → Type 0
Anything N = Unit {0}

pub record Mirrored (n k : ℕ) (masks cells : List ℕ) : Type 0 where
  pub table : Table
  pub mirror : Mirror n k table masks cells

pub record QuietValue (n k : ℕ) (M₀ c₀ : List ℕ) (v : ℕ) (M : List ℕ) : Type 0 where
  pub quiet : (T : Table) → Mirror n k T M₀ c₀ → (kind : Bool) → Quiet kind n T M v

pub record QuietBelow (n k : ℕ) (M₀ c₀ : List ℕ) (v : ℕ) (M : List ℕ) : Type 0 where
  pub quiet : (T : Table) → Mirror n k T M₀ c₀ → (kind : Bool) (x : ℕ) → x < v → Quiet kind n T M x

pub record Opening (masks cells trail : List ℕ) (n k top : ℕ) : Type 0 where
  pub world : World masks cells trail n k top
  pub mirrored : Mirrored n k masks cells

pub record Rooms (masks cells trail lowers uppers : List ℕ) (n k : ℕ) : Type 0 where
  pub world : World masks cells trail n k 0
  pub lowers_in : n < length lowers
  pub uppers_in : n < length uppers

pub record Opened (n k : ℕ) (T : Table) (masks masks' cells' : List ℕ) : Type 0 where
  pub mirror : Mirror n k T masks' cells'
  pub largest : Closed n k T → Largest (table_bounds n k T) masks masks'

abbrev pub OpenMeaning : ℕ → ℕ → Table → List ℕ → List ℕ → List ℕ → Outcome → Type 0
OpenMeaning n k T masks masks' cells' (Live h) = Opened n k T masks masks' cells'
OpenMeaning n k T masks masks' cells' (Dead h) = Unstable (table_bounds n k T) masks

pub record OpenAnswer (n k : ℕ) (lowers uppers masks cells trail masks' cells' trail' : List ℕ) (r : Outcome) : Type 0 where
  -- the cells as they were built
  pub built : List ℕ
  pub size : length built ≡ length cells
  pub moved : Moved n k masks built trail 0 masks' cells' trail' (height_of r)
  pub meaning : (T : Table) → TableRises n k T lowers uppers → OpenMeaning n k T masks masks' cells' r
