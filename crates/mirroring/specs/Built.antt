-- Building the cells from a table's rises.
--   Building             what it needs: sizes
--   RowsAnswer, RowsBuilt   the rows of one kind, up to value v: they hold the segments of every line with the rises; or one is broken
--   Marking, WordOf      what the set of open slots needs: sizes; x is below 2 ^ i and has each slot from `base` on, before base + i and before n,
--                        that has two values or more
--   Marked               the words before b are written, and no other cell
--   BuildMeaning, AllBuilt  the rows of both kinds: the cells mirror each table with the rises; or one of its corners is broken
-- Assumes nothing.
use Rattle.std.specs.Prelude.{◌≡◌, Bool, true, false, not, List, ℕ, ◌+◌, ◌*◌, ◌^◌, ◌≤◌, ◌<◌, length, get_or}
use Rattle.std.specs.Int.Count.{ones}
use Rattle.domains.specs.Mask.{Has}
use Rattle.closing_model.specs.Table.{Table}
use Rattle.closing_model.specs.Corners.{bound_line}
use Rattle.segments_model.specs.Lines.{Rising, BrokenAt, Segments}
use Rattle.filter_model.specs.Mirror.{cells_of, Mirror}
use Rattle.filter_model.specs.Open.{words_at, cells_size, open_bit}
use Rattle.filter_model.specs.Rises.{TableRises}

pub record Building (cells rises masks : List ℕ) (n k : ℕ) : Type 0 where
  pub slots_fit : n ≤ 256
  pub values_fit : k ≤ 32
  pub rises_in : n < length rises
  pub slots : n ≤ length masks
  pub rows : cells_size n k ≤ length cells

abbrev pub RowsAnswer : Bool → ℕ → ℕ → List ℕ → List ℕ → List ℕ → ℕ → Bool → Type 0
RowsAnswer kind n k rises masks cells' v true =
    (x : ℕ) → x < v → (u : ℕ → ℕ) → Rising n x rises u → Segments kind n u masks x (cells_of kind n k x cells')
RowsAnswer kind n k rises masks cells' v false = (x : ℕ) × (x < k) × ((u : ℕ → ℕ) → Rising n x rises u → (t : ℕ) × BrokenAt kind n u masks x t)

pub record RowsBuilt (kind : Bool) (n k : ℕ) (rises masks cells cells' : List ℕ) (v : ℕ) (r : Bool) : Type 0 where
  pub size : length cells' ≡ length cells
  pub others : (x : ℕ) → x < k → cells_of (not kind) n k x cells' ≡ cells_of (not kind) n k x cells
  pub answer : RowsAnswer kind n k rises masks cells' v r

pub record Marking (cells masks : List ℕ) (n k : ℕ) : Type 0 where
  pub slots_fit : n ≤ 256
  pub values_fit : k ≤ 32
  pub slots : n ≤ length masks
  pub rows : cells_size n k ≤ length cells

pub record WordOf (masks : List ℕ) (n base i x : ℕ) : Type 0 where
  pub below : x < 2 ^ i
  pub each : (j : ℕ) → j < i → base + j < n → 1 < ones (get_or masks (base + j) 0) → Has x j

pub record Marked (n k : ℕ) (masks cells cells' : List ℕ) (b : ℕ) : Type 0 where
  pub size : length cells' ≡ length cells
  pub before : (i : ℕ) → i < words_at n k → get_or cells' i 0 ≡ get_or cells i 0
  pub after : (i : ℕ) → words_at n k + b ≤ i → get_or cells' i 0 ≡ get_or cells i 0
  pub opens : (s : ℕ) → s < 16 * b → s < n → 1 < ones (get_or masks s 0) → open_bit n k cells' s ≡ 1

abbrev pub BuildMeaning : ℕ → ℕ → Table → List ℕ → List ℕ → Bool → Type 0
BuildMeaning n k T masks cells' true = Mirror n k T masks cells'
BuildMeaning n k T masks cells' false = (kind : Bool) × (v : ℕ) × (t : ℕ) × (v < k) × BrokenAt kind n (bound_line kind n T v) masks v t

pub record AllBuilt (n k : ℕ) (lowers uppers masks cells cells' : List ℕ) (r : Bool) : Type 0 where
  pub size : length cells' ≡ length cells
  pub meaning : (T : Table) → TableRises n k T lowers uppers → BuildMeaning n k T masks cells' r
