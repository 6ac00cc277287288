-- The cells of all values and both kinds of bound, as a picture of a table and a list of masks. A kind is a Bool: true for the lower bounds.
--   Corner kind n T v t      the line of value v's bound in the table T turns at t (document 01: a lower or an upper corner)
--   slack_at kind n T M v t   its slack on the masks M: P - lower, or upper - B
--   row, cells_of             the number of the row of a kind and value, the lower bounds' rows first; the cells of that row
--   Mirror n k T M cells     each row holds the segments of T's bound on M, no corner is broken, and the set of open slots has those of M
--   Quiet kind n T M v       before each corner without slack all is settled
--   SettledAt M s v          slot s has v only where it is fixed to it
--   SettledFrom M v from t   so is each slot from `from` on and before t
--   Passed kind n T M v s    slot s is before a corner without slack
--   Progress n k T M M'      each slot before a corner without slack in M' was before one in M, or is settled in M'
-- Assumes nothing.
use Rattle.std.specs.Prelude.{◌≡◌, Bool, true, false, ◌⊎◌, List, ℕ, ◌+◌, ◌*◌, ◌≤◌, ◌<◌}
use Rattle.domains.specs.Masks.{HasAt, FixedAt}
use Rattle.closing_model.specs.Table.{Table}
use Rattle.closing_model.specs.Corners.{bound_line}
use Rattle.settling_model.specs.Settled.{Settled}
use Rattle.segments_model.specs.Lines.{corner_of, slack_of, Segments}
use Rattle.segments_model.specs.Part.{part}
use Rattle.filter_model.specs.Open.{OpenSlots}

pub record Corner (kind : Bool) (n : ℕ) (T : Table) (v t : ℕ) : Type 0 where
  pub from : 0 < t
  pub upto : t ≤ n
  pub turns : corner_of kind n (bound_line kind n T v) t ≡ true

abbrev pub slack_at : Bool → ℕ → Table → List ℕ → ℕ → ℕ → ℕ
slack_at kind n T M v t = slack_of kind (bound_line kind n T v) M v t

abbrev pub row : Bool → ℕ → ℕ → ℕ
row true k v = v
row false k v = k + v

abbrev pub cells_of : Bool → ℕ → ℕ → ℕ → List ℕ → List ℕ
cells_of kind n k v cells = part (row kind k v * (n + 2)) (n + 2) cells

pub record Mirror (n k : ℕ) (T : Table) (M cells : List ℕ) : Type 0 where
  pub rows : (kind : Bool) (v : ℕ) → v < k → Segments kind n (bound_line kind n T v) M v (cells_of kind n k v cells)
  pub opens : OpenSlots n k M cells

pub record Quiet (kind : Bool) (n : ℕ) (T : Table) (M : List ℕ) (v : ℕ) : Type 0 where
  pub each : (t : ℕ) → Corner kind n T v t → slack_at kind n T M v t ≡ 0 → Settled M v t

abbrev pub SettledAt : List ℕ → ℕ → ℕ → Type 0
SettledAt M s v = HasAt M s v → FixedAt M s v

pub record SettledFrom (M : List ℕ) (v from t : ℕ) : Type 0 where
  pub each : (s : ℕ) → from ≤ s → s < t → SettledAt M s v

pub record Passed (kind : Bool) (n : ℕ) (T : Table) (M : List ℕ) (v s : ℕ) : Type 0 where
  pub end : ℕ
  pub after : s < end
  pub corner : Corner kind n T v end
  pub none : slack_at kind n T M v end ≡ 0

pub record Progress (n k : ℕ) (T : Table) (M M' : List ℕ) : Type 0 where
  pub spent : (kind : Bool) (v t s : ℕ) → v < k → Corner kind n T v t → slack_at kind n T M' v t ≡ 0 → s < t
      → SettledAt M' s v ⊎ Passed kind n T M v s
