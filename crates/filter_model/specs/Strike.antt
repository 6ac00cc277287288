-- One whole strike of a value v at a slot, from the masks M to M': v leaves the slot, and the slacks that this lowers are brought up to date.
--   Reach n C f slot cells' r   the slack f of a row with the corners C fell by one after the slot; before r all must be settled (0: nothing)
--   Dropped n slot cells ..     the same for whichever corners and slack the cells of a row of n slots hold, where the slack at n + 1 lasts and the
--                               slot is not before the spent corner; and the tag g and the note x, a byte, take the fall back, and x is the
--                               spent corner before it where another is reached
--   Due kind v a w b q t        all before t is to be settled for q: the reach of v's lower bound is a, and that of w's upper bound is b
--   Cuts M' v a w b N           N lies within M' and meets the cuts of these two reaches
--   Struck n k T M M' ..        for a table T: the cells mirror it, newly spent corners are due, the slots before the notes x and y are before a
--                               corner that was spent, and every stable list without v there is kept
-- w is the only value that is left at the slot, and b its reach, or 0 where others are left.
-- Assumes nothing.
use Rattle.std.specs.Prelude.{◌≡◌, Bool, true, false, ◌⊎◌, List, ℕ, ◌+◌, ◌≤◌, ◌<◌, length, get_or}
use Rattle.domains.specs.Masks.{Subset}
use Rattle.closing_model.specs.Table.{Table}
use Rattle.settling_model.specs.Stable.{Stable, table_bounds}
use Rattle.segments_model.specs.Fall.{fallen, MoreThan, Meets}
use Rattle.segments_model.specs.Links.{Held}
use Rattle.segments_model.specs.Raise.{Reversal}
use Rattle.filter_model.specs.Cuts.{StrikeCut, BoundCut}
use Rattle.filter_model.specs.Mirror.{Corner, slack_at, Mirror, Passed}

pub record Reach (n : ℕ) (C : ℕ → Bool) (f : ℕ → ℕ) (slot : ℕ) (cells' : List ℕ) (r : ℕ) : Type 0 where
  pub held : Held n C (fallen f slot) cells'
  pub more : MoreThan n C f slot 0
  pub past : (u : ℕ) → slot < u → r < u → u ≤ n → C u ≡ true → 1 < f u
  pub meets : 0 < r → Meets n C f slot 1 r

pub record Dropped (n slot : ℕ) (cells cells' : List ℕ) (r g x : ℕ) : Type 0 where
  pub size : length cells' ≡ length cells
  pub inside : r ≤ n
  pub byte : slot < 256 → x < 256
  pub reach : (C : ℕ → Bool) (f : ℕ → ℕ) → Held (n + 1) C f cells → 1 < f (n + 1) → get_or cells 0 0 ≤ slot → Reach (n + 1) C f slot cells' r
  pub back : get_or cells 0 0 ≤ slot → Reversal (n + 1) slot g x cells cells'
  pub from : 0 < r → x ≡ get_or cells 0 0

abbrev pub Due : Bool → ℕ → ℕ → ℕ → ℕ → ℕ → ℕ → Type 0
Due true v a w b q t = (q ≡ v) × (t ≤ a)
Due false v a w b q t = (q ≡ w) × (t ≤ b)

pub record Cuts (M' : List ℕ) (v a w b : ℕ) (N : List ℕ) : Type 0 where
  pub within : Subset N M'
  pub low : BoundCut true M' v a N
  pub high : BoundCut false M' w b N

pub record Struck (n k : ℕ) (T : Table) (M M' cells' : List ℕ) (slot v x a w y b : ℕ) : Type 0 where
  pub mirror : Mirror n k T M' cells'
  pub spent : (kind : Bool) (q t : ℕ) → q < k → Corner kind n T q t → slack_at kind n T M' q t ≡ 0 → (slack_at kind n T M q t ≡ 0) ⊎ Due kind v a w b q t
  pub low_from : 0 < a → (s : ℕ) → s < x → Passed true n T M v s
  pub high_from : 0 < b → (s : ℕ) → s < y → Passed false n T M w s
  pub cuts : (N : List ℕ) → Stable (table_bounds n k T) N → Subset N M → StrikeCut slot v N → Cuts M' v a w b N
