-- The segments of one value and one kind of bound, over a bare slack function on the prefixes 1 to n, and the cells that hold them.
-- C tells the corners and f their slack. A segment reaches up to its right end (document 01: a wall) from behind the one before. The cells here
-- and in specs/Covers.antt are gaps; how they are stored is in specs/Links.antt.
--   up_to g t             the sum of g over the prefixes 1 to t
--   sum_to cells t        the sum of the cells 1 to t
--   Stands n C f t       t, from 1 to n, is the right end of a segment: a corner whose slack is above 0 and below that of every later corner
--   Spent n C f z        z is the last corner without slack, or 0
--   Cells n C f cells    cell 0 is the spent corner; a cell is above 0 just where a segment ends, and the cells up to there sum to its slack
--   standing_in cells n   how many segments the cells hold
--   stands_at, standing   `Stands` as a test, and how many of the prefixes 1 to n pass it
-- Source document 000, sections 3.2 and 3.3, with these departures. A cell is the distance left to the segment's critical point, so that it only
-- falls. One list of cells stands in for counters and a union-find structure. A leftmost segment that is full is kept, as the spent corner:
-- whatever falls before it breaks the bound.
-- Assumes nothing.
use Rattle.std.specs.Prelude.{◌≡◌, Bool, true, ◌&&◌, List, ℕ, suc, ◌≤◌, ◌<◌, eqb, ltb, leb, get_or}
use Rattle.domains.specs.Counts.{bit, count}

abbrev pub up_to : (ℕ → ℕ) → ℕ → ℕ
up_to g t = count (λ s. g (suc s)) t

abbrev pub sum_to : List ℕ → ℕ → ℕ
sum_to cells t = up_to (λ i. get_or cells i 0) t

pub record Stands (n : ℕ) (C : ℕ → Bool) (f : ℕ → ℕ) (t : ℕ) : Type 0 where
  pub corner : C t ≡ true
  pub slack : 0 < f t
  pub least : (u : ℕ) → t < u → u ≤ n → C u ≡ true → f t < f u

pub record Spent (n : ℕ) (C : ℕ → Bool) (f : ℕ → ℕ) (z : ℕ) : Type 0 where
  pub inside : z ≤ n
  pub corner : 0 < z → C z ≡ true
  pub none : 0 < z → f z ≡ 0
  pub last : (u : ℕ) → z < u → u ≤ n → C u ≡ true → 0 < f u

pub record Cells (n : ℕ) (C : ℕ → Bool) (f : ℕ → ℕ) (cells : List ℕ) : Type 0 where
  pub spent : Spent n C f (get_or cells 0 0)
  pub stands : (t : ℕ) → 0 < t → t ≤ n → 0 < get_or cells t 0 → Stands n C f t
  pub held : (t : ℕ) → 0 < t → t ≤ n → Stands n C f t → 0 < get_or cells t 0
  pub sums : (t : ℕ) → 0 < t → t ≤ n → Stands n C f t → sum_to cells t ≡ f t

abbrev pub standing_in : List ℕ → ℕ → ℕ
standing_in cells n = up_to (λ t. bit (ltb 0 (get_or cells t 0))) n

-- the later corners with no more slack than t are none
unfoldable pub stands_at : ℕ → (ℕ → Bool) → (ℕ → ℕ) → ℕ → Bool
stands_at n C f t = C t && ltb 0 (f t) && eqb (up_to (λ u. bit (ltb t u && C u && leb (f u) (f t))) n) 0

abbrev pub standing : ℕ → (ℕ → Bool) → (ℕ → ℕ) → ℕ
standing n C f = up_to (λ t. bit (stands_at n C f t)) n
