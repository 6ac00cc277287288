-- One bound of one value over the prefixes 0 to n: its line u, its corners, and its slack on a list of masks M.
-- A kind is a Bool: true for the lower bounds, false for the upper ones.
--   line_of rises v         the line that starts at 0 and grows by bit v of the rises at each prefix
--   Rising n v rises u     u is that line up to n
--   corner_of kind n u t    u turns at t: a breakpoint of its staircase (document 01: a lower or an upper corner), for t from 1 to n; what it
--                          says of other t plays no part
--   tick, count_of          what one mask counts for the kind, and their sum before t: document 01's P (lower) or B (upper)
--   gain, loss, slack_of    P - lower or upper - B, and its two parts
--   Change kind m₀ m v d   the mask m in place of m₀ costs the slack d
--   reserve kind M v n     more than any slack that a line of at most n can have: 2 and n and how often the slack can still fall
--   with_end, with_reserve   the corners up to n with one more at n + 1, and a slack up to n with another number there
--   row_corners, row_slack   the corners of the line with one more at n + 1, and their slack with the reserve there
--   Broken, Unbroken       a corner with less gain than loss: P below lower, or B above upper; no such corner after t
--   BrokenAt               the bound is broken at t
--   Segments               no corner of it is broken, the cells hold its segments, and at n + 1 a right end with the reserve, so that each fall
--                          finds a right end after its slot
-- Assumes nothing.
use Rattle.std.specs.Prelude.{◌≡◌, Bool, true, false, cond, ◌&&◌, ◌||◌, List, ℕ, suc, ◌+◌, ◌-◌, ◌≤◌, ◌<◌, eqb, leb, get_or}
use Rattle.domains.specs.Mask.{test_bit}
use Rattle.domains.specs.Counts.{count, only, count_has, count_fixed}
use Rattle.segments_model.specs.Cells.{up_to}
use Rattle.segments_model.specs.Links.{Held}

-- ---- the line
abbrev pub line_of : List ℕ → ℕ → ℕ → ℕ
line_of rises v t = up_to (λ i. test_bit (get_or rises i 0) v) t

pub record Rising (n v : ℕ) (rises : List ℕ) (u : ℕ → ℕ) : Type 0 where
  pub start : u 0 ≡ 0
  pub steps : (t : ℕ) → t < n → u (suc t) ≡ u t + test_bit (get_or rises (suc t) 0) v

abbrev pub corner_of : Bool → ℕ → (ℕ → ℕ) → ℕ → Bool
corner_of true n u t = eqb (u t) (u (t - 1) + 1) && (eqb t n || eqb (u (t + 1)) (u t))
corner_of false n u t = eqb (u t) (u (t - 1)) && (eqb t n || eqb (u (t + 1)) (u t + 1))

-- ---- the slack
abbrev pub tick : Bool → ℕ → ℕ → ℕ
tick true m v = test_bit m v
tick false m v = only m v

abbrev pub count_of : Bool → List ℕ → ℕ → ℕ → ℕ
count_of kind M v t = count (λ s. tick kind (get_or M s 0) v) t

abbrev pub gain : Bool → (ℕ → ℕ) → List ℕ → ℕ → ℕ → ℕ
gain true u M v t = count_has M v t
gain false u M v t = u t

abbrev pub loss : Bool → (ℕ → ℕ) → List ℕ → ℕ → ℕ → ℕ
loss true u M v t = u t
loss false u M v t = count_fixed M v t

-- below 0 it counts as 0: either way the corner is no right end, and no slack above 0 lies below it
abbrev pub slack_of : Bool → (ℕ → ℕ) → List ℕ → ℕ → ℕ → ℕ
slack_of kind u M v t = gain kind u M v t - loss kind u M v t

abbrev pub Change : Bool → ℕ → ℕ → ℕ → ℕ → Type 0
Change true m₀ m v d = test_bit m₀ v ≡ test_bit m v + d
Change false m₀ m v d = only m v ≡ only m₀ v + d

-- ---- one more corner, at n + 1
abbrev pub reserve : Bool → List ℕ → ℕ → ℕ → ℕ
reserve true M v n = n + 2 + count_has M v n
reserve false M v n = n + 2 + (n - count_fixed M v n)

unfoldable pub with_end : ℕ → (ℕ → Bool) → ℕ → Bool
with_end n C t = cond (leb t n) (C t) true

unfoldable pub with_reserve : ℕ → ℕ → (ℕ → ℕ) → ℕ → ℕ
with_reserve n x f t = cond (leb t n) (f t) x

abbrev pub row_corners : Bool → ℕ → (ℕ → ℕ) → ℕ → Bool
row_corners kind n u = with_end n (corner_of kind n u)

abbrev pub row_slack : Bool → ℕ → (ℕ → ℕ) → List ℕ → ℕ → ℕ → ℕ
row_slack kind n u M v = with_reserve n (reserve kind M v n) (slack_of kind u M v)

-- ---- the segments: g is the gain, h the loss
pub record Broken (n : ℕ) (C : ℕ → Bool) (g h : ℕ → ℕ) (t : ℕ) : Type 0 where
  pub above : 0 < t
  pub inside : t ≤ n
  pub corner : C t ≡ true
  pub broken : g t < h t

abbrev pub Unbroken : ℕ → (ℕ → Bool) → (ℕ → ℕ) → (ℕ → ℕ) → ℕ → Type 0
Unbroken n C g h t = (w : ℕ) → t < w → w ≤ n → C w ≡ true → h w ≤ g w

abbrev pub BrokenAt : Bool → ℕ → (ℕ → ℕ) → List ℕ → ℕ → ℕ → Type 0
BrokenAt kind n u M v t = Broken n (corner_of kind n u) (gain kind u M v) (loss kind u M v) t

pub record Segments (kind : Bool) (n : ℕ) (u : ℕ → ℕ) (M : List ℕ) (v : ℕ) (cells : List ℕ) : Type 0 where
  pub held : Held (n + 1) (row_corners kind n u) (row_slack kind n u M v) cells
  pub kept : Unbroken n (corner_of kind n u) (gain kind u M v) (loss kind u M v) 0
  pub under : (t : ℕ) → t ≤ n → u t ≤ n
