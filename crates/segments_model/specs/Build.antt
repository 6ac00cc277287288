-- How far the building of the cells has come. C tells the corners, f is the slack, g the gain and h the loss.
--   After C t                     the corners after t
--   Filling n C f t cells next    the cells hold the corners after t; next is the first right end, or n + 1
--   Laid n C f t cells next       the gaps of stored cells do so, their links pass no right end, and the cells up to t are fresh
--   Inserted n t x next ..        what one more corner with slack x does
--   Pointed from past next ..     the cells from `from` on and before `past` are links to next, and the others stay
--   Done n C g h t cells next     the corners after t are held, and none of them is broken
--   Counts kind rises M v t r k   r and k are the line and the kind's count at t
-- Assumes nothing.
use Rattle.std.specs.Prelude.{◌≡◌, Bool, true, List, ℕ, ◌+◌, ◌-◌, ◌≤◌, ◌<◌, length, get_or}
use Rattle.segments_model.specs.Covers.{Covers}
use Rattle.segments_model.specs.Lines.{line_of, count_of, Unbroken}
use Rattle.segments_model.specs.Links.{gaps, Linked, Fresh}
use Rattle.segments_model.specs.Search.{Next, Gap}

abbrev pub After : (ℕ → Bool) → ℕ → ℕ → Type 0
After C t u = (t < u) × (C u ≡ true)

pub record Filling (n : ℕ) (C : ℕ → Bool) (f : ℕ → ℕ) (t : ℕ) (cells : List ℕ) (next : ℕ) : Type 0 where
  pub covers : Covers n (After C t) f cells
  pub first : Next n t cells next
  pub clean : Gap cells 1 (t + 1)

pub record Laid (n : ℕ) (C : ℕ → Bool) (f : ℕ → ℕ) (t : ℕ) (cells : List ℕ) (next : ℕ) : Type 0 where
  pub filling : Filling n C f t (gaps cells) next
  pub linked : Linked n cells
  pub fresh : Fresh t cells

pub record Inserted (n t x next : ℕ) (cells cells' : List ℕ) (r : ℕ) : Type 0 where
  pub size : length cells' ≡ length cells
  pub laid : (C : ℕ → Bool) (f : ℕ → ℕ) → Laid n C f t cells next → C t ≡ true → f t ≡ x → Laid n C f (t - 1) cells' r

pub record Pointed (from past next : ℕ) (cells cells' : List ℕ) : Type 0 where
  pub size : length cells' ≡ length cells
  pub links : (i : ℕ) → from ≤ i → i < past → get_or cells' i 0 ≡ 1024 + (next - i - 1)
  pub before : (i : ℕ) → i < from → get_or cells' i 0 ≡ get_or cells i 0
  pub after : (i : ℕ) → past ≤ i → get_or cells' i 0 ≡ get_or cells i 0

pub record Done (n : ℕ) (C : ℕ → Bool) (g h : ℕ → ℕ) (t : ℕ) (cells : List ℕ) (next : ℕ) : Type 0 where
  pub laid : Laid n C (λ w. g w - h w) t cells next
  pub kept : Unbroken n C g h t

pub record Counts (kind : Bool) (rises M : List ℕ) (v t r k : ℕ) : Type 0 where
  pub risen_is : r ≡ line_of rises v t
  pub counted_is : k ≡ count_of kind M v t
