-- What the cells hold, in a form that each store keeps: no order of the slacks, and any predicate for the corners.
--   RightEnd C f cells t   the cell t is above 0: a corner after the spent one, and the cells up to it sum to its slack
--   Cover n f cells u      a right end at u or after it, with no more slack
--   Covers n C f cells     each right end is such a corner, and each corner that is not spent is covered; Corner C: the corners of a test C
-- Assumes nothing.
use Rattle.std.specs.Prelude.{◌≡◌, Bool, true, List, ℕ, ◌≤◌, ◌<◌, get_or}
use Rattle.segments_model.specs.Cells.{sum_to}

pub record RightEnd (C : ℕ → Type 0) (f : ℕ → ℕ) (cells : List ℕ) (t : ℕ) : Type 0 where
  pub past : get_or cells 0 0 < t
  pub corner : C t
  pub sum : sum_to cells t ≡ f t

pub record Cover (n : ℕ) (f : ℕ → ℕ) (cells : List ℕ) (u : ℕ) : Type 0 where
  pub at : ℕ
  pub after : u ≤ at
  pub inside : at ≤ n
  pub stands : 0 < get_or cells at 0
  pub low : sum_to cells at ≤ f u

pub record Covers (n : ℕ) (C : ℕ → Type 0) (f : ℕ → ℕ) (cells : List ℕ) : Type 0 where
  pub inside : get_or cells 0 0 ≤ n
  pub corner : 0 < get_or cells 0 0 → C (get_or cells 0 0)
  pub none : 0 < get_or cells 0 0 → f (get_or cells 0 0) ≡ 0
  pub ends : (t : ℕ) → 0 < t → t ≤ n → 0 < get_or cells t 0 → RightEnd C f cells t
  pub cover : (u : ℕ) → get_or cells 0 0 < u → u ≤ n → C u → Cover n f cells u

abbrev pub Corner : (ℕ → Bool) → ℕ → Type 0
Corner C u = C u ≡ true
