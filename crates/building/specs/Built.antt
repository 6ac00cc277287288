-- What `build` answers, and how far its visits of the prefixes, from the last to the first, have come.
--   DoneAfter             the cells hold the corners after t of the line that the rises give, with the right end at n + 1
--   BuildAnswer, Built    true: the cells hold the segments of each line that has these rises; false: one of its corners is broken
-- Assumes nothing.
use Rattle.std.specs.Prelude.{◌≡◌, Bool, true, false, List, ℕ, ◌+◌, length}
use Rattle.segments_model.specs.Build.{Done}
use Rattle.segments_model.specs.Lines.{line_of, Rising, gain, loss, reserve, with_reserve, row_corners, BrokenAt, Segments}

abbrev pub DoneAfter : Bool → ℕ → List ℕ → List ℕ → ℕ → ℕ → List ℕ → ℕ → Type 0
DoneAfter kind n rises M v t cells next =
    Done (n + 1) (row_corners kind n (line_of rises v)) (with_reserve n (reserve kind M v n) (gain kind (line_of rises v) M v))
    (with_reserve n 0 (loss kind (line_of rises v) M v)) t cells next

abbrev pub BuildAnswer : Bool → ℕ → (ℕ → ℕ) → List ℕ → ℕ → List ℕ → Bool → Type 0
BuildAnswer kind n u M v cells' true = Segments kind n u M v cells'
BuildAnswer kind n u M v cells' false = (t : ℕ) × BrokenAt kind n u M v t

pub record Built (kind : Bool) (n v : ℕ) (rises M cells cells' : List ℕ) (r : Bool) : Type 0 where
  pub size : length cells' ≡ length cells
  pub answer : (u : ℕ → ℕ) → Rising n v rises u → BuildAnswer kind n u M v cells' r
