-- A table given by its rises: two lists of masks, the lower bounds' and the upper bounds'. Bit v of the mask at t says that value v's bound
-- grows by one at t.
--   rises_of kind L U      the list of a kind
--   TableRises n k T L U  each line of T starts at 0 and grows as L (lower) and U (upper) say
-- Assumes nothing.
use Rattle.std.specs.Prelude.{Bool, true, false, List, ℕ, ◌<◌}
use Rattle.closing_model.specs.Table.{Table}
use Rattle.closing_model.specs.Corners.{bound_line}
use Rattle.segments_model.specs.Lines.{Rising}

abbrev pub rises_of : Bool → List ℕ → List ℕ → List ℕ
rises_of true L U = L
rises_of false L U = U

pub record TableRises (n k : ℕ) (T : Table) (L U : List ℕ) : Type 0 where
  pub rises : (kind : Bool) (v : ℕ) → v < k → Rising n v (rises_of kind L U) (bound_line kind n T v)
