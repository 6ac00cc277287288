-- Filling as a function that computes: along each line once forth and once back. A kind is a Bool: true for the lower bounds.
--   tighter kind x y      the tighter of two bounds: the greater of lowers, the lesser of uppers
--   forth kind a t        the rule from one end to the next, from 0 to t: a lower stays one, an upper grows by 1
--   back kind f t d       the rule from one end to the one before, over the d ends after t: a lower falls by 1, an upper stays one
--   filled_line kind n a   the bounds a of the ends 0 to n, filled (`line_filled`)
--   filled n A            the table A, filled type by type (`filled_loosely`, `loosely_filled`)
-- Assumes nothing.
use Rattle.std.specs.Prelude.{Bool, true, false, not, ℕ, zero, suc, ◌+◌, ◌-◌, ◌/◌, ◌%◌, min, max}
use Rattle.domains.specs.Counts.{bit}
use Rattle.closing_model.specs.Table.{Table}
use Rattle.closing_model.specs.Corners.{bound_line}

abbrev pub tighter : Bool → ℕ → ℕ → ℕ
tighter true x y = max x y
tighter false x y = min x y

unfoldable pub forth : Bool → (ℕ → ℕ) → ℕ → ℕ
forth kind a zero = a 0
forth kind a (suc t) = tighter kind (a (suc t)) (forth kind a t + bit (not kind))

unfoldable pub back : Bool → (ℕ → ℕ) → ℕ → ℕ → ℕ
back kind f t zero = f t
back kind f t (suc d) = tighter kind (f t) (back kind f (suc t) d - bit kind)

abbrev pub filled_line : Bool → ℕ → (ℕ → ℕ) → ℕ → ℕ
filled_line kind n a t = back kind (forth kind a) t (n - t)

abbrev pub filled : ℕ → Table → Table
filled n A =
    record {
      lower = λ p. filled_line true n (bound_line true n A (p / (n + 1))) (p % (n + 1));
      upper = λ p. filled_line false n (bound_line false n A (p / (n + 1))) (p % (n + 1));
    }
