-- What rows give: the bounds of the starting table, entry by entry, and rows that stand at a place. A kind is a Bool: true for the lower bounds.
--   side_of kind r         the row's own bound of that kind
--   unbound kind t        what the starting table has where no row speaks: 0, or t
--   given_by kind rs v t   what the rows rs give at (v, t): the greatest lower, or the least upper and t
--   start_of n k rs        the starting table of rows
--   Placed C v t r        r is a row of type v and end t, and has C
--   Gives C rs v t        some row of rs is such a one
-- Assumes nothing.
use Rattle.std.specs.Prelude.{◌≡◌, Bool, true, false, List, ℕ}
use Rattle.book.specs.declared.Row.{Row}
use Rattle.book.specs.Lists.{Any}
use Rattle.closing_model.specs.Table.{Table, view}
use Rattle.closing_model.specs.Start.{low_of, high_of, start_lowers, start_uppers}

-- ---- bounds
abbrev pub side_of : Bool → Row → ℕ
side_of true r = r.lower
side_of false r = r.upper

abbrev pub unbound : Bool → ℕ → ℕ
unbound true t = 0
unbound false t = t

abbrev pub given_by : Bool → List Row → ℕ → ℕ → ℕ
given_by true rs v t = low_of rs v t
given_by false rs v t = high_of rs v t

abbrev pub start_of : ℕ → ℕ → List Row → Table
start_of n k rs = view (start_lowers n k rs) (start_uppers n k rs)

-- ---- rows at a place
pub record Placed (C : Row → Type 0) (v t : ℕ) (r : Row) : Type 0 where
  pub value : r.value ≡ v
  pub end : r.end ≡ t
  pub has : C r

abbrev pub Gives : (Row → Type 0) → List Row → ℕ → ℕ → Type 0
Gives C rs v t = Any (Placed C v t) rs
