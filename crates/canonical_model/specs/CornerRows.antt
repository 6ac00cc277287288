-- The rows of the canonical book (document 02, request six): one for each type and end that has a corner of either kind, by type, then end. A kind is a Bool:
-- true for the lower bounds, false for the upper ones.
--   no_bound kind            what a side without a corner has: 0, or 65535 (document 01: no upper bound)
--   corner_side kind n T v t   one side of the row of (v, t): the bound where that side has a corner, else none
--   corner_row n T v t       the row of (v, t), both sides of it
--   has_corner n T v t       (v, t) is a corner of either kind
--   corner_rows n T v t      its row alone where it is one, else no row
--   line_rows n T v e        those of type v and the ends from 1 to e
--   canonical_rows n k T     those of the types below k
-- Corners are those of the walls (`corner_of`). Assumes nothing.
use Rattle.std.specs.Prelude.{Bool, true, false, cond, ◌||◌, List, [], ◌∷◌, ◌++◌, ℕ, zero, suc}
use Rattle.book.specs.declared.Row.{Row}
use Rattle.closing_model.specs.Table.{Table}
use Rattle.closing_model.specs.Corners.{bound_line}
use Rattle.segments_model.specs.Lines.{corner_of}
use Rattle.book_bytes.specs.BookBytes.{order_row}

abbrev pub no_bound : Bool → ℕ
no_bound true = 0
no_bound false = 65535

abbrev pub corner_side : Bool → ℕ → Table → ℕ → ℕ → ℕ
corner_side kind n T v t = cond (corner_of kind n (bound_line kind n T v) t) (bound_line kind n T v t) (no_bound kind)

abbrev pub corner_row : ℕ → Table → ℕ → ℕ → Row
corner_row n T v t = order_row v t (corner_side true n T v t) (corner_side false n T v t)

abbrev pub has_corner : ℕ → Table → ℕ → ℕ → Bool
has_corner n T v t = corner_of true n (bound_line true n T v) t || corner_of false n (bound_line false n T v) t

unfoldable pub corner_rows : ℕ → Table → ℕ → ℕ → List Row
corner_rows n T v t = cond (has_corner n T v t) (corner_row n T v t ∷ []) []

unfoldable pub line_rows : ℕ → Table → ℕ → ℕ → List Row
line_rows n T v zero = []
line_rows n T v (suc e) = line_rows n T v e ++ corner_rows n T v (suc e)

unfoldable pub canonical_rows : ℕ → ℕ → Table → List Row
canonical_rows n zero T = []
canonical_rows n (suc v) T = canonical_rows n v T ++ line_rows n T v n
