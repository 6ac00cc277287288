-- What is ordered, as numbers, and which of 2, 6 to 8 and 9 refuses it (document 02, request one). Nothing is read here, and nothing wraps: a number is the
-- one that was written, however large.
--   range_fault limits n k r   2 where slots, types or the number of rows is out of range
--   rows_fault n k rows   6, 7 or 8 of the first row that has one
--   orders_fault limits n k rows len   2, then 6 to 8 by row, then 9 where an output of len bytes is shorter than the book
-- Assumes nothing.
use Rattle.std.specs.Prelude.{List, [], ◌∷◌, ℕ, ◌+◌, ◌*◌, ltb, length}
use Rattle.book.specs.declared.Limits.{Limits}
use Rattle.book.specs.declared.Row.{Row}
use Rattle.book.specs.Refusal.{fault, ◌or_else◌, beyond, row_fault}

abbrev pub range_fault : Limits → ℕ → ℕ → ℕ → ℕ
range_fault limits n k r = fault 2 (beyond limits n k r)

unfoldable pub rows_fault : ℕ → ℕ → List Row → ℕ
rows_fault n k [] = 0
rows_fault n k (row ∷ rows) = row_fault n k row or_else rows_fault n k rows

abbrev pub orders_fault : Limits → ℕ → ℕ → List Row → ℕ → ℕ
orders_fault limits n k rows len =
    range_fault limits n k (length rows) or_else rows_fault n k rows or_else fault 9 (ltb len (12 + 4 * n + 8 * length rows))
