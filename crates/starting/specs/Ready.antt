-- What the functions below the entries rest on: a good book and two lists with just the room for its table.
--   Ready b L U          the rows of b are good and lie within it, and L and U have an element for each entry of its table
-- Assumes nothing.
use Rattle.std.specs.Prelude.{◌≡◌, List, ℕ, ◌+◌, ◌*◌, ◌≤◌, ◌<◌, length}
use Rattle.book.specs.Layout.{slots, values, row_count, rows_part, row_at}
use Rattle.book.specs.GoodFacts.{RowFacts}
use Rattle.closing_model.specs.Start.{entries}

pub record Ready (b L U : List ℕ) : Type 0 where
  pub inside : 12 + 4 * slots b + 8 * row_count b ≤ length b
  pub row : (i : ℕ) → i < row_count b → RowFacts (slots b) (values b) (row_at (rows_part b) i)
  pub lowers : length L ≡ entries b
  pub uppers : length U ≡ entries b
