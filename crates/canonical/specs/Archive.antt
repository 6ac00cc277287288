-- What the functions below the entry rest on.
--   TableRoom b L U       a good book within the working arrays, and lists with just the room for its table
--   ClosedTable b L U     such a book, and L and U are its closed table
--   BookRoom b L U r out  the canonical book has r rows, at most 1,024, and out has room for it
-- Assumes nothing.
use Rattle.std.specs.Prelude.{◌≡◌, List, ℕ, ◌+◌, ◌*◌, ◌≤◌, ◌<◌, length}
use Rattle.std.proofs.Math.Option.{some}
use Rattle.book.specs.Layout.{slots}
use Rattle.closing_model.specs.Start.{entries}
use Rattle.closing_model.specs.Table.{view}
use Rattle.settling_model.specs.Book.{closed_book}
use Rattle.settle_fault.specs.Ready.{FitBook}
use Rattle.canonical_model.specs.Canonical.{book_rows}

pub record TableRoom (b L U : List ℕ) : Type 0 where
  pub book : FitBook b
  pub slotted : 0 < slots b
  pub lowers : length L ≡ entries b
  pub uppers : length U ≡ entries b

pub record ClosedTable (b L U : List ℕ) : Type 0 where
  pub book : FitBook b
  pub slotted : 0 < slots b
  pub closes : closed_book b ≡ some (L, U)

pub record BookRoom (b L U : List ℕ) (r : ℕ) (out : List ℕ) : Type 0 where
  pub count : r ≡ length (book_rows b (view L U))
  pub few : r ≤ 1024
  pub room : 12 + 4 * slots b + 8 * r ≤ length out
