-- What settling makes of a good book, given by its bytes b (document 01, 'Settling').
--   book_start b       the starting table of the book's rows
--   SettlesTo b M     M is the largest stable list within the book's masks, for the bounds of the loosest closed table
--   DeadBook b        no table is closed within the starting table, or no list is stable within the masks
--   closed_book b      the closed table's lowers and uppers, or none
--   settled_book b     the settled masks, or none; a book dead in closing is dead here too
--   BookPlan b p      p is a plan of the book
-- `settled_book_settles`, `settles_settled_book`, `settled_book_dead` and `dead_settled_book` tie `settled_book` to the two above it.
-- Assumes nothing.
use Rattle.std.specs.Prelude.{List, ℕ}
use Rattle.std.proofs.Math.Option.{Option, bind}
use Rattle.book.specs.Layout.{slots, values, masks, rows}
use Rattle.closing_model.specs.Table.{Table, view, Loosest, NoneClosed}
use Rattle.closing_model.specs.Start.{start_lowers, start_uppers}
use Rattle.closing_model.specs.Closing.{closing}
use Rattle.settling_model.specs.Stable.{Largest, Unstable, table_bounds}
use Rattle.settling_model.specs.Settling.{settling}
use Rattle.settling_model.specs.Plans.{Plan}

abbrev pub book_start : List ℕ → Table
book_start b = view (start_lowers (slots b) (values b) (rows b)) (start_uppers (slots b) (values b) (rows b))

pub record SettlesTo (b M : List ℕ) : Type 0 where
  pub table : Table
  pub loosest : Loosest (slots b) (values b) (book_start b) table
  pub largest : Largest (table_bounds (slots b) (values b) table) (masks b) M

pub data DeadBook (b : List ℕ) : Type 0 where
  none_closed : NoneClosed (slots b) (values b) (book_start b) → DeadBook b
  none_stable : (T : Table) → Loosest (slots b) (values b) (book_start b) T → Unstable (table_bounds (slots b) (values b) T) (masks b) → DeadBook b

abbrev pub closed_book : List ℕ → Option (List ℕ × List ℕ)
closed_book b = closing (slots b) (values b) (start_lowers (slots b) (values b) (rows b)) (start_uppers (slots b) (values b) (rows b))

unfoldable pub settled_book : List ℕ → Option (List ℕ)
settled_book b = bind (closed_book b) (λ T. settling (table_bounds (slots b) (values b) (view T.0 T.1)) (masks b))

abbrev pub BookPlan : List ℕ → List ℕ → Type 0
BookPlan b p = Plan (slots b) (values b) (rows b) (masks b) p
