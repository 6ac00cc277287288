-- From a good book to the filter's state: the rises of its closed table, then masks, cells and trail.
--   StateRoom        room for all of the state
--   BookState .. h   the state of a book that settles: the masks are the settled ones, the rises and the cells those of its closed
--                    table, and the trail has the height h
--   OpensBook        Live, that state; Dead, the book does not settle
-- Assumes nothing.
use Rattle.std.specs.Prelude.{◌≡◌, List, ℕ, ◌+◌, ◌*◌, ◌≤◌, length}
use Rattle.std.proofs.Math.Option.{none, some}
use Rattle.book.specs.Layout.{slots, values}
use Rattle.closing_model.specs.Table.{view}
use Rattle.settling_model.specs.Book.{closed_book, settled_book}
use Rattle.filter_model.specs.Mirror.{Mirror}
use Rattle.filter_model.specs.Open.{cells_size}
use Rattle.filter_model.specs.Rises.{TableRises}
use Rattle.filter_model.specs.State.{World}
use Rattle.outcomes.specs.declared.Outcome.{Outcome}
use Rattle.outcomes.specs.declared.Outcome.TheVariants.{Live, Dead}
use Rattle.book_rises.specs.BookRises.{RisesRoom}

pub record StateRoom (b masks cells trail L U : List ℕ) : Type 0 where
  pub rises : RisesRoom b L U
  pub masks_inside : length masks ≡ slots b
  pub cells_in : cells_size (slots b) (values b) ≤ length cells
  pub trail_in : 2 * slots b + 3 * (values b * slots b) ≤ length trail

pub record BookState (b masks cells trail L U : List ℕ) (h : ℕ) : Type 0 where
  pub lowers : List ℕ
  pub uppers : List ℕ
  pub closed : closed_book b ≡ some (lowers, uppers)
  pub settled : settled_book b ≡ some masks
  pub rises : TableRises (slots b) (values b) (view lowers uppers) L U
  pub mirror : Mirror (slots b) (values b) (view lowers uppers) masks cells
  pub world : World masks cells trail (slots b) (values b) h

abbrev pub OpensBook : List ℕ → List ℕ → List ℕ → List ℕ → List ℕ → List ℕ → Outcome → Type 0
OpensBook b masks cells trail L U (Live h) = BookState b masks cells trail L U h
OpensBook b masks cells trail L U (Dead h) = settled_book b ≡ none
