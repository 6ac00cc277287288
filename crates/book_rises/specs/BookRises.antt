-- The rises of a book's closed table: what its two lists of masks are, and the room for them.
--   is_closed T                   there is a closed table
--   noted_rises side n k T lent   a list of rises after one side of the table was noted; as lent where there is no table
--   RisesRoom, TableRoom         room for the rises of a book, and for its table
--   NotesRises b L U L' U' r     r says whether the book closes, and L' and U' hold the rises of its lowers and uppers
-- Assumes nothing.
use Rattle.std.specs.Prelude.{◌≡◌, Bool, true, false, List, ℕ, ◌<◌, length}
use Rattle.std.proofs.Math.Option.{Option, none, some}
use Rattle.book.specs.Layout.{slots, values}
use Rattle.closing_model.specs.Start.{entries}
use Rattle.settling_model.specs.Book.{closed_book}
use Rattle.rises.specs.Rises.{over_rises}
use Rattle.settle_fault.specs.Ready.{FitBook}

abbrev pub is_closed : Option (List ℕ × List ℕ) → Bool
is_closed none = false
is_closed (some T) = true

abbrev pub noted_rises : (List ℕ × List ℕ → List ℕ) → ℕ → ℕ → Option (List ℕ × List ℕ) → List ℕ → List ℕ
noted_rises side n k none lent = lent
noted_rises side n k (some T) lent = over_rises n k (side T) lent

pub record RisesRoom (b L U : List ℕ) : Type 0 where
  pub book : FitBook b
  pub lowers : slots b < length L
  pub uppers : slots b < length U

pub record TableRoom (b lows highs L U : List ℕ) : Type 0 where
  pub rises : RisesRoom b L U
  pub lowers : length lows ≡ entries b
  pub uppers : length highs ≡ entries b

pub record NotesRises (b L U L' U' : List ℕ) (r : Bool) : Type 0 where
  pub answer : r ≡ is_closed (closed_book b)
  pub lowers : L' ≡ noted_rises (λ T. T.0) (slots b) (values b) (closed_book b) L
  pub uppers : U' ≡ noted_rises (λ T. T.1) (slots b) (values b) (closed_book b) U
