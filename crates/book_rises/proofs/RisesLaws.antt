-- The laws of `NotesRises` of `specs/BookRises.antt`. No contract cites this file. The ones that matter most: `notes_live` and
-- `notes_dead` (what the rises of a book are, by its `closed_book`).
-- Assumes nothing.
use mathlib.Core.Path.{◌≡◌, ◌∙◌}
use mathlib.Core.Bool.{true, false}
use mathlib.Core.List.{List}
use mathlib.Core.Option.{none, some}
use Prim.Native.Nat.{ℕ}
use Rattle.book.specs.Layout.{slots, values}
use Rattle.rises.specs.Rises.{over_rises}
use Rattle.settling_model.specs.Book.{closed_book}
use Rattle.book_rises.specs.BookRises.{NotesRises}

-- ---- NotesRises

pub notes_live : {b lent lent' L U L' U' : List ℕ} {n k : ℕ} → closed_book b ≡ some (L, U) → n ≡ slots b → k ≡ values b
    → L' ≡ over_rises n k L lent → U' ≡ over_rises n k U lent' → NotesRises b lent lent' L' U' true
notes_live {b} {lent} {lent'} {L} {U} closed n_is k_is lowers uppers =
    record { answer = rw closed; lowers = lowers ∙ rw (closed, n_is, k_is); uppers = uppers ∙ rw (closed, n_is, k_is) }

pub notes_dead : {b : List ℕ} (lent lent' : List ℕ) → closed_book b ≡ none → NotesRises b lent lent' lent lent' false
notes_dead lent lent' dead = record { answer = rw dead; lowers = rw dead; uppers = rw dead }
