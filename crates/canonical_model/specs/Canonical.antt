-- What the entry canonical answers and writes (document 02, request six), from the bytes of a book and from how many bytes its output has room for. Outcomes,
-- and what they answer and write, are those of closing's `specs/Close.antt`; canonical has one output, so the second list of an outcome is empty.
--   book_rows b T        the canonical rows of a book with the closed table T
--   canonical_book b T   its canonical book: slots, types, byte 3 and masks of b, and those rows
--   archive_fault        the number that refuses a live book: 19 where it needs too many rows, then 9 where the output is shorter than the canonical book
--   archive_of           of what closing makes of the book: dead, and nothing is written; or that number; or live, with the canonical book
--   canonical_of         the outcome: the book's own number, then archive_of. Live and dead are those of closing alone
--   archived            what stands in the front of the output: the canonical book if live, else nothing
--   Canonises           the answer and the output are those of an outcome
-- Assumes nothing.
use Rattle.std.specs.Prelude.{◌≡◌, List, [], ℕ, ltb, length}
use Rattle.std.proofs.Math.Option.{Option, none, some}
use Rattle.book.specs.declared.Limits.{Limits}
use Rattle.book.specs.declared.Row.{Row}
use Rattle.book.specs.Layout.{slots, values, idle, masks}
use Rattle.book.specs.Refusal.{fault, ◌or_else◌, refusal}
use Rattle.closing_model.specs.Table.{Table, view}
use Rattle.closing.specs.Close.{Outcome, dead, live, unless, answer_of, written, overlay}
use Rattle.settling_model.specs.Book.{closed_book}
use Rattle.book_bytes.specs.BookBytes.{book_bytes}
use Rattle.canonical_model.specs.CornerRows.{canonical_rows}

abbrev pub book_rows : List ℕ → Table → List Row
book_rows b T = canonical_rows (slots b) (values b) T

abbrev pub canonical_book : List ℕ → Table → List ℕ
canonical_book b T = book_bytes (slots b) (values b) (idle b) (masks b) (book_rows b T)

unfoldable pub archive_fault : Limits → List ℕ → ℕ → Table → ℕ
archive_fault limits b room T = fault 19 (ltb limits.rows (length (book_rows b T))) or_else fault 9 (ltb room (length (canonical_book b T)))

unfoldable pub archive_of : Limits → List ℕ → ℕ → Option (List ℕ × List ℕ) → Outcome
archive_of limits b room none = dead 0
archive_of limits b room (some T) = unless (archive_fault limits b room (view T.0 T.1)) (live (canonical_book b (view T.0 T.1)) [])

unfoldable pub canonical_of : Limits → List ℕ → ℕ → Outcome
canonical_of limits b room = unless (refusal limits b) (archive_of limits b room (closed_book b))

abbrev pub archived : Outcome → List ℕ
archived = written (λ book second. book)

-- out is the output as it was lent, out' as it comes back
pub record Canonises (o : Outcome) (answer : ℕ) (out out' : List ℕ) : Type 0 where
  pub answers : answer ≡ answer_of o
  pub output : out' ≡ overlay (archived o) out
