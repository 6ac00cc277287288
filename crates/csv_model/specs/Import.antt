-- Which texts are refused, by document 02's numbers and in its order (request one), and the book that an accepted one gives: by the reader of `specs/Csv.antt`.
--   is_number f           one to five digits
--   bad_field i f         the field f, at place i of its record, is no number; place 3, the upper, may be empty. bad_fields i fs: one of fs is, from place i on
--   record_fault w r      17 for a broken record; 18 where it does not have w fields, or one is bad
--   records_fault w rs    the first of these; w is 2 for the first record, and 4 for each later one
--   said f, said_at fs i   the number that an accepted field says, and the field at place i: an empty upper is none, 65535
--   slots_of, values_of    the numbers of the first record
--   row_of fs, rows_of_all rs, rows_of rs   the row of a later record; the rows of all records rs; those of all but the first, in order
--   book_length_of rs      how many bytes the book of the records has
--   said_fault limits rs len   2, 6 to 8 and 9 of what the records rs say, where none has a number
--   records_refusal limits rs len   17 and 18, record by record; then those
--   csv_fault limits s len   the number that refuses the text s with an output of len bytes, 0 where none does
--   book_of s             the bytes of the book: full masks, byte 3 is 0, one row for each later record
--   stored x b o         what stands in the output o after the number x: the book b in its front where x is 0, else just o
--   Imports limits s o r o'   r is the number that refuses the text s with the output o as it is lent, 0 where none does; o' is the output as it comes back
-- Assumes nothing.
use Rattle.std.specs.Prelude.{◌≡◌, Bool, false, not, ◌&&◌, ◌||◌, cond, List, [], ◌∷◌, ◌++◌, ℕ, zero, suc, ◌+◌, ◌*◌, eqb, leb, length, get_or, drop}
use Rattle.book.specs.declared.Limits.{Limits}
use Rattle.book.specs.declared.Row.{Row}
use Rattle.book.specs.Refusal.{fault, ◌or_else◌}
use Rattle.book_bytes.specs.BookBytes.{order_row, full_masks, book_bytes}
use Rattle.csv_model.specs.declared.Figure.{Figure}
use Rattle.csv_model.specs.Ordered.{orders_fault}
use Rattle.csv_model.specs.Csv.{nothing, Record, broken_record, records}

-- ---- 17 and 18
abbrev pub is_number : Figure → Bool
is_number f = leb 1 f.count && leb f.count 5

abbrev pub bad_field : ℕ → Figure → Bool
bad_field i f = not (is_number f) && not (eqb i 3 && eqb f.count 0)

unfoldable pub bad_fields : ℕ → List Figure → Bool
bad_fields i [] = false
bad_fields i (f ∷ fs) = bad_field i f || bad_fields (suc i) fs

unfoldable pub record_fault : ℕ → Record → ℕ
record_fault w r = fault 17 (not r.whole) or_else fault 18 (not (eqb (length r.fields) w) || bad_fields 0 r.fields)

unfoldable pub records_fault : ℕ → List Record → ℕ
records_fault w [] = 0
records_fault w (r ∷ rs) = record_fault w r or_else records_fault 4 rs

-- ---- what the records say
abbrev pub said : Figure → ℕ
said f = cond (eqb f.count 0) 65535 f.value

abbrev pub said_at : List Figure → ℕ → ℕ
said_at fs i = said (get_or fs i nothing)

-- the first record: slots, types
abbrev pub slots_of : List Record → ℕ
slots_of rs = said_at (get_or rs 0 broken_record).fields 0

abbrev pub values_of : List Record → ℕ
values_of rs = said_at (get_or rs 0 broken_record).fields 1

-- a later record: type, end, lower, upper
abbrev pub row_of : List Figure → Row
row_of fs = order_row (said_at fs 0) (said_at fs 1) (said_at fs 2) (said_at fs 3)

unfoldable pub rows_of_all : List Record → List Row
rows_of_all [] = []
rows_of_all (r ∷ rs) = row_of r.fields ∷ rows_of_all rs

abbrev pub rows_of : List Record → List Row
rows_of rs = rows_of_all (drop 1 rs)

-- ---- the whole
abbrev pub book_length_of : List Record → ℕ
book_length_of rs = 12 + 4 * slots_of rs + 8 * length (rows_of rs)

abbrev pub said_fault : Limits → List Record → ℕ → ℕ
said_fault limits rs len = orders_fault limits (slots_of rs) (values_of rs) (rows_of rs) len

unfoldable pub records_refusal : Limits → List Record → ℕ → ℕ
records_refusal limits rs len = records_fault 2 rs or_else said_fault limits rs len

abbrev pub csv_fault : Limits → List ℕ → ℕ → ℕ
csv_fault limits s len = records_refusal limits (records s) len

unfoldable pub book_of : List ℕ → List ℕ
book_of s = book_bytes (slots_of (records s)) (values_of (records s)) 0 (full_masks (slots_of (records s)) (values_of (records s))) (rows_of (records s))

abbrev pub stored : ℕ → List ℕ → List ℕ → List ℕ
stored zero book o = book ++ drop (length book) o
stored (suc number) book o = o

pub record Imports (limits : Limits) (s o : List ℕ) (r : ℕ) (o' : List ℕ) : Type 0 where
  pub number : r ≡ csv_fault limits s (length o)
  pub output : o' ≡ stored (csv_fault limits s (length o)) (book_of s) o
