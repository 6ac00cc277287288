-- What the code keeps of a record, against csv_model's `specs/Csv.antt`.
--   no_fields           the tally of no field
--   added t f          the tally t with field f behind: how many fields, whether one is bad at its place, and the last four numbers
--   tallied t fs       with each of fs
--   fields_fault w t    18 of a record with the tally t, which is to have w fields
--   Kept x text r      r is the whole record x of text: the tally of its fields, and a place with the text behind it
--   ReadOf x text r    r is that where the record x is whole, and else the refusal of its quoting
--   GoodOf w x text r  the same of a record that is to have w fields: r is that where neither 17 nor 18 refuses it, and else the first that does
-- Assumes nothing.
use Rattle.std.specs.Prelude.{◌≡◌, true, false, not, ◌||◌, List, [], ◌∷◌, ℕ, ◌+◌, ◌≤◌, eqb, length, drop, Result, Ok, Err}
use Rattle.answer.specs.Answer.{number_of}
use Rattle.answer.specs.declared.Refusal.{Refusal}
use Rattle.answer.specs.declared.Refusal.TheVariants.{Quoting}
use Rattle.book.specs.Refusal.{fault}
use Rattle.csv_model.specs.declared.Figure.{Figure}
use Rattle.csv_model.specs.Csv.{Record}
use Rattle.book_bytes.specs.BookBytes.{order_row}
use Rattle.csv_model.specs.Import.{bad_field, record_fault, said}
use Rattle.csv_import.specs.declared.Tally.{Tally}
use Rattle.csv_import.specs.declared.Read.{Read}

abbrev pub no_fields : Tally
no_fields = record { count = 0; bad = false; last = order_row 0 0 0 0 }

abbrev pub added : Tally → Figure → Tally
added t f =
    record {
      count = t.count + 1;
      bad = bad_field t.count f || t.bad;
      last = order_row t.last.end t.last.lower t.last.upper (said f);
    }

unfoldable pub tallied : Tally → List Figure → Tally
tallied t [] = t
tallied t (f ∷ fs) = tallied (added t f) fs

abbrev pub fields_fault : ℕ → Tally → ℕ
fields_fault w t = fault 18 (not (eqb t.count w) || t.bad)

pub record Kept (x : Record) (text : List ℕ) (r : Read) : Type 0 where
  pub whole : x.whole ≡ true
  pub tally : r.tally ≡ tallied no_fields x.fields
  pub rest : drop r.next text ≡ x.rest
  pub inside : r.next ≤ length text

abbrev pub ReadOf : Record → List ℕ → Result Read Refusal → Type 0
ReadOf x text (Ok r) = Kept x text r
ReadOf x text (Err refusal) = (refusal ≡ Quoting) × (x.whole ≡ false)

abbrev pub GoodOf : ℕ → Record → List ℕ → Result Read Refusal → Type 0
GoodOf w x text (Ok r) = Kept x text r × (record_fault w x ≡ 0)
GoodOf w x text (Err refusal) = number_of refusal ≡ record_fault w x
