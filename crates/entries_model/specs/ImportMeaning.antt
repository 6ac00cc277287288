-- What import_csv answers and writes, in document 02's words and by the grammar of csv_model's `specs/Rfc.antt`: refused by the number, and the output as it
-- was; or the text is good records, and the book that they say is in the front of the output.
--   ImportMeans s o r o'   of the text s and the output o as it is lent: r is import_csv's answer, o' the output as it comes back
--   ImportReads s o o'     what a host has after the answer 0: by the length in its bytes 10 and 11, the front of o' is the good book that the records of s
--                          say, and what stood behind it stays
-- `import_means` and `means_import` say that the contract of the entry has just this meaning; `import_reads_back` proves `ImportReads`. Assumes nothing.
use Rattle.std.specs.Prelude.{◌≡◌, List, ℕ, suc, ◌+◌, length, take, drop}
use Rattle.book.specs.Layout.{book_length}
use Rattle.closing.specs.Close.{overlay}
use Rattle.csv_model.specs.Rfc.{TextOf}
use Rattle.csv_model.specs.Meaning.{GoodRecords, order_book, CsvMeans, Imported}
use Rattle.entries_model.specs.Entries.{full_limits}

pub data ImportMeans (s o : List ℕ) (r : ℕ) (o' : List ℕ) : Type 0 where
  refuses : (x : ℕ) → CsvMeans full_limits s (length o) (suc x) → r ≡ 256 + suc x → o' ≡ o → ImportMeans s o r o'
  -- the text is good records, and the book that they say is written; it is a good one
  imports : CsvMeans full_limits s (length o) 0 → (rs : List (List (List ℕ))) → TextOf s rs → GoodRecords 2 rs
      → Imported full_limits rs (order_book rs) → r ≡ 0 → o' ≡ overlay (order_book rs) o → ImportMeans s o r o'

pub record ImportReads (s o o' : List ℕ) : Type 0 where
  pub records : List (List (List ℕ))
  pub text : TextOf s records
  pub good : GoodRecords 2 records
  pub front : Imported full_limits records (take (book_length o') o')
  pub behind : drop (book_length o') o' ≡ drop (book_length o') o
