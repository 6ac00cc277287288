-- Document 02's words on request one, and readings 18 to 23, computed: each text with the number that refuses it for an output of 200 bytes, 0 for none.
-- `every_number_right` computes `csv_fault` of each. No contract cites this file. Assumes nothing.
use mathlib.Core.Path.{◌≡◌, refl}
use mathlib.Core.Bool.{Bool, true, ◌&&◌}
use mathlib.Core.List.{List, [], ◌∷◌}
use Prim.Native.Nat.{ℕ}
use lib.Dec.{eqb}
use Rattle.book.specs.declared.Limits.{Limits}
use Rattle.csv_model.specs.Csv.{more, ended, bare, quoted, field, record_within, record_of, records_within, records}
use Rattle.csv_model.specs.Ordered.{rows_fault}
use Rattle.csv_model.specs.Import.{bad_fields, record_fault, records_fault, rows_of_all, records_refusal, csv_fault, book_of}
use Rattle.book.specs.Refusal.{row_fault}
use Rattle.book_bytes.specs.BookBytes.{rows_bytes}
use Rattle.elements.specs.Elements.{bytes_of}

record Case : Type 0 where
  text : List ℕ
  number : ℕ

abbrev limits : Limits
limits = record { slots = 256; values = 32; rows = 1024 }

abbrev cases : List Case
cases =
    -- smallest
    record { text = 49 ∷ 44 ∷ 49 ∷ []; number = 0 }
    ∷  -- final CRLF
    record { text = 49 ∷ 44 ∷ 49 ∷ 13 ∷ 10 ∷ []; number = 0 }
    ∷  -- a row
    record { text = 51 ∷ 44 ∷ 50 ∷ 13 ∷ 10 ∷ 48 ∷ 44 ∷ 50 ∷ 44 ∷ 49 ∷ 44 ∷ 13 ∷ 10 ∷ []; number = 0 }
    ∷  -- quoted
    record { text = 34 ∷ 51 ∷ 34 ∷ 44 ∷ 34 ∷ 50 ∷ 34 ∷ 13 ∷ 10 ∷ 34 ∷ 48 ∷ 34 ∷ 44 ∷ 34 ∷ 50 ∷ 34 ∷ 44 ∷ 34 ∷ 49 ∷ 34 ∷ 44 ∷ 34 ∷ 34 ∷ []; number = 0 }
    ∷  -- upper 65535 in digits
    record { text = 51 ∷ 44 ∷ 50 ∷ 13 ∷ 10 ∷ 48 ∷ 44 ∷ 50 ∷ 44 ∷ 49 ∷ 44 ∷ 54 ∷ 53 ∷ 53 ∷ 51 ∷ 53 ∷ []; number = 0 }
    ∷  -- empty text
    record { text = []; number = 18 }
    ∷  -- only CRLF
    record { text = 13 ∷ 10 ∷ []; number = 18 }
    ∷  -- blank second line
    record { text = 51 ∷ 44 ∷ 50 ∷ 13 ∷ 10 ∷ 13 ∷ 10 ∷ []; number = 18 }
    ∷  -- two final CRLFs
    record { text = 51 ∷ 44 ∷ 50 ∷ 13 ∷ 10 ∷ 48 ∷ 44 ∷ 49 ∷ 44 ∷ 48 ∷ 44 ∷ 13 ∷ 10 ∷ 13 ∷ 10 ∷ []; number = 18 }
    ∷  -- one field
    record { text = 51 ∷ []; number = 18 }
    ∷  -- three fields
    record { text = 51 ∷ 44 ∷ 50 ∷ 44 ∷ []; number = 18 }
    ∷  -- row with three fields
    record { text = 51 ∷ 44 ∷ 50 ∷ 13 ∷ 10 ∷ 48 ∷ 44 ∷ 50 ∷ 44 ∷ 49 ∷ []; number = 18 }
    ∷  -- row with five fields
    record { text = 51 ∷ 44 ∷ 50 ∷ 13 ∷ 10 ∷ 48 ∷ 44 ∷ 50 ∷ 44 ∷ 49 ∷ 44 ∷ 44 ∷ []; number = 18 }
    ∷  -- empty lower
    record { text = 51 ∷ 44 ∷ 50 ∷ 13 ∷ 10 ∷ 48 ∷ 44 ∷ 50 ∷ 44 ∷ 44 ∷ 49 ∷ []; number = 18 }
    ∷  -- empty slots
    record { text = 44 ∷ 50 ∷ []; number = 18 }
    ∷  -- six digits
    record { text = 48 ∷ 48 ∷ 48 ∷ 48 ∷ 48 ∷ 51 ∷ 44 ∷ 50 ∷ []; number = 18 }
    ∷  -- space
    record { text = 51 ∷ 44 ∷ 32 ∷ 50 ∷ []; number = 18 }
    ∷  -- minus
    record { text = 51 ∷ 44 ∷ 45 ∷ 50 ∷ []; number = 18 }
    ∷  -- plus
    record { text = 43 ∷ 51 ∷ 44 ∷ 50 ∷ []; number = 18 }
    ∷  -- letter
    record { text = 51 ∷ 44 ∷ 50 ∷ 13 ∷ 10 ∷ 120 ∷ 44 ∷ 49 ∷ 44 ∷ 48 ∷ 44 ∷ []; number = 18 }
    ∷  -- byte above 127
    record { text = 51 ∷ 44 ∷ 50 ∷ 178 ∷ []; number = 18 }
    ∷  -- tab
    record { text = 51 ∷ 44 ∷ 9 ∷ 50 ∷ []; number = 18 }
    ∷  -- nul
    record { text = 51 ∷ 44 ∷ 50 ∷ 0 ∷ []; number = 18 }
    ∷  -- quoted quote
    record { text = 34 ∷ 51 ∷ 34 ∷ 34 ∷ 34 ∷ 44 ∷ 50 ∷ []; number = 18 }
    ∷  -- CRLF in quotes
    record { text = 34 ∷ 51 ∷ 13 ∷ 10 ∷ 34 ∷ 44 ∷ 50 ∷ []; number = 18 }
    ∷  -- lone LF
    record { text = 51 ∷ 44 ∷ 50 ∷ 10 ∷ 48 ∷ 44 ∷ 50 ∷ 44 ∷ 49 ∷ 44 ∷ []; number = 17 }
    ∷  -- lone CR
    record { text = 51 ∷ 44 ∷ 50 ∷ 13 ∷ 48 ∷ 44 ∷ 50 ∷ 44 ∷ 49 ∷ 44 ∷ []; number = 17 }
    ∷  -- CR at the end
    record { text = 51 ∷ 44 ∷ 50 ∷ 13 ∷ []; number = 17 }
    ∷  -- LF at the end
    record { text = 51 ∷ 44 ∷ 50 ∷ 10 ∷ []; number = 17 }
    ∷  -- LF CR
    record { text = 51 ∷ 44 ∷ 50 ∷ 10 ∷ 13 ∷ []; number = 17 }
    ∷  -- CR CR LF
    record { text = 51 ∷ 44 ∷ 50 ∷ 13 ∷ 13 ∷ 10 ∷ []; number = 17 }
    ∷  -- open quote
    record { text = 34 ∷ 51 ∷ 44 ∷ 50 ∷ []; number = 17 }
    ∷  -- open quote at the end
    record { text = 51 ∷ 44 ∷ 34 ∷ []; number = 17 }
    ∷  -- quote in a bare field
    record { text = 51 ∷ 34 ∷ 52 ∷ 44 ∷ 50 ∷ []; number = 17 }
    ∷  -- after a closing quote
    record { text = 34 ∷ 51 ∷ 34 ∷ 52 ∷ 44 ∷ 50 ∷ []; number = 17 }
    ∷  -- space after a closing quote
    record { text = 34 ∷ 51 ∷ 34 ∷ 32 ∷ 44 ∷ 50 ∷ []; number = 17 }
    ∷  -- 17 before 18 in one record
    record { text = 120 ∷ 44 ∷ 121 ∷ 44 ∷ 34 ∷ []; number = 17 }
    ∷  -- 18 of a record before 17 of the next
    record { text = 120 ∷ 44 ∷ 50 ∷ 13 ∷ 10 ∷ 34 ∷ []; number = 18 }
    ∷  -- 17 of a record before 18 of the next
    record { text = 51 ∷ 44 ∷ 50 ∷ 10 ∷ 13 ∷ 10 ∷ 120 ∷ []; number = 17 }
    ∷  -- 18 of the second before 2
    record { text = 48 ∷ 44 ∷ 50 ∷ 13 ∷ 10 ∷ 120 ∷ 44 ∷ 49 ∷ 44 ∷ 49 ∷ 44 ∷ []; number = 18 }
    ∷  -- 17 of the second before 2
    record { text = 48 ∷ 44 ∷ 50 ∷ 13 ∷ 10 ∷ 34 ∷ []; number = 17 }
    ∷  -- n 0
    record { text = 48 ∷ 44 ∷ 50 ∷ []; number = 2 }
    ∷  -- n 257
    record { text = 50 ∷ 53 ∷ 55 ∷ 44 ∷ 50 ∷ []; number = 2 }
    ∷  -- n 65537
    record { text = 54 ∷ 53 ∷ 53 ∷ 51 ∷ 55 ∷ 44 ∷ 50 ∷ []; number = 2 }
    ∷  -- k 0
    record { text = 51 ∷ 44 ∷ 48 ∷ []; number = 2 }
    ∷  -- k 33
    record { text = 51 ∷ 44 ∷ 51 ∷ 51 ∷ []; number = 2 }
    ∷  -- k 257
    record { text = 51 ∷ 44 ∷ 50 ∷ 53 ∷ 55 ∷ []; number = 2 }
    ∷  -- 2 before 6
    record { text = 48 ∷ 44 ∷ 50 ∷ 13 ∷ 10 ∷ 57 ∷ 44 ∷ 57 ∷ 44 ∷ 57 ∷ 57 ∷ 57 ∷ 44 ∷ []; number = 2 }
    ∷  -- type 2
    record { text = 51 ∷ 44 ∷ 50 ∷ 13 ∷ 10 ∷ 50 ∷ 44 ∷ 50 ∷ 44 ∷ 49 ∷ 44 ∷ []; number = 6 }
    ∷  -- type 256
    record { text = 51 ∷ 44 ∷ 50 ∷ 13 ∷ 10 ∷ 50 ∷ 53 ∷ 54 ∷ 44 ∷ 50 ∷ 44 ∷ 49 ∷ 44 ∷ []; number = 6 }
    ∷  -- end 0
    record { text = 51 ∷ 44 ∷ 50 ∷ 13 ∷ 10 ∷ 48 ∷ 44 ∷ 48 ∷ 44 ∷ 49 ∷ 44 ∷ []; number = 7 }
    ∷  -- end 4
    record { text = 51 ∷ 44 ∷ 50 ∷ 13 ∷ 10 ∷ 48 ∷ 44 ∷ 52 ∷ 44 ∷ 49 ∷ 44 ∷ []; number = 7 }
    ∷  -- end 65537
    record { text = 51 ∷ 44 ∷ 50 ∷ 13 ∷ 10 ∷ 48 ∷ 44 ∷ 54 ∷ 53 ∷ 53 ∷ 51 ∷ 55 ∷ 44 ∷ 49 ∷ 44 ∷ []; number = 7 }
    ∷  -- lower 257
    record { text = 51 ∷ 44 ∷ 50 ∷ 13 ∷ 10 ∷ 48 ∷ 44 ∷ 50 ∷ 44 ∷ 50 ∷ 53 ∷ 55 ∷ 44 ∷ []; number = 8 }
    ∷  -- lower 65536
    record { text = 51 ∷ 44 ∷ 50 ∷ 13 ∷ 10 ∷ 48 ∷ 44 ∷ 50 ∷ 44 ∷ 54 ∷ 53 ∷ 53 ∷ 51 ∷ 54 ∷ 44 ∷ []; number = 8 }
    ∷  -- upper 257
    record { text = 51 ∷ 44 ∷ 50 ∷ 13 ∷ 10 ∷ 48 ∷ 44 ∷ 50 ∷ 44 ∷ 48 ∷ 44 ∷ 50 ∷ 53 ∷ 55 ∷ []; number = 8 }
    ∷  -- upper 65534
    record { text = 51 ∷ 44 ∷ 50 ∷ 13 ∷ 10 ∷ 48 ∷ 44 ∷ 50 ∷ 44 ∷ 48 ∷ 44 ∷ 54 ∷ 53 ∷ 53 ∷ 51 ∷ 52 ∷ []; number = 8 }
    ∷  -- upper 65536
    record { text = 51 ∷ 44 ∷ 50 ∷ 13 ∷ 10 ∷ 48 ∷ 44 ∷ 50 ∷ 44 ∷ 48 ∷ 44 ∷ 54 ∷ 53 ∷ 53 ∷ 51 ∷ 54 ∷ []; number = 8 }
    ∷  -- upper 99999
    record { text = 51 ∷ 44 ∷ 50 ∷ 13 ∷ 10 ∷ 48 ∷ 44 ∷ 50 ∷ 44 ∷ 48 ∷ 44 ∷ 57 ∷ 57 ∷ 57 ∷ 57 ∷ 57 ∷ []; number = 8 }
    ∷  -- 6 before 7
    record { text = 51 ∷ 44 ∷ 50 ∷ 13 ∷ 10 ∷ 57 ∷ 44 ∷ 57 ∷ 44 ∷ 49 ∷ 44 ∷ []; number = 6 }
    ∷  -- 7 before 8
    record { text = 51 ∷ 44 ∷ 50 ∷ 13 ∷ 10 ∷ 48 ∷ 44 ∷ 57 ∷ 44 ∷ 57 ∷ 57 ∷ 57 ∷ 44 ∷ []; number = 7 }
    ∷  -- row by row
    record { text = 51 ∷ 44 ∷ 50 ∷ 13 ∷ 10 ∷ 48 ∷ 44 ∷ 50 ∷ 44 ∷ 57 ∷ 57 ∷ 57 ∷ 44 ∷ 13 ∷ 10 ∷ 57 ∷ 44 ∷ 50 ∷ 44 ∷ 48 ∷ 44 ∷ []; number = 8 }
    ∷  -- x,2 LF
    record { text = 120 ∷ 44 ∷ 50 ∷ 10 ∷ []; number = 17 }
    ∷  -- end 65537
    record { text = 51 ∷ 44 ∷ 50 ∷ 13 ∷ 10 ∷ 48 ∷ 44 ∷ 54 ∷ 53 ∷ 53 ∷ 51 ∷ 55 ∷ 44 ∷ 48 ∷ 44 ∷ []; number = 7 }
    ∷  -- upper 65536
    record { text = 51 ∷ 44 ∷ 50 ∷ 13 ∷ 10 ∷ 48 ∷ 44 ∷ 49 ∷ 44 ∷ 48 ∷ 44 ∷ 54 ∷ 53 ∷ 53 ∷ 51 ∷ 54 ∷ []; number = 8 }
    ∷  -- tab
    record { text = 49 ∷ 9 ∷ 44 ∷ 49 ∷ []; number = 18 }
    ∷  -- empty quoted upper
    record { text = 51 ∷ 44 ∷ 50 ∷ 13 ∷ 10 ∷ 48 ∷ 44 ∷ 49 ∷ 44 ∷ 48 ∷ 44 ∷ 34 ∷ 34 ∷ []; number = 0 }
    ∷  -- two faults: row 2 quote after a range fault
    record { text = 51 ∷ 48 ∷ 48 ∷ 44 ∷ 50 ∷ 13 ∷ 10 ∷ 48 ∷ 44 ∷ 49 ∷ 44 ∷ 48 ∷ 44 ∷ 13 ∷ 10 ∷ 34 ∷ []; number = 17 }
    ∷  -- type k
    record { text = 51 ∷ 44 ∷ 50 ∷ 13 ∷ 10 ∷ 50 ∷ 44 ∷ 49 ∷ 44 ∷ 48 ∷ 44 ∷ []; number = 6 }
    ∷  -- 256 slots need 1,036 bytes
    record { text = 50 ∷ 53 ∷ 54 ∷ 44 ∷ 49 ∷ []; number = 9 }
    ∷  -- 47 slots fill the 200 bytes
    record { text = 52 ∷ 55 ∷ 44 ∷ 49 ∷ []; number = 0 }
    ∷  -- 8 before 9
    record { text = 50 ∷ 53 ∷ 54 ∷ 44 ∷ 49 ∷ 13 ∷ 10 ∷ 48 ∷ 44 ∷ 49 ∷ 44 ∷ 57 ∷ 57 ∷ 57 ∷ 44 ∷ []; number = 8 }
    ∷ []

abbrev all_right : List Case → Bool
unfolding more ended bare quoted field record_within record_of records_within records bad_fields record_fault records_fault rows_of_all rows_fault records_refusal
    row_fault
all_right [] = true
all_right (c ∷ cs) = eqb (csv_fault limits c.text 200) c.number && all_right cs

every_number_right : all_right cases ≡ true
unfolding more ended bare quoted field record_within record_of records_within records bad_fields record_fault records_fault rows_of_all rows_fault records_refusal
    row_fault
every_number_right = refl

-- a text of two rows, and its book
two_rows :
    book_of
    (51 ∷ 44 ∷ 50 ∷ 13 ∷ 10 ∷ 48 ∷ 44 ∷ 50 ∷ 44 ∷ 49 ∷ 44 ∷ 13 ∷ 10 ∷ 49 ∷ 44 ∷ 34 ∷ 51 ∷ 34 ∷ 44 ∷ 48 ∷ 44 ∷ 48 ∷ 48 ∷ 48 ∷ 48 ∷ 50 ∷ 13 ∷ 10 ∷ [])
    ≡ 3 ∷ 0 ∷ 2 ∷ 0 ∷ 2 ∷ 0 ∷ 12 ∷ 0 ∷ 24 ∷ 0 ∷ 40 ∷ 0 ∷ 3 ∷ 0 ∷ 0 ∷ 0 ∷ 3 ∷ 0 ∷ 0 ∷ 0 ∷ 3 ∷ 0 ∷ 0 ∷ 0
    ∷ 0 ∷ 0 ∷ 2 ∷ 0 ∷ 1 ∷ 0 ∷ 255 ∷ 255 ∷ 1 ∷ 0 ∷ 3 ∷ 0 ∷ 0 ∷ 0 ∷ 2 ∷ 0 ∷ []
unfolding more ended bare quoted field record_within record_of records_within records rows_of_all book_of bytes_of rows_bytes
two_rows = refl
