-- What the code knows of a text's orders, against csv_model's `specs/Import.antt`.
--   ordered_fault limits o len   the number 2, 6 to 8 or 9 of the orders o, with an output of len bytes
--   OrdersSay s o       no record of s has a number 17 or 18, and the orders o are what the records say
--   OrdersOf s r        r is the orders of the records of s; or, where one has a number 17 or 18, the first of these
--   OrdersFit s len     every number of the book of s fits its bytes, and the book an output of len bytes
-- Assumes nothing.
use Rattle.std.specs.Prelude.{◌≡◌, List, ℕ, ◌+◌, ◌*◌, ◌≤◌, ltb, length, drop, Result, Ok, Err}
use Rattle.answer.specs.Answer as Answer
use Rattle.answer.specs.declared.Refusal.{Refusal}
use Rattle.book.specs.declared.Limits.{Limits}
use Rattle.book.specs.Lists.{All}
use Rattle.book.specs.Refusal.{fault, ◌or_else◌, beyond, number_of}
use Rattle.book_bytes.specs.BookBytes.{RowFits}
use Rattle.csv_model.specs.Csv.{later, records}
use Rattle.csv_model.specs.Ordered.{rows_fault}
use Rattle.csv_model.specs.Import.{records_fault, rows_of_all, slots_of, values_of, rows_of, book_length_of}
use Rattle.csv_import.specs.declared.Orders.{Orders}

-- 2, the first number of a row, 9
abbrev pub ordered_fault : Limits → Orders → ℕ → ℕ
ordered_fault limits o len =
    fault 2 (beyond limits o.slots o.values o.rows) or_else number_of o.refused or_else fault 9 (ltb len (12 + 4 * o.slots + 8 * o.rows))

pub record OrdersSay (s : List ℕ) (o : Orders) : Type 0 where
  pub whole : records_fault 2 (records s) ≡ 0
  pub inside : o.from ≤ length s
  pub sound : records_fault 4 (later (drop o.from s)) ≡ 0
  pub slots_are : o.slots ≡ slots_of (records s)
  pub values_are : o.values ≡ values_of (records s)
  pub rows_are : rows_of_all (later (drop o.from s)) ≡ rows_of (records s)
  pub count_is : o.rows ≡ length (rows_of (records s))
  pub refused : number_of o.refused ≡ rows_fault (slots_of (records s)) (values_of (records s)) (rows_of (records s))

abbrev pub OrdersOf : List ℕ → Result Orders Refusal → Type 0
OrdersOf s (Ok o) = OrdersSay s o
OrdersOf s (Err refusal) = Answer.number_of refusal ≡ records_fault 2 (records s)

pub record OrdersFit (s : List ℕ) (len : ℕ) : Type 0 where
  pub slots_most : slots_of (records s) ≤ 256
  pub values_most : values_of (records s) ≤ 32
  pub rows_most : length (rows_of (records s)) ≤ 1024
  pub rows_fit : All RowFits (rows_of (records s))
  pub room : book_length_of (records s) ≤ len
