-- What the passes over the later records find.
--   Passed n k rs l     no record of rs has a number 17 or 18, and l is how many they are, and what the tests of their rows say, for n slots and k values
--   LaterOf n k rs r    r is that; or, where a record of rs has a number 17 or 18, the first of these
-- Assumes nothing.
use Rattle.std.specs.Prelude.{◌≡◌, List, ℕ, length, Result, Ok, Err}
use Rattle.answer.specs.Answer as Answer
use Rattle.answer.specs.declared.Refusal.{Refusal}
use Rattle.book.specs.Refusal.{number_of}
use Rattle.csv_model.specs.Csv.{Record}
use Rattle.csv_model.specs.Ordered.{rows_fault}
use Rattle.csv_model.specs.Import.{records_fault, rows_of_all}
use Rattle.csv_import.specs.declared.Later.{Later}

pub record Passed (n k : ℕ) (rs : List Record) (l : Later) : Type 0 where
  pub sound : records_fault 4 rs ≡ 0
  pub rows : l.rows ≡ length rs
  pub refused : number_of l.refused ≡ rows_fault n k (rows_of_all rs)

abbrev pub LaterOf : ℕ → ℕ → List Record → Result Later Refusal → Type 0
LaterOf n k rs (Ok l) = Passed n k rs l
LaterOf n k rs (Err refusal) = Answer.number_of refusal ≡ records_fault 4 rs
