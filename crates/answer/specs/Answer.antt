-- The number of each refusal, and of each answer of an entry.
--   number_of r    the number of a refusal, 1 to 19
--   word_by f a    the word of an answer whose refusals have the numbers that f gives: 0 for live (of check: a good book), 1 for dead, 256 + that number
--   word_of a      the same for the refusals above
-- Assumes nothing.
use Rattle.std.specs.Prelude.{ℕ, ◌+◌, Result, Ok, Err}
use Rattle.answer.specs.declared.Refusal.{Refusal}
use Rattle.answer.specs.declared.Refusal.TheVariants.{TooShort, OutOfRange, IdleType, Layout, Mask, RowType, RowEnd, RowBound, OutputTooShort, CallList, CallKind, CallSlot, CallType, NoOpenMark, WhileDead, TooManyMarks, Quoting, Field, TooManyRows}
use Rattle.answer.specs.declared.Verdict.{Verdict}
use Rattle.answer.specs.declared.Verdict.TheVariants.{Live, Dead}

abbrev pub number_of : Refusal → ℕ
number_of TooShort = 1
number_of OutOfRange = 2
number_of IdleType = 3
number_of Layout = 4
number_of Mask = 5
number_of RowType = 6
number_of RowEnd = 7
number_of RowBound = 8
number_of OutputTooShort = 9
number_of CallList = 10
number_of CallKind = 11
number_of CallSlot = 12
number_of CallType = 13
number_of NoOpenMark = 14
number_of WhileDead = 15
number_of TooManyMarks = 16
number_of Quoting = 17
number_of Field = 18
number_of TooManyRows = 19

abbrev pub word_by : {R : Type 0} → (R → ℕ) → Result Verdict R → ℕ
word_by number (Ok Live) = 0
word_by number (Ok Dead) = 1
word_by number (Err refusal) = 256 + number refusal

abbrev pub word_of : Result Verdict Refusal → ℕ
word_of answer = word_by number_of answer
