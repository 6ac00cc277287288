-- What `close` answers and writes (document 01, 'Closing' and 'Entries and their numbers'), from the bytes of a book and from how many
-- elements each of its two outputs has room for.
--   close_fault              the number that refuses: the book's own, then 9 where either output is too short; 0 where none does
--   Outcome                 refused with a number; dead, with so many entries of each output filled; live, with the bounds
--   close_good, outcome_of    the outcome for a good book, with room: what the model `closing` says of the starting table
--   close_of                 the outcome: refused by close_fault, else close_good; unless: refused by a number that is not 0, else the outcome
--   answer_of                what the entry answers: 0 live, 1 dead, 256 + the number of a refusal
--   lowers_of, uppers_of      what stands in the front of each output: nothing if refused, zeros if dead, the bounds if live; written: either
--   overlay xs lent         what was lent, its front replaced by xs: elements past the length written keep their contents
--   Closes                  the answer and both outputs are those of an outcome
-- Assumes nothing.
use Rattle.std.specs.Prelude.{◌≡◌, ◌||◌, List, [], ◌++◌, ℕ, zero, suc, ◌+◌, ltb, length, drop, replicate}
use Rattle.std.proofs.Math.Option.{Option, none, some}
use Rattle.book.specs.declared.Limits.{Limits}
use Rattle.book.specs.Layout.{slots, values, rows}
use Rattle.book.specs.Refusal.{fault, ◌or_else◌, refusal}
use Rattle.closing_model.specs.Closing.{closing}
use Rattle.closing_model.specs.Start.{start_lowers, start_uppers, entries}

unfoldable pub close_fault : Limits → List ℕ → ℕ → ℕ → ℕ
close_fault limits b lowers_room uppers_room =
    refusal limits b or_else fault 9 (ltb lowers_room (entries b) || ltb uppers_room (entries b))

pub data Outcome : Type 0 where
  refused : ℕ → Outcome
  dead : ℕ → Outcome
  live : List ℕ → List ℕ → Outcome

abbrev pub outcome_of : ℕ → Option (List ℕ × List ℕ) → Outcome
outcome_of m none = dead m
outcome_of m (some T) = live T.0 T.1

unfoldable pub close_good : List ℕ → Outcome
close_good b =
    outcome_of (entries b)
    (closing (slots b) (values b) (start_lowers (slots b) (values b) (rows b)) (start_uppers (slots b) (values b) (rows b)))

abbrev pub unless : ℕ → Outcome → Outcome
unless zero o = o
unless (suc x) o = refused (suc x)

unfoldable pub close_of : Limits → List ℕ → ℕ → ℕ → Outcome
close_of limits b lowers_room uppers_room = unless (close_fault limits b lowers_room uppers_room) (close_good b)

abbrev pub answer_of : Outcome → ℕ
answer_of (refused number) = 256 + number
answer_of (dead m) = 1
answer_of (live L U) = 0

abbrev pub written : (List ℕ → List ℕ → List ℕ) → Outcome → List ℕ
written side (refused number) = []
written side (dead m) = replicate m 0
written side (live L U) = side L U

abbrev pub lowers_of : Outcome → List ℕ
lowers_of = written (λ L U. L)

abbrev pub uppers_of : Outcome → List ℕ
uppers_of = written (λ L U. U)

abbrev pub overlay : List ℕ → List ℕ → List ℕ
overlay xs lent = xs ++ drop (length xs) lent

-- L and U are the outputs as they were lent, L' and U' as they come back; stored says how elements stand in them
pub record Closes (stored : List ℕ → List ℕ) (o : Outcome) (answer : ℕ) (L U L' U' : List ℕ) : Type 0 where
  pub answers : answer ≡ answer_of o
  pub lowers : L' ≡ overlay (stored (lowers_of o)) L
  pub uppers : U' ≡ overlay (stored (uppers_of o)) U
