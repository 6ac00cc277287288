-- What the session entry answers and writes (document 01, 'Session' and 'Entries and their numbers'), from the bytes of a book and of a call
-- list, and from the room in its two outputs.
--   most_bytes, most_marks   the longest call list, and how many marks may be open
--   bad_calls length        a list of so many bytes is not whole calls, or too long
--   session_fault           the number that refuses: the book's own, then 10, then 9 where an output is too short; 0 where none does
--   Outcome                refused by a number; or an answer, the words of all calls, and the last masks
--   opened_word settled     0 where the book opens live, 1 where it opens dead
--   session_good            the outcome for a good book and an accepted list, with room: what the plain machine does
--   session_of              the outcome: refused by session_fault, else session_good
--   answer_of, words_in, masks_in   what the entry answers, and what stands in the front of each output: nothing if refused
--   SessionRan             the answer and both outputs are those of an outcome
--   SessionReady, Exactly  what the function below the entry rests on and promises
-- Assumes nothing.
use Rattle.std.specs.Prelude.{◌≡◌, Bool, not, ◌||◌, List, [], ℕ, zero, suc, ◌+◌, ◌*◌, ◌/◌, ◌%◌, ◌≤◌, eqb, ltb, length, Ok}
use Rattle.std.proofs.Math.Option.{Option, none, some}
use Rattle.answer.specs.declared.Verdict.{Verdict}
use Rattle.answer.specs.Answer.{word_of}
use Rattle.book.specs.declared.Limits.{Limits}
use Rattle.book.specs.Layout.{slots}
use Rattle.book.specs.Refusal.{fault, ◌or_else◌, refusal}
use Rattle.closing.specs.Close.{overlay}
use Rattle.settling_model.specs.Book.{settled_book}
use Rattle.settle_fault.specs.Ready.{Ready}
use Rattle.session_model.specs.BookRun.{state_after, replies_of}
use Rattle.session_model.specs.Calls.{Call, calls_of}
use Rattle.session_model.specs.State.{words_of}

abbrev pub most_bytes : ℕ
most_bytes = 16384

abbrev pub most_marks : ℕ
most_marks = 256

abbrev pub bad_calls : ℕ → Bool
bad_calls bytes = not (eqb (bytes % 4) 0) || ltb most_bytes bytes

unfoldable pub session_fault : Limits → List ℕ → ℕ → ℕ → ℕ → ℕ
session_fault limits b bytes words_room masks_room =
    refusal limits b or_else fault 10 (bad_calls bytes) or_else fault 9 (ltb words_room (2 * (bytes / 4)) || ltb masks_room (slots b))

pub data Outcome : Type 0 where
  refused : ℕ → Outcome
  ran : (answer : ℕ) → (words masks : List ℕ) → Outcome

abbrev pub opened_word : Option (List ℕ) → ℕ
opened_word none = 1
opened_word (some M) = 0

unfoldable pub session_good : List ℕ → List Call → Outcome
session_good b calls = ran (opened_word (settled_book b)) (words_of (replies_of b most_marks calls)) (state_after b most_marks calls).masks

abbrev pub unless : ℕ → Outcome → Outcome
unless zero o = o
unless (suc x) o = refused (suc x)

unfoldable pub session_of : Limits → List ℕ → List ℕ → ℕ → ℕ → Outcome
session_of limits b calls words_room masks_room = unless (session_fault limits b (length calls) words_room masks_room) (session_good b (calls_of calls))

abbrev pub answer_of : Outcome → ℕ
answer_of (refused number) = 256 + number
answer_of (ran answer words masks) = answer

abbrev pub words_in : Outcome → List ℕ
words_in (refused number) = []
words_in (ran answer words masks) = words

abbrev pub masks_in : Outcome → List ℕ
masks_in (refused number) = []
masks_in (ran answer words masks) = masks

-- A and M are the outputs as they were lent, A' and M' as they come back; stored says how elements stand in them
pub record SessionRan (stored : List ℕ → List ℕ) (o : Outcome) (answer : ℕ) (A M A' M' : List ℕ) : Type 0 where
  pub answers : answer ≡ answer_of o
  pub words : A' ≡ overlay (stored (words_in o)) A
  pub masks : M' ≡ overlay (stored (masks_in o)) M

pub record SessionReady (b calls answers masks : List ℕ) : Type 0 where
  pub ready : Ready b masks
  pub room : 2 * (length calls / 4) ≤ length answers

-- the masks are just those of the slots
pub record Exactly (b calls : List ℕ) (r : Verdict) (A A' M' : List ℕ) : Type 0 where
  pub answer : word_of (Ok r) ≡ opened_word (settled_book b)
  pub words : A' ≡ overlay (words_of (replies_of b most_marks (calls_of calls))) A
  pub masks : M' ≡ (state_after b most_marks (calls_of calls)).masks
