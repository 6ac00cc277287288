-- What opening, a step and a call on a kept session answer and leave. No other slice is touched than those named.
--   most_calls             the most calls of a session
--   open_fault b fits      the number that refuses an opening: the book's own, then 9 where a slice has not its size; 0 where none does
--   open_of b fits         the outcome: refused, or live or dead with the masks of the opening
--   OpenEntry             the answer and the memory are those of the outcome; an opened one holds the session after no call, a refused one is as it was
--   OpenReady, OpenedIn    what the opening of a good book in memory of the right sizes rests on, and what it leaves
--   step_fault made bytes room   the number that refuses a list of so many bytes after so many calls: 10, then 9 where there is no room for two words a call
--   taken number calls    the calls that are made: all, or none where a number refuses
--   later_replies b past calls   the answers to calls that come after past: what the whole list is answered, without the answers to past
--   standing_word          0 live, 1 dead
--   step_good              the outcome of an accepted list: how the session stands after it, the words of its calls, and the masks
--   step_of                the outcome: refused by step_fault, else step_good
--   StepEntry             answer, words and memory are those of the outcome; KeptSteps: so it is for whatever book and calls the memory stood for
--   call_fault made        10 after most_calls calls, else 0
--   call_words             the two words of a call, by what refuses it
--   CallEntry             words and memory are those of the call; KeptCalls: so it is for whatever book and calls the memory stood for
-- Assumes nothing.
use Rattle.std.specs.Prelude.{◌≡◌, Bool, true, false, not, ◌||◌, List, [], ◌∷◌, ◌++◌, ℕ, zero, suc, ◌+◌, ◌*◌, ◌/◌, ltb, leb, length, drop}
use Rattle.book.specs.Layout.{slots, values}
use Rattle.book.specs.Refusal.{fault, ◌or_else◌, refusal}
use Rattle.closing.specs.Close.{overlay}
use Rattle.settling_model.specs.Book.{settled_book}
use Rattle.session_model.specs.BookRun.{state_after, replies_of, standing_after}
use Rattle.session_model.specs.Calls.{Call, calls_of}
use Rattle.session_model.specs.Demand.{through, answer_to}
use Rattle.session_model.specs.Standing.{Standing, dead_of}
use Rattle.session_model.specs.State.{Reply, words, words_of}
use Rattle.session_fault.specs.Entry.{most_marks, bad_calls, Outcome, ran, opened_word, unless, answer_of, masks_in, SessionRan}
use Rattle.entries_model.specs.Entries.{full_limits}
use Rattle.settle_fault.specs.Ready.{Ready}
use Rattle.acts.specs.declared.Session.{Session}
use Rattle.running_model.specs.BookRan.{Opens}
use Rattle.kept_model.specs.Memory.{Memory, sized, numbers_of}
use Rattle.kept_model.specs.Kept.{KeptAt}

abbrev pub most_calls : ℕ
most_calls = 9223372036854775808

-- ---- opening
unfoldable pub open_fault : List ℕ → Bool → ℕ
open_fault b fits = refusal full_limits b or_else fault 9 (not fits)

abbrev pub open_of : List ℕ → Bool → Outcome
open_of b fits = unless (open_fault b fits) (ran (opened_word (settled_book b)) [] (state_after b most_marks []).masks)

pub record OpenEntry (b : List ℕ) (before : Memory) (answer : ℕ) (after : Memory) : Type 0 where
  pub answers : answer ≡ answer_of (open_of b (sized before))
  pub masks : after.masks ≡ overlay (masks_in (open_of b (sized before))) before.masks
  pub opened : open_fault b (sized before) ≡ 0 → KeptAt b [] after
  pub untouched : (open_fault b (sized before) ≡ 0 → ⊥) → after ≡ before

-- what the opening of a good book rests on, and what it leaves: M are just the masks of the slots
pub record OpenReady (b M cells trail numbers : List ℕ) : Type 0 where
  pub ready : Ready b M
  pub cells_sized : length cells ≡ 16528
  pub trail_sized : length trail ≡ 25088
  pub numbers_sized : length numbers ≡ 7

pub record OpenedIn (b : List ℕ) (answer : ℕ) (M cells trail numbers : List ℕ) : Type 0 where
  pub answers : answer ≡ opened_word (settled_book b)
  pub session : Session
  pub opens : Opens b M cells trail session
  pub numbers_are : numbers ≡ numbers_of (slots b) (values b) 0 session

-- ---- a step
unfoldable pub step_fault : ℕ → ℕ → ℕ → ℕ
step_fault made bytes room = fault 10 (bad_calls bytes || ltb most_calls (made + bytes / 4)) or_else fault 9 (ltb room (2 * (bytes / 4)))

abbrev pub taken : ℕ → List Call → List Call
taken zero calls = calls
taken (suc x) calls = []

unfoldable pub later_replies : List ℕ → List Call → List Call → List Reply
later_replies b past calls = drop (length past) (replies_of b most_marks (past ++ calls))

abbrev pub dead_word : Bool → ℕ
dead_word true = 1
dead_word false = 0

abbrev pub standing_word : Standing → ℕ
standing_word standing = dead_word (dead_of standing)

abbrev pub step_good : List ℕ → List Call → List Call → Outcome
step_good b past calls =
    ran (standing_word (standing_after b most_marks (past ++ calls))) (words_of (later_replies b past calls)) (state_after b most_marks (past ++ calls)).masks

abbrev pub step_of : List ℕ → List Call → List ℕ → ℕ → Outcome
step_of b past calls room = unless (step_fault (length past) (length calls) room) (step_good b past (calls_of calls))

-- A are the answers as they were lent, A' as they come back
pub record StepEntry (b : List ℕ) (past : List Call) (calls A : List ℕ) (before : Memory) (answer : ℕ) (A' : List ℕ) (after : Memory) : Type 0 where
  pub ran : SessionRan (λ xs. xs) (step_of b past calls (length A)) answer A before.masks A' after.masks
  pub kept : KeptAt b (past ++ taken (step_fault (length past) (length calls) (length A)) (calls_of calls)) after
  pub untouched : (step_fault (length past) (length calls) (length A) ≡ 0 → ⊥) → after ≡ before

pub record KeptSteps (calls A : List ℕ) (before : Memory) (answer : ℕ) (A' : List ℕ) (after : Memory) : Type 0 where
  pub does : (b : List ℕ) (past : List Call) → KeptAt b past before → StepEntry b past calls A before answer A' after

-- ---- a call
unfoldable pub call_fault : ℕ → ℕ
call_fault made = fault 10 (leb most_calls made)

abbrev pub call_words : ℕ → Reply → ℕ × ℕ
call_words zero r = words r
call_words (suc x) r = (256 + suc x, 0)

pub record CallEntry (b : List ℕ) (past : List Call) (c : Call) (before : Memory) (first second : ℕ) (after : Memory) : Type 0 where
  pub words : (first, second) ≡ call_words (call_fault (length past)) (answer_to b most_marks (through past c) past)
  pub masks : after.masks ≡ overlay (state_after b most_marks (past ++ taken (call_fault (length past)) (c ∷ []))).masks before.masks
  pub kept : KeptAt b (past ++ taken (call_fault (length past)) (c ∷ [])) after
  pub untouched : (call_fault (length past) ≡ 0 → ⊥) → after ≡ before

pub record KeptCalls (c : Call) (before : Memory) (first second : ℕ) (after : Memory) : Type 0 where
  pub does : (b : List ℕ) (past : List Call) → KeptAt b past before → CallEntry b past c before first second after
