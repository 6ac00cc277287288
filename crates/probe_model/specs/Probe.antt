-- What the probe entry answers and writes (document 02, request four), from the bytes of a book, of a list of assign calls, and of the output as it is lent.
--   kind_in, call_value, call_slot   the kind, the type and the slot of call i, as `call_at` has them
--   dead_byte r             1 for the answer dead, else 0. byte_on: the same where the book opened live, and 1 where it opened dead
--   probe_byte b c          the call's byte: 1 where the plain machine, on the fresh opening of the book, answers the one-call list dead, else 0;
--                          of a book opened dead, 1
--   probe_bytes b calls     the bytes of all calls, in list order
--   call_fault n k ..       the number that refuses one call: 11 where its kind is not 1, 12 where its slot is n or more, 13 where its type is k or more;
--                          0 where none does. call_fault_at: of call i
--   probe_fault             the number that refuses: the book's own, 10 as of a session, that of the first refused call, 9 where there is not a byte a call
--   probe_good b calls D    where no number refuses: 0, or 1 for a book opened dead, and the output as it comes back, the bytes in its front
--   probe limits b calls D   the answer, and the output as it comes back; refused, 256 + the number and the output as it was (unless_refused)
--   Probes                 the answer r and the output D' are these; ProbesGood: where no number refuses
-- Assumes nothing.
use Rattle.std.specs.Prelude.{◌≡◌, not, List, [], ◌∷◌, ℕ, zero, suc, ◌+◌, ◌*◌, ◌/◌, eqb, ltb, leb, length, get_or}
use Rattle.std.proofs.Math.Option.{Option, none, some}
use Rattle.book.specs.declared.Limits.{Limits}
use Rattle.book.specs.Layout.{slots, values, word16, list_of}
use Rattle.book.specs.Refusal.{fault, ◌or_else◌, first_of, refusal}
use Rattle.closing.specs.Close.{overlay}
use Rattle.settling_model.specs.Book.{settled_book}
use Rattle.session_model.specs.Calls.{Call, call_at}
use Rattle.session_model.specs.State.{Reply, live, dead, value, done, refused}
use Rattle.session_model.specs.BookRun.{reply_of}
use Rattle.session_fault.specs.Entry.{most_marks, bad_calls, opened_word}

-- ---- the bytes
abbrev pub dead_byte : Reply → ℕ
dead_byte (live struck) = 0
dead_byte dead = 1
dead_byte (value x) = 0
dead_byte done = 0
dead_byte (refused number) = 0

-- on a book opened dead the machine refuses every decision, so that the byte is said apart
abbrev pub byte_on : Option (List ℕ) → Reply → ℕ
byte_on none r = 1
byte_on (some M) r = dead_byte r

abbrev pub probe_byte : List ℕ → Call → ℕ
probe_byte b c = byte_on (settled_book b) (reply_of b most_marks (c ∷ []) 0)

abbrev pub probe_bytes : List ℕ → List ℕ → List ℕ
probe_bytes b calls = list_of (length calls / 4) (λ i. probe_byte b (call_at calls i))

-- ---- the numbers
abbrev pub kind_in : List ℕ → ℕ → ℕ
kind_in calls i = get_or calls (4 * i) 0

abbrev pub call_value : List ℕ → ℕ → ℕ
call_value calls i = get_or calls (4 * i + 1) 0

abbrev pub call_slot : List ℕ → ℕ → ℕ
call_slot calls i = word16 calls (4 * i + 2)

unfoldable pub call_fault : ℕ → ℕ → ℕ → ℕ → ℕ → ℕ
call_fault n k kind v slot = fault 11 (not (eqb kind 1)) or_else fault 12 (leb n slot) or_else fault 13 (leb k v)

abbrev pub call_fault_at : ℕ → ℕ → List ℕ → ℕ → ℕ
call_fault_at n k calls i = call_fault n k (kind_in calls i) (call_value calls i) (call_slot calls i)

unfoldable pub probe_fault : Limits → List ℕ → List ℕ → ℕ → ℕ
probe_fault limits b calls room =
    refusal limits b
    or_else fault 10 (bad_calls (length calls))
    or_else first_of (length calls / 4) (call_fault_at (slots b) (values b) calls)
    or_else fault 9 (ltb room (length calls / 4))

-- ---- the answer and the output
abbrev pub probe_good : List ℕ → List ℕ → List ℕ → ℕ × List ℕ
probe_good b calls D = (opened_word (settled_book b), overlay (probe_bytes b calls) D)

abbrev pub unless_refused : ℕ → List ℕ → ℕ × List ℕ → ℕ × List ℕ
unless_refused zero D good = good
unless_refused (suc x) D good = (256 + suc x, D)

unfoldable pub probe : Limits → List ℕ → List ℕ → List ℕ → ℕ × List ℕ
probe limits b calls D = unless_refused (probe_fault limits b calls (length D)) D (probe_good b calls D)

abbrev pub Probes : Limits → List ℕ → List ℕ → List ℕ → ℕ → List ℕ → Type 0
Probes limits b calls D r D' = (r, D') ≡ probe limits b calls D

abbrev pub ProbesGood : List ℕ → List ℕ → List ℕ → ℕ → List ℕ → Type 0
ProbesGood b calls D r D' = (r, D') ≡ probe_good b calls D
