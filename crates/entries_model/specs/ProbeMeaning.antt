-- What probe answers and writes, in document 02's words: refused by the number, and the output as it was; dead where no closed table, or no stable list, lies
-- within, and then every byte is 1; live, and each byte says whether a stable list lies within the book's masks and that assignment.
--   probe_number b calls D        the number that refuses, from the bytes and the output's length; 0 where none does
--   ProbeMeans b calls D r D'    of book b, the calls and the output D as it is lent: r is probe's answer, D' the output as it comes back
--   ProbePlanless b calls D'     no plan has a pick whose byte in D' is 1
--   ProbeSessions b calls D'     the byte of call i in D' is 1 exactly where session, lent this call alone and answering 0, answers the call dead
-- `probe_means` and `means_probe` say that the contract of the entry has just this meaning; `probe_planless` and `probe_sessions` prove the last two.
-- Assumes nothing.
use Rattle.std.specs.Prelude.{◌≡◌, ◌↔◌, List, ℕ, suc, ◌+◌, ◌*◌, ◌/◌, ◌<◌, length, get_or, take, drop, replicate}
use Rattle.book.specs.Layout.{word32}
use Rattle.closing.specs.Close.{overlay}
use Rattle.settling_model.specs.Book.{SettlesTo, DeadBook, BookPlan}
use Rattle.probe_model.specs.Probe.{call_slot, call_value, probe_fault}
use Rattle.probe_model.specs.Meaning.{ByteMeans}
use Rattle.entries_model.specs.Entries.{full_limits, SessionEntry}

abbrev pub probe_number : List ℕ → List ℕ → List ℕ → ℕ
probe_number b calls D = probe_fault full_limits b calls (length D)

pub data ProbeMeans (b calls D : List ℕ) (r : ℕ) (D' : List ℕ) : Type 0 where
  refuses : (x : ℕ) → probe_number b calls D ≡ suc x → r ≡ 256 + suc x → D' ≡ D → ProbeMeans b calls D r D'
  -- no closed table, or no stable list; every byte is 1
  opens_dead : probe_number b calls D ≡ 0 → DeadBook b → r ≡ 1 → D' ≡ overlay (replicate (length calls / 4) 1) D → ProbeMeans b calls D r D'
  -- a byte a call is written, and each has its meaning
  opens_live_lem : probe_number b calls D ≡ 0 → (settled : List ℕ) → SettlesTo b settled → r ≡ 0 → (bytes : List ℕ) → length bytes ≡ length calls / 4
      → ((i : ℕ) → i < length calls / 4 → ByteMeans b (call_slot calls i) (call_value calls i) (get_or bytes i 0)) → D' ≡ overlay bytes D
      → ProbeMeans b calls D r D'

-- ---- of what a host reads in the output
abbrev pub ProbePlanless : List ℕ → List ℕ → List ℕ → Type 0
ProbePlanless b calls D' =
    (p : List ℕ) → BookPlan b p → (i : ℕ) → i < length calls / 4 → get_or D' i 0 ≡ 1 → get_or p (call_slot calls i) 0 ≡ call_value calls i → ⊥

abbrev pub ProbeSessions : List ℕ → List ℕ → List ℕ → Type 0
ProbeSessions b calls D' =
    (i : ℕ) → i < length calls / 4 → (A M A' M' : List ℕ) → SessionEntry b (take 4 (drop (4 * i) calls)) A M 0 A' M'
    → (get_or D' i 0 ≡ 1) ↔ (word32 A' 0 ≡ 1)
