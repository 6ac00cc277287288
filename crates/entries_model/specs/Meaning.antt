-- What close, settle and session, the exported entries with outputs, answer and write, in document 01's words: refused by the number, and each
-- output as it was; dead exactly where no closed table, or no stable list, lies within; live with the loosest closed table, the largest stable list,
-- or a session for which demand 3 holds. (check's answer is `check_answer` of `specs/Entries.antt`.)
--   close_number, settle_number, session_number   the number that refuses, from the bytes and the outputs' lengths; 0 where none does
--   CloseMeans b L U r L' U'     of book b and the outputs L and U as they are lent: r is close's answer, L' and U' the outputs as they come back
--   SettleMeans b M r M'         the same of settle, with one output
--   SessionMeans b calls A M r A' M'   the same of session: A the answers, M the masks
--   session_words, session_masks   the words of all calls and the masks after the list, by the plain machine
--   WithinBounds b L' U' p       the plan p keeps the bounds that a host reads in the outputs
--   WithinMasks b M' p           the plan p has each slot's type in the mask that a host reads in the output
--   SessionPlans b calls M'      no plan that meets the decisions in force after the list is lost
--   DeadPlanless b calls A'      no plan meets a decision that was answered dead and those in force before it
-- `close_means`, `means_close` and so on say that the contracts of the entries have just these meanings; `close_plan_kept`, `settle_plan_kept`,
-- `session_plan_at` and `dead_decision_no_plan` prove the last four. Assumes nothing.
use Rattle.std.specs.Prelude.{◌≡◌, List, [], ◌∷◌, ℕ, suc, ◌+◌, ◌*◌, ◌≤◌, ◌<◌, length, get_or, replicate}
use Rattle.domains.specs.Mask.{Has}
use Rattle.book.specs.Layout.{word16, word32, slots, values}
use Rattle.elements.specs.Elements.{bytes_of, whole}
use Rattle.closing_model.specs.Start.{entries}
use Rattle.closing_model.specs.Table.{view, place, Loosest, NoneClosed}
use Rattle.closing.specs.Close.{close_fault, overlay}
use Rattle.settling_model.specs.Book.{book_start, SettlesTo, DeadBook, BookPlan}
use Rattle.settling_model.specs.Plans.{occurs}
use Rattle.settle_fault.specs.Settle.{settle_fault}
use Rattle.session_model.specs.BookRun.{state_after, replies_of, force_after}
use Rattle.session_model.specs.Calls.{Call, decide, calls_of}
use Rattle.session_model.specs.Decisions.{Decision}
use Rattle.session_model.specs.Demand.{At, PlanMeets, Demand3, DeadOpening}
use Rattle.session_model.specs.Machine.{fresh}
use Rattle.session_model.specs.State.{words_of}
use Rattle.session_fault.specs.Entry.{most_marks, session_fault}
use Rattle.entries_model.specs.Entries.{full_limits}

-- ---- close
abbrev pub close_number : List ℕ → List ℕ → List ℕ → ℕ
close_number b L U = close_fault full_limits b (whole 2 (length L)) (whole 2 (length U))

pub data CloseMeans (b L U : List ℕ) (r : ℕ) (L' U' : List ℕ) : Type 0 where
  refuses : (x : ℕ) → close_number b L U ≡ suc x → r ≡ 256 + suc x → L' ≡ L → U' ≡ U → CloseMeans b L U r L' U'
  -- no closed table lies within the starting table; zeros are written
  dies : close_number b L U ≡ 0 → NoneClosed (slots b) (values b) (book_start b) → r ≡ 1
      → L' ≡ overlay (bytes_of 2 (replicate (entries b) 0)) L → U' ≡ overlay (bytes_of 2 (replicate (entries b) 0)) U → CloseMeans b L U r L' U'
  -- the loosest closed table within the starting table is written
  lives : close_number b L U ≡ 0 → (lowers uppers : List ℕ) → length lowers ≡ entries b → length uppers ≡ entries b
      → Loosest (slots b) (values b) (book_start b) (view lowers uppers) → r ≡ 0
      → L' ≡ overlay (bytes_of 2 lowers) L → U' ≡ overlay (bytes_of 2 uppers) U → CloseMeans b L U r L' U'

-- ---- settle
abbrev pub settle_number : List ℕ → List ℕ → ℕ
settle_number b M = settle_fault full_limits b (whole 4 (length M))

pub data SettleMeans (b M : List ℕ) (r : ℕ) (M' : List ℕ) : Type 0 where
  refuses : (x : ℕ) → settle_number b M ≡ suc x → r ≡ 256 + suc x → M' ≡ M → SettleMeans b M r M'
  -- no closed table, or no stable list; zeros are written
  dies : settle_number b M ≡ 0 → DeadBook b → r ≡ 1 → M' ≡ overlay (bytes_of 4 (replicate (slots b) 0)) M → SettleMeans b M r M'
  -- the largest stable list within the book's masks is written
  lives : settle_number b M ≡ 0 → (masks : List ℕ) → SettlesTo b masks → r ≡ 0 → M' ≡ overlay (bytes_of 4 masks) M → SettleMeans b M r M'

-- ---- session
abbrev pub session_number : List ℕ → List ℕ → List ℕ → List ℕ → ℕ
session_number b calls A M = session_fault full_limits b (length calls) (whole 4 (length A)) (whole 4 (length M))

abbrev pub session_words : List ℕ → List ℕ → List ℕ
session_words b calls = words_of (replies_of b most_marks (calls_of calls))

abbrev pub session_masks : List ℕ → List ℕ → List ℕ
session_masks b calls = (state_after b most_marks (calls_of calls)).masks

pub data SessionMeans (b calls A M : List ℕ) (r : ℕ) (A' M' : List ℕ) : Type 0 where
  refuses : (x : ℕ) → session_number b calls A M ≡ suc x → r ≡ 256 + suc x → A' ≡ A → M' ≡ M → SessionMeans b calls A M r A' M'
  -- it opens dead, since no closed table, or no stable list, lies within: the claim for a dead opening holds of the words
  opens_dead : session_number b calls A M ≡ 0 → DeadBook b → r ≡ 1 → DeadOpening b most_marks (calls_of calls)
      → A' ≡ overlay (bytes_of 4 (session_words b calls)) A → M' ≡ overlay (bytes_of 4 (replicate (slots b) 0)) M → SessionMeans b calls A M r A' M'
  -- it opens live with the largest stable list: demand 3 holds of the words and of the last masks
  opens_live_lem : session_number b calls A M ≡ 0 → (settled : List ℕ) → SettlesTo b settled → state_after b most_marks [] ≡ fresh settled → r ≡ 0
      → Demand3 b most_marks (calls_of calls)
      → A' ≡ overlay (bytes_of 4 (session_words b calls)) A → M' ≡ overlay (bytes_of 4 (session_masks b calls)) M → SessionMeans b calls A M r A' M'

-- ---- plans, of what a host reads in the outputs
abbrev pub WithinBounds : List ℕ → List ℕ → List ℕ → List ℕ → Type 0
WithinBounds b L' U' p =
    (v t : ℕ) → v < values b → t ≤ slots b
    → (word16 L' (2 * place (slots b) v t) ≤ occurs p v t) × (occurs p v t ≤ word16 U' (2 * place (slots b) v t))

abbrev pub WithinMasks : List ℕ → List ℕ → List ℕ → Type 0
WithinMasks b M' p = (s : ℕ) → s < slots b → Has (word32 M' (4 * s)) (get_or p s 0)

abbrev pub SessionPlans : List ℕ → List ℕ → List ℕ → Type 0
SessionPlans b calls M' = (p : List ℕ) → BookPlan b p → PlanMeets p (force_after b most_marks (calls_of calls)) → WithinMasks b M' p

-- answered dead: the first of the call's two words is 1
abbrev pub DeadPlanless : List ℕ → List ℕ → List ℕ → Type 0
DeadPlanless b calls A' =
    (p : List ℕ) → BookPlan b p → (before rest : List Call) (d : Decision) → At (calls_of calls) before (decide d) rest
    → word32 A' (4 * (2 * length before)) ≡ 1 → PlanMeets p (d ∷ force_after b most_marks before) → ⊥
