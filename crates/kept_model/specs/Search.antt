-- What a search makes of a kept session: it opens a book, and then steps and calls, none of which is refused as a whole.
--   Search b past words at    an opening of b, then lists and single calls that together are past; words are those that they wrote, in order; at is the memory
--   Pieces b bytes words at   the same by lists alone, which put together are bytes
--   front_of b at              the masks of the slots, as a host reads them in the memory
--   SearchMeans b past ..     what a search of any length means: words and masks are the machine's for the whole list; demand 3 of document 01 holds of the
--                             machine and of the engine, or `DeadOpening`; the memory holds the session, which is what a step rests on
--   SearchPlans, SearchPlanless   no plan is lost in a search; a decision answered dead has none
-- `search_means`, `search_plan_at` and `search_dead_no_plan` prove them; `search_is_session` and `Cut-list` say that words and masks are those of one session
-- on the whole list. Assumes nothing.
use Rattle.std.specs.Prelude.{◌≡◌, List, [], ◌∷◌, ◌++◌, ℕ, ◌*◌, ◌/◌, ◌<◌, length, get_or, take}
use Rattle.std.proofs.Math.Option.{none, some}
use Rattle.domains.specs.Masks.{HasAt}
use Rattle.book.specs.Layout.{slots}
use Rattle.settling_model.specs.Book.{settled_book, BookPlan}
use Rattle.session_model.specs.BookRun.{state_after, replies_of, force_after}
use Rattle.session_model.specs.Calls.{Call, decide, calls_of}
use Rattle.session_model.specs.Decisions.{Decision}
use Rattle.session_model.specs.Demand.{At, PlanMeets, Demand3, DeadOpening}
use Rattle.session_model.specs.State.{words_of}
use Rattle.session_fault.specs.Entry.{most_marks}
use Rattle.running_model.specs.EngineDemand.{first_word, EngineDemand3}
use Rattle.kept_model.specs.Entries.{most_calls, OpenEntry, KeptSteps, KeptCalls}
use Rattle.kept_model.specs.Kept.{KeptAt}
use Rattle.kept_model.specs.Memory.{Memory}

pub data Search (b : List ℕ) : List Call → List ℕ → Memory → Type 0 where
  opened : (before : Memory) (answer : ℕ) (at : Memory) → OpenEntry b before answer at → answer < 256 → Search b [] [] at
  stepped : (past : List Call) (words : List ℕ) (before : Memory) → Search b past words before
      → (calls A : List ℕ) (answer : ℕ) (A' : List ℕ) (at : Memory) → KeptSteps calls A before answer A' at → answer < 256
      → Search b (past ++ calls_of calls) (words ++ take (2 * (length calls / 4)) A') at
  called : (past : List Call) (words : List ℕ) (before : Memory) → Search b past words before
      → (c : Call) (first second : ℕ) (at : Memory) → KeptCalls c before first second at → length past < most_calls
      → Search b (past ++ (c ∷ [])) (words ++ (first ∷ second ∷ [])) at

pub data Pieces (b : List ℕ) : List ℕ → List ℕ → Memory → Type 0 where
  begun : (before : Memory) (answer : ℕ) (at : Memory) → OpenEntry b before answer at → answer < 256 → Pieces b [] [] at
  next : (bytes words : List ℕ) (before : Memory) → Pieces b bytes words before
      → (calls A : List ℕ) (answer : ℕ) (A' : List ℕ) (at : Memory) → KeptSteps calls A before answer A' at → answer < 256
      → Pieces b (bytes ++ calls) (words ++ take (2 * (length calls / 4)) A') at

abbrev pub front_of : List ℕ → Memory → List ℕ
front_of b at = take (slots b) at.masks

pub record SearchMeans (b : List ℕ) (past : List Call) (W : List ℕ) (at : Memory) : Type 0 where
  pub kept : KeptAt b past at
  pub words : W ≡ words_of (replies_of b most_marks past)
  pub masks : front_of b at ≡ (state_after b most_marks past).masks
  pub engine : (M : List ℕ) → settled_book b ≡ some M → EngineDemand3 b past most_marks W (front_of b at) at.cells
  pub demand : (M : List ℕ) → settled_book b ≡ some M → Demand3 b most_marks past
  pub opened_dead : settled_book b ≡ none → DeadOpening b most_marks past

-- no plan that meets the decisions in force is lost: each of its types is in the mask that a host reads
abbrev pub SearchPlans : List ℕ → List Call → Memory → Type 0
SearchPlans b past at =
    (p : List ℕ) → BookPlan b p → PlanMeets p (force_after b most_marks past) → (s : ℕ) → s < slots b → HasAt (front_of b at) s (get_or p s 0)

-- no plan meets a decision that was answered dead, its first word 1, and those in force before it
abbrev pub SearchPlanless : List ℕ → List Call → List ℕ → Type 0
SearchPlanless b past W =
    (p : List ℕ) → BookPlan b p → (before rest : List Call) (d : Decision) → At past before (decide d) rest → first_word W before ≡ 1
    → PlanMeets p (d ∷ force_after b most_marks before) → ⊥
