-- Demand 3 of document 01, about the plain machine of a book's bytes b and one whole list of calls.
--   Refused r      the answer is a refusal
--   At, through    call c stands in the list after these calls and before those; these calls and c
--   answer_to       the answer to the call that stands after these calls
--   PlanMeets p ds   the list p of one value a slot is within each of the decisions ds
--   bounds_of b T   the bounds of a table of the book: stable is meant for those of its closed table
--   Demand3        the claim for a book that opens live; each call in the list is named by the calls before and after it
--   DeadOpening    the claim for a book that opens dead
-- `demand3` and `dead_opening` prove them. Assumes nothing.
use Rattle.std.specs.Prelude.{◌≡◌, ◌↔◌, Bool, true, List, [], ◌∷◌, ◌++◌, ℕ, ◌+◌, ◌≤◌, ◌<◌, length, get_or, replicate}
use Rattle.std.proofs.Math.Option.{some}
use Rattle.book.specs.Layout.{slots, values, idle, masks}
use Rattle.closing_model.specs.Table.{Table, Loosest}
use Rattle.settling_model.specs.Settled.{LacksAt}
use Rattle.settling_model.specs.Plans.{singles}
use Rattle.book.specs.Lists.{All}
use Rattle.settling_model.specs.Stable.{Bound, table_bounds}
use Rattle.settling_model.specs.Book.{book_start}
use Rattle.session_model.specs.Decisions.{Decision, assign, remove, slot_of, value_of, Meets, LargestUnder, UnstableUnder}
use Rattle.session_model.specs.Calls.{Call, decide, mark, back, show, walls, kind_of}
use Rattle.session_model.specs.Walls.{wall_count}
use Rattle.session_model.specs.News.{news_total}
use Rattle.session_model.specs.State.{Reply, live, dead, value, done, refused}
use Rattle.session_model.specs.Refusal.{Refusal, number, refusal}
use Rattle.session_model.specs.Standing.{dead_of}
use Rattle.session_model.specs.BookRun.{rules_of, state_after, reply_of, force_after, marks_after, standing_after}

abbrev pub Refused : Reply → Type 0
Refused (live struck) = ⊥
Refused dead = ⊥
Refused (value x) = ⊥
Refused done = ⊥
Refused (refused number) = Unit {0}

abbrev pub At : List Call → List Call → Call → List Call → Type 0
At calls before c rest = calls ≡ before ++ (c ∷ rest)

abbrev pub through : List Call → Call → List Call
through before c = before ++ (c ∷ [])

abbrev pub answer_to : List ℕ → ℕ → List Call → List Call → Reply
answer_to b limit calls before = reply_of b limit calls (length before)

abbrev pub PlanMeets : List ℕ → List Decision → Type 0
PlanMeets p ds = All (λ d. Meets d (singles p)) ds

abbrev pub bounds_of : List ℕ → Table → List Bound
bounds_of b T = table_bounds (slots b) (values b) T

pub record Demand3 (b : List ℕ) (limit : ℕ) (calls : List Call) : Type 0 where
  -- the book's closed table
  pub table : Table
  pub loosest : Loosest (slots b) (values b) (book_start b) table
  -- the masks after the list: the largest stable list within the book's masks and the decisions then in force
  pub largest : LargestUnder (bounds_of b table) (masks b) (force_after b limit calls) (state_after b limit calls).masks
  -- a decision not refused is dead exactly when no stable list lies within the book's masks, it, and those in force before it
  pub dies : (before rest : List Call) (d : Decision) → At calls before (decide d) rest → (Refused (answer_to b limit calls before) → ⊥)
      → (answer_to b limit calls before ≡ dead)
      ↔ UnstableUnder (bounds_of b table) (masks b) (d ∷ force_after b limit before)
  -- .. and else live; each struck count is the ones in the masks before that call less those after, the idle value left out
  pub lives : (before rest : List Call) (d : Decision) → At calls before (decide d) rest → (Refused (answer_to b limit calls before) → ⊥)
      → (answer_to b limit calls before ≡ dead → ⊥) → (x : ℕ) × (answer_to b limit calls before ≡ live x)
  pub struck : (before rest : List Call) (c : Call) (x : ℕ) → At calls before c rest → answer_to b limit calls before ≡ live x
      → x + news_total (idle b) (state_after b limit (through before c)).masks ≡ news_total (idle b) (state_after b limit before).masks
  -- an assign of an absent value is dead, a remove of one is live with 0 struck
  pub absent_dies : (before rest : List Call) (s v : ℕ) → At calls before (decide (assign s v)) rest
      → (Refused (answer_to b limit calls before) → ⊥) → LacksAt (state_after b limit before).masks s v → answer_to b limit calls before ≡ dead
  pub absent_lives : (before rest : List Call) (s v : ℕ) → At calls before (decide (remove s v)) rest
      → (Refused (answer_to b limit calls before) → ⊥) → LacksAt (state_after b limit before).masks s v → answer_to b limit calls before ≡ live 0
  -- a wall count is the formula's on the masks then standing, and a show their slot
  pub counts : (before rest : List Call) (kind : Bool) (v : ℕ) → At calls before (walls kind v) rest → v < values b
      → answer_to b limit calls before ≡ value (wall_count kind (slots b) table (state_after b limit before).masks v)
  pub shows : (before rest : List Call) (s : ℕ) → At calls before (show s) rest → s < slots b
      → answer_to b limit calls before ≡ value (get_or (state_after b limit before).masks s 0)
  -- a mark or a back not refused is done
  pub marked : (before rest : List Call) → At calls before mark rest → (Refused (answer_to b limit calls before) → ⊥)
      → answer_to b limit calls before ≡ done
  pub restored : (before rest : List Call) → At calls before back rest → (Refused (answer_to b limit calls before) → ⊥)
      → answer_to b limit calls before ≡ done
  -- a call is refused with the first number that applies to it, and only so; a refusal changes none of the three
  pub refuses : (before rest : List Call) (c : Call) (x : ℕ) → At calls before c rest
      → (answer_to b limit calls before ≡ refused x)
      ↔ ((r : Refusal) × (refusal (rules_of b limit) (state_after b limit before) c ≡ some r) × (x ≡ number r))
  pub keeps : (before rest : List Call) (c : Call) → At calls before c rest → Refused (answer_to b limit calls before)
      → state_after b limit (through before c) ≡ state_after b limit before
  -- an answer dead leaves the masks; then nothing changes till a back; the flag is that of the standing
  pub stays : (before rest : List Call) (c : Call) → At calls before c rest → answer_to b limit calls before ≡ dead
      → (state_after b limit (through before c)).masks ≡ (state_after b limit before).masks
  pub waits : (before rest : List Call) (c : Call) → At calls before c rest → (state_after b limit before).dead ≡ true → (kind_of c ≡ 4 → ⊥)
      → state_after b limit (through before c) ≡ state_after b limit before
  pub flag : dead_of (standing_after b limit calls) ≡ (state_after b limit calls).dead
  -- the saved masks: for each mark still open, the largest stable list within the book's masks and the decisions in force at it
  pub marks : length (state_after b limit calls).saved ≡ length (marks_after b limit calls)
  pub saved : (i : ℕ) → i < length (state_after b limit calls).saved
      → LargestUnder (bounds_of b table) (masks b) (get_or (marks_after b limit calls) i []) (get_or (state_after b limit calls).saved i [])

-- a book that opens dead: nothing changes, every decision, mark and back is refused, and what is read is 0
pub record DeadOpening (b : List ℕ) (limit : ℕ) (calls : List Call) : Type 0 where
  pub state : state_after b limit calls ≡ record { masks = replicate (slots b) 0; dead = true; saved = [] }
  pub force : force_after b limit calls ≡ []
  -- a decision: 12 where its slot is out of range, 13 where its value alone is, else 15
  pub slots_out : (before rest : List Call) (d : Decision) → At calls before (decide d) rest → slots b ≤ slot_of d
      → answer_to b limit calls before ≡ refused 12
  pub values_out : (before rest : List Call) (d : Decision) → At calls before (decide d) rest → slot_of d < slots b → values b ≤ value_of d
      → answer_to b limit calls before ≡ refused 13
  pub decisions : (before rest : List Call) (d : Decision) → At calls before (decide d) rest → slot_of d < slots b → value_of d < values b
      → answer_to b limit calls before ≡ refused 15
  pub marks : (before rest : List Call) → At calls before mark rest → answer_to b limit calls before ≡ refused 15
  pub backs : (before rest : List Call) → At calls before back rest → answer_to b limit calls before ≡ refused 14
  pub shows : (before rest : List Call) (s : ℕ) → At calls before (show s) rest → s < slots b → answer_to b limit calls before ≡ value 0
  pub counts : (before rest : List Call) (kind : Bool) (v : ℕ) → At calls before (walls kind v) rest → v < values b
      → answer_to b limit calls before ≡ value 0
  pub refuses : (before rest : List Call) (c : Call) (x : ℕ) → At calls before c rest
      → (answer_to b limit calls before ≡ refused x)
      ↔ ((r : Refusal) × (refusal (rules_of b limit) (state_after b limit before) c ≡ some r) × (x ≡ number r))
