-- What a row of the worked table claims of a book, given by its bytes b: as a test that computes, and as document 01 means it.
--   Side, bound_of           the lowers or the uppers of a table
--   line_of f n v            type v's line: its bounds at the ends 0 to n
--   Claim                   the book closes, with such a line; is dead; settles to such masks; has no plan; has such a plan; a session on it
--                           opens so, says such words and has such last masks
--   limits, most_marks       document 01's limits: 256 slots, 32 types, 1024 rows; 256 open marks
--   open_word                what planrun prints for the opening: 0 live, 1 dead
--   words_said, last_masks    the words of a list of calls, and the masks after it, by the plain machine
--   holds b c               the test, by the models `closed_book` and `settled_book`, the plain machine, `planless` and `plan_of`
--   HasLine, RunsTo         what a line, and what a session, mean
--   Means b c               the claim by meaning: `Loosest`, `NoneClosed`, `SettlesTo`, `BookPlan`, `Demand3`
--   passes, Says            the test and the meaning of a row: its book is good, and the claim holds of it
--   every rows              each row passes
-- `holds_means`, `passes_says` and `every_says` tie the test to the meaning. Assumes nothing.
use Rattle.std.specs.Prelude.{◌≡◌, Bool, true, false, ◌&&◌, List, [], ◌∷◌, ℕ, ◌+◌, eqb}
use Rattle.std.proofs.Math.Option.{Option, none, some, Option-elim}
use Rattle.book.specs.declared.Limits.{Limits}
use Rattle.book.specs.Layout.{slots, values, list_of}
use Rattle.book.specs.Refusal.{refusal, GoodBook}
use Rattle.closing_model.specs.Table.{Table, view, Loosest, NoneClosed}
use Rattle.closing_model.specs.Corners.{line}
use Rattle.closing_model.specs.Closing.{same}
use Rattle.settling_model.specs.Book.{book_start, SettlesTo, closed_book, settled_book, BookPlan}
use Rattle.session_model.specs.Calls.{calls_of}
use Rattle.session_model.specs.State.{words_of}
use Rattle.session_model.specs.BookRun.{state_after, replies_of}
use Rattle.session_model.specs.Demand.{Demand3, DeadOpening}
use Rattle.worked.specs.PlanTest.{plan_of, planless}

pub data Side : Type 0 where
  lowers uppers : Side

abbrev pub bound_of : Side → Table → ℕ → ℕ
bound_of lowers T = T.lower
bound_of uppers T = T.upper

abbrev pub line_of : (ℕ → ℕ) → ℕ → ℕ → List ℕ
line_of f n v = list_of (n + 1) (line f n v)

pub data Claim : Type 0 where
  closes : (side : Side) → (v : ℕ) → (bounds : List ℕ) → Claim
  dead : Claim
  settles : (masks : List ℕ) → Claim
  no_plan : Claim
  has_plan : (plan : List ℕ) → Claim
  session : (calls : List ℕ) → (opening : ℕ) → (words last : List ℕ) → Claim

abbrev pub limits : Limits
limits = record { slots = 256; values = 32; rows = 1024 }

abbrev pub most_marks : ℕ
most_marks = 256

-- ---- a session
abbrev pub open_word : Option (List ℕ) → ℕ
open_word (some M) = 0
open_word none = 1

abbrev pub words_said : List ℕ → List ℕ → List ℕ
words_said b calls = words_of (replies_of b most_marks (calls_of calls))

abbrev pub last_masks : List ℕ → List ℕ → List ℕ
last_masks b calls = (state_after b most_marks (calls_of calls)).masks

-- ---- the test
unfoldable pub holds : List ℕ → Claim → Bool
holds b (closes side v bounds) =
    Option-elim (closed_book b) false (λ T. same (line_of (bound_of side (view T.0 T.1)) (slots b) v) bounds)
holds b dead = Option-elim (closed_book b) true (λ T. false)
holds b (settles M) = Option-elim (settled_book b) false (λ N. same N M)
holds b no_plan = planless b
holds b (has_plan p) = plan_of b p
holds b (session calls opening words last) =
    eqb (open_word (settled_book b)) opening && (same (words_said b calls) words && same (last_masks b calls) last)

-- ---- the meaning
-- type v has this line in the closed table within the starting table with the smallest lowers and largest uppers
pub record HasLine (b : List ℕ) (side : Side) (v : ℕ) (bounds : List ℕ) : Type 0 where
  pub table : Table
  pub loosest : Loosest (slots b) (values b) (book_start b) table
  pub has : line_of (bound_of side table) (slots b) v ≡ bounds

-- the plain machine opens so, says these words and ends with these masks; the claim about the whole list holds of it
pub record RunsTo (b calls : List ℕ) (opening : ℕ) (words last : List ℕ) : Type 0 where
  pub opens : open_word (settled_book b) ≡ opening
  pub says : words_said b calls ≡ words
  pub ends : last_masks b calls ≡ last
  pub live : opening ≡ 0 → Demand3 b most_marks (calls_of calls)
  pub dead : opening ≡ 1 → DeadOpening b most_marks (calls_of calls)

abbrev pub Means : List ℕ → Claim → Type 0
Means b (closes side v bounds) = HasLine b side v bounds
Means b dead = NoneClosed (slots b) (values b) (book_start b)
Means b (settles M) = SettlesTo b M
Means b no_plan = (p : List ℕ) → BookPlan b p → ⊥
Means b (has_plan p) = BookPlan b p
Means b (session calls opening words last) = RunsTo b calls opening words last

-- ---- a row: a book, and what is claimed of it
unfoldable pub passes : List ℕ × Claim → Bool
passes row = eqb (refusal limits row.0) 0 && holds row.0 row.1

unfoldable pub every : List (List ℕ × Claim) → Bool
every [] = true
every (row ∷ rows) = passes row && every rows

abbrev pub Says : List ℕ × Claim → Type 0
Says row = GoodBook limits row.0 × Means row.0 row.1
