-- Demand 3 of document 01, about the engine: what its answers, masks and cells hold after a whole list of calls, on a book that opens live.
--   EndsAt kind n k v cells t   the cells have a right end of a segment at the prefix t, in the row of the value v and the kind of bound
--   first_word answers before    the first word of the call that comes after these
--   EngineDemand3 b calls ..    the claim, over the book's closed table
-- `BookRan` has it beside the words and the masks that the session entry hands out: there the engine and the entry meet. Assumes nothing.
use Rattle.std.specs.Prelude.{◌≡◌, ◌↔◌, Bool, List, ◌∷◌, ℕ, ◌*◌, ◌≤◌, ◌<◌, length, get_or}
use Rattle.book.specs.Layout as Layout
use Rattle.closing_model.specs.Table.{Table, Loosest}
use Rattle.settling_model.specs.Book.{book_start}
use Rattle.segments_model.specs.Links.{gaps}
use Rattle.filter_model.specs.Mirror.{cells_of}
use Rattle.session_model.specs.BookRun.{force_after}
use Rattle.session_model.specs.Calls.{Call, decide}
use Rattle.session_model.specs.Decisions.{Decision, LargestUnder, UnstableUnder}
use Rattle.session_model.specs.Demand.{At, bounds_of}
use Rattle.session_model.specs.Walls.{Wall}

abbrev pub EndsAt : Bool → ℕ → ℕ → ℕ → List ℕ → ℕ → Type 0
EndsAt kind n k v cells t = 0 < get_or (gaps (cells_of kind n k v cells)) t 0

abbrev pub first_word : List ℕ → List Call → ℕ
first_word answers before = get_or answers (2 * length before) 0

pub record EngineDemand3 (b : List ℕ) (calls : List Call) (limit : ℕ) (answers masks cells : List ℕ) : Type 0 where
  -- the book's closed table
  pub table : Table
  pub loosest : Loosest (Layout.slots b) (Layout.values b) (book_start b) table
  -- the working masks are the largest stable list within the book's masks and the decisions in force
  pub largest : LargestUnder (bounds_of b table) (Layout.masks b) (force_after b limit calls) masks
  -- the walls standing are exactly those of the formula
  pub walls : (kind : Bool) (v t : ℕ) → v < Layout.values b → 0 < t → t ≤ Layout.slots b
      → EndsAt kind (Layout.slots b) (Layout.values b) v cells t ↔ Wall kind (Layout.slots b) table masks v t
  -- a decision not refused (256 and more) was answered dead (1) exactly when no stable list lay within the book's masks, it and those in force
  pub dies : (before rest : List Call) (d : Decision) → At calls before (decide d) rest → first_word answers before < 256
      → (first_word answers before ≡ 1) ↔ UnstableUnder (bounds_of b table) (Layout.masks b) (d ∷ force_after b limit before)
