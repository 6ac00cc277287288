-- What the idle byte of a book changes: the struck counts, and nothing else. It is a setting of the planner's screen and not of the plan (document 02,
-- request two).
--   struckless r       the answer r with its struck count left out; struckless_all: each answer
--   SameButStruck b c limit calls   of the books b and c and a list of calls: the same plans, closed table, settled masks and walls; after the list the same
--                      masks, flag and saved masks, decisions in force and standing; the same answers but for the struck counts, so the same calls are
--                      answered dead, or refused, by the same numbers, and the same masks and walls are told
-- `same_but_struck` proves it of all books that differ in byte 3 alone (`OnlyByte3` of the crate book). Assumes nothing.
use Rattle.std.specs.Prelude.{◌≡◌, ◌↔◌, Bool, List, [], ◌∷◌, ℕ}
use Rattle.book.specs.Layout as Layout
use Rattle.settling_model.specs.Book.{closed_book, settled_book, BookPlan}
use Rattle.session_model.specs.BookRun.{rules_of, state_after, replies_of, force_after, marks_after, standing_after}
use Rattle.session_model.specs.Calls.{Call}
use Rattle.session_model.specs.State.{Reply, live, dead, value, done, refused}

abbrev pub struckless : Reply → Reply
struckless (live struck) = live 0
struckless dead = dead
struckless (value x) = value x
struckless done = done
struckless (refused number) = refused number

unfoldable pub struckless_all : List Reply → List Reply
struckless_all [] = []
struckless_all (r ∷ rs) = struckless r ∷ struckless_all rs

pub record SameButStruck (b c : List ℕ) (limit : ℕ) (calls : List Call) : Type 0 where
  -- the book: its plans, its masks, its closed table and the settled masks
  pub plans : (p : List ℕ) → BookPlan b p ↔ BookPlan c p
  pub given : Layout.masks c ≡ Layout.masks b
  pub closed : closed_book c ≡ closed_book b
  pub settled : settled_book c ≡ settled_book b
  -- the walls of any masks
  pub walls : (kind : Bool) (M : List ℕ) (v : ℕ) → (rules_of c limit).standing kind M v ≡ (rules_of b limit).standing kind M v
  -- the machine after the list, and its answers
  pub state : state_after c limit calls ≡ state_after b limit calls
  pub force : force_after c limit calls ≡ force_after b limit calls
  pub marks : marks_after c limit calls ≡ marks_after b limit calls
  pub standing : standing_after c limit calls ≡ standing_after b limit calls
  pub answers : struckless_all (replies_of c limit calls) ≡ struckless_all (replies_of b limit calls)
