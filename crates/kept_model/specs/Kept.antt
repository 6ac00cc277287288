-- When lent memory holds a session: the one definition on which a step rests.
--   session_at b past top   the session of the book b after the calls past, with the trail's height
--   KeptAt b past at       the memory stands for the machine of the good book b after the calls past: its numbers are those of the session, its masks, as many
--                          as there are slots, the machine's; and unless it opened dead the rest mirrors them by the book's closed table, with the saved
--                          masks on the trail
--   Kept at                so it is for some book and some calls. `search_kept` gives it of whatever opening, steps and calls leave
-- Assumes nothing.
use Rattle.std.specs.Prelude.{◌≡◌, List, ℕ, length, take}
use Rattle.book.specs.Layout.{slots, values, idle}
use Rattle.book.specs.Refusal.{refusal}
use Rattle.session_model.specs.BookRun.{state_after, standing_after}
use Rattle.session_model.specs.Calls.{Call}
use Rattle.session_model.specs.Standing as Model
use Rattle.session_fault.specs.Entry.{most_marks}
use Rattle.entries_model.specs.Entries.{full_limits}
use Rattle.acts.specs.Represents.{Represents}
use Rattle.acts.specs.declared.Session.{Session}
use Rattle.acts.specs.declared.Standing.{Standing}
use Rattle.acts.specs.declared.Standing.TheVariants.{OpenedDead, Live, Dead}
use Rattle.running_model.specs.BookRan.{book_table, opened_rules}
use Rattle.kept_model.specs.Memory.{Memory, Sized, numbers_of}

abbrev pub declared_of : Model.Standing → Standing
declared_of Model.OpenedDead = OpenedDead
declared_of Model.Live = Live
declared_of (Model.Dead call) = Dead call

abbrev pub session_at : List ℕ → List Call → ℕ → Session
session_at b past top =
    record { standing = declared_of (standing_after b most_marks past); top = top; marks = length (state_after b most_marks past).saved; idle = idle b }

pub record KeptAt (b : List ℕ) (past : List Call) (at : Memory) : Type 0 where
  pub good : refusal full_limits b ≡ 0
  pub sized : Sized at
  pub top : ℕ
  pub numbers : at.numbers ≡ numbers_of (slots b) (values b) (length past) (session_at b past top)
  pub represents : Represents (book_table b) (opened_rules b most_marks) (state_after b most_marks past) (take (slots b) at.masks) at.cells at.trail
      at.heights (slots b) (values b) (session_at b past top)

pub record Kept (at : Memory) : Type 0 where
  pub book : List ℕ
  pub past : List Call
  pub kept : KeptAt book past at
