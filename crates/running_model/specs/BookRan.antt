-- From a book to a session, and the run of a whole list of calls from the fresh opening: demand 3 of document 01 as one claim.
--   table_of, book_table b   the table of a closing's answer; the book's closed table. Where there is none, an empty table
--   opened_rules b limit, opened_state b limit   the plain machine of the book at its opening
--   opens_live settled    the book opens live
--   Openable             room for the state of a good book
--   Opens b .. r         the slices and the session r stand for the machine at its opening, by the book's closed table
--   BookRunnable         room for a book's run
--   BookRan b calls ..   after the list the slices stand for the machine's last state, by the book's closed table: the masks are the machine's; the
--                        answers are the machine's words; the standing is the machine's; after a live opening demand 3 holds of the engine's answers,
--                        masks and cells (`EngineDemand3`) and of this machine (`Demand3`); and for a book that opens dead `DeadOpening` holds
-- Assumes nothing.
use Rattle.std.specs.Prelude.{◌≡◌, Bool, true, false, List, [], ℕ, ◌*◌, ◌/◌, ◌≤◌, ◌<◌, length}
use Rattle.std.proofs.Math.Option.{Option, none, some}
use Rattle.book.specs.Layout as Layout
use Rattle.closing_model.specs.Table.{Table, view}
use Rattle.closing.specs.Close.{overlay}
use Rattle.settling_model.specs.Book.{closed_book, settled_book}
use Rattle.book_opening.specs.State.{StateRoom}
use Rattle.session_model.specs.BookRun.{rules_of, state_after, replies_of, standing_after}
use Rattle.session_model.specs.Calls.{calls_of}
use Rattle.session_model.specs.Demand.{Demand3, DeadOpening}
use Rattle.session_model.specs.Machine.{opened}
use Rattle.session_model.specs.Standing.{opening}
use Rattle.session_model.specs.State.{Rules, State, words_of}
use Rattle.acts.specs.Given.{standing_of}
use Rattle.acts.specs.Represents.{Represents}
use Rattle.running_model.specs.EngineDemand.{EngineDemand3}
use Rattle.running_model.specs.declared.Ended.{Ended}
use Rattle.acts.specs.declared.Session.{Session}

abbrev pub table_of : Option (List ℕ × List ℕ) → Table
table_of none = view [] []
table_of (some T) = view T.0 T.1

unfoldable pub book_table : List ℕ → Table
book_table b = table_of (closed_book b)

abbrev pub opened_rules : List ℕ → ℕ → Rules
opened_rules b limit = (opened (rules_of b limit) ((rules_of b limit).settle (Layout.masks b))).0

abbrev pub opened_state : List ℕ → ℕ → State
opened_state b limit = (opened (rules_of b limit) ((rules_of b limit).settle (Layout.masks b))).1

abbrev pub opens_live : Option (List ℕ) → Bool
opens_live none = false
opens_live (some M) = true

pub record Openable (b masks cells trail L U : List ℕ) : Type 0 where
  pub state : StateRoom b masks cells trail L U
  pub heights_fit : length trail < 65536

pub record Opens (b masks cells trail : List ℕ) (r : Session) : Type 0 where
  pub represents : (heights : List ℕ) → Represents (book_table b) (opened_rules b (length heights)) (opened_state b (length heights)) masks cells trail
      heights (Layout.slots b) (Layout.values b) r
  pub standing : standing_of r.standing ≡ opening (settled_book b)

pub record BookRunnable (b calls answers masks cells trail L U : List ℕ) : Type 0 where
  pub openable : Openable b masks cells trail L U
  -- two words a call
  pub room : 2 * (length calls / 4) ≤ length answers

pub record BookRan (b calls : List ℕ) (limit : ℕ) (answers answers' masks cells trail heights : List ℕ) (r : Ended) : Type 0 where
  pub live : r.live ≡ opens_live (settled_book b)
  pub represents : Represents (book_table b) (opened_rules b limit) (state_after b limit (calls_of calls)) masks cells trail heights (Layout.slots b)
      (Layout.values b) r.session
  pub masks_are : masks ≡ (state_after b limit (calls_of calls)).masks
  pub words : answers' ≡ overlay (words_of (replies_of b limit (calls_of calls))) answers
  pub standing : standing_of r.session.standing ≡ standing_after b limit (calls_of calls)
  pub engine : (M : List ℕ) → settled_book b ≡ some M → EngineDemand3 b (calls_of calls) limit answers' masks cells
  pub demand : (M : List ℕ) → settled_book b ≡ some M → Demand3 b limit (calls_of calls)
  pub opened_dead : settled_book b ≡ none → DeadOpening b limit (calls_of calls)
