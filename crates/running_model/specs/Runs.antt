-- What the run of a whole list of calls does: the claim of document 01's demand 3 on the engine.
--   RanTo T R out St .. the machine's last state out .0 is represented by the table T, the answers are the words of its replies out .1 and then
--                       what was there, and the standing is St
--   Runs n k made ..    so it is for the list of calls, run from whatever state of whatever machine the slices stood for, by whatever table; the calls are
--                       numbered from made on, as many as were made before
--   Runnable            what that rests on
-- Assumes nothing.
use Rattle.std.specs.Prelude.{◌≡◌, List, ℕ, ◌+◌, ◌*◌, ◌/◌, ◌≤◌, length}
use Rattle.closing_model.specs.Table.{Table}
use Rattle.closing.specs.Close.{overlay}
use Rattle.session_model.specs.Calls.{Call}
use Rattle.session_model.specs.Machine.{runs}
use Rattle.session_model.specs.Standing as Model
use Rattle.session_model.specs.State.{Rules, State, Reply, words_of}
use Rattle.acts.specs.Given.{standing_of}
use Rattle.acts.specs.Represents.{Represents, Running}
use Rattle.acts.specs.declared.Session.{Session}

pub record RanTo (T : Table) (R : Rules) (out : State × List Reply) (St : Model.Standing) (masks cells trail heights : List ℕ) (n k : ℕ)
    (session : Session) (answers answers' : List ℕ) : Type 0 where
  pub represents : Represents T R out.0 masks cells trail heights n k session
  pub words : answers' ≡ overlay (words_of out.1) answers
  pub standing : standing_of session.standing ≡ St

pub record Runs (n k made : ℕ) (calls : List Call) (session : Session) (masks cells trail heights answers : List ℕ) (session' : Session)
    (masks' cells' trail' heights' answers' : List ℕ) : Type 0 where
  pub does : (T : Table) (R : Rules) (S : State) → Represents T R S masks cells trail heights n k session
      → RanTo T R (runs R S calls) (Model.stand_from (standing_of session.standing) made calls (runs R S calls).1) masks' cells' trail' heights' n k
      session' answers answers'

pub record Runnable (calls answers masks cells trail heights : List ℕ) (n k : ℕ) (session : Session) (made : ℕ) : Type 0 where
  pub running : Running masks cells trail heights n k session
  -- two words a call
  pub room : 2 * (length calls / 4) ≤ length answers
  -- the number of a call fits 64 bits
  pub numbers : made + length calls / 4 ≤ 9223372036854775808
