-- What any call does to the slices and the session, and its two words, by the plain machine.
--   Steps ..      `Answered` of acts holds for the call c, refused or done, whatever state of whatever machine the slices stood for, by whatever table
-- Assumes nothing.
use Rattle.std.specs.Prelude.{List, ℕ}
use Rattle.closing_model.specs.Table.{Table}
use Rattle.session_model.specs.Calls as Calls
use Rattle.session_model.specs.Machine.{step}
use Rattle.session_model.specs.Standing as Model
use Rattle.session_model.specs.State.{Rules, State}
use Rattle.acts.specs.Answers.{Answered}
use Rattle.acts.specs.Given.{standing_of}
use Rattle.acts.specs.Represents.{Represents}
use Rattle.acts.specs.declared.Session.{Session}
use Rattle.acts.specs.declared.Stepped.{Stepped}

pub record Steps (n k i : ℕ) (c : Calls.Call) (session : Session) (masks cells trail heights masks' cells' trail' heights' : List ℕ)
    (r : Stepped) : Type 0 where
  pub does : (T : Table) (R : Rules) (S : State) → Represents T R S masks cells trail heights n k session
      → Answered T R (step R S c) (Model.stand (standing_of session.standing) i c (step R S c).1) masks' cells' trail' heights' n k r
