-- When a call is performed.
--   Performing    the slices stand for a state on which no number refuses the call c
-- Assumes nothing.
use Rattle.std.specs.Prelude.{◌≡◌, List, ℕ}
use Rattle.std.proofs.Math.Option.{none}
use Rattle.closing_model.specs.Table.{Table}
use Rattle.session_model.specs.Calls as Calls
use Rattle.session_model.specs.Refusal.{refusal}
use Rattle.session_model.specs.State.{Rules, State}
use Rattle.acts.specs.Represents.{Represents, Running}
use Rattle.acts.specs.declared.Session.{Session}

pub record Performing (masks cells trail heights : List ℕ) (n k : ℕ) (session : Session) (c : Calls.Call) : Type 0 where
  pub running : Running masks cells trail heights n k session
  pub accepted : (T : Table) (R : Rules) (S : State) → Represents T R S masks cells trail heights n k session → refusal R S c ≡ none
