-- The number that refuses a call, by the plain machine.
--   refusal_number   document 01's number of a refusal, 0 for none
--   Refuses ..      r is the number that refuses the call c, or 0, on any machine's state with this flag and so many saved lists
-- Assumes nothing.
use Rattle.std.specs.Prelude.{◌≡◌, Bool, ℕ, length}
use Rattle.std.proofs.Math.Option.{Option, none, some}
use Rattle.session_model.specs.Calls as Calls
use Rattle.session_model.specs.Refusal.{Refusal, number, refusal}
use Rattle.session_model.specs.State.{Rules, State}

abbrev pub refusal_number : Option Refusal → ℕ
refusal_number none = 0
refusal_number (some r) = number r

pub record Refuses (n k limit marks : ℕ) (dead : Bool) (c : Calls.Call) (r : ℕ) : Type 0 where
  pub says : (R : Rules) (S : State) → R.slots ≡ n → R.values ≡ k → R.limit ≡ limit → S.dead ≡ dead → length S.saved ≡ marks
      → r ≡ refusal_number (refusal R S c)
