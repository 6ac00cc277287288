-- The laws of `Represents` of `specs/Represents.antt`: what a live session has (`live_working`), and that the idle byte is one (`represents_idle`). No
-- contract cites this file. Assumes nothing.
use mathlib.Core.Path.{◌≡◌, subst}
use mathlib.Core.List.{List}
use Prim.Native.Nat.{ℕ, ◌<◌}
use native.Mathlib.Omega.{arith}
use Rattle.closing_model.specs.Table.{Table}
use Rattle.session_model.specs.State.{Rules, State}
use Rattle.acts.specs.Represents.{Working, StandsFor, Represents}
use Rattle.acts.specs.declared.Session.{Session}
use Rattle.acts.specs.declared.Standing.{Standing}
use Rattle.acts.specs.declared.Standing.TheVariants.{Live}

module _ {T : Table} {R : Rules} {S : State} {masks cells trail heights : List ℕ} {n k : ℕ} {session : Session}
    (represents : Represents T R S masks cells trail heights n k session) where
  pub live_working : session.standing ≡ Live → Working T R S.saved masks cells trail heights n k session.top
  live_working live =
      subst (λ (standing : Standing). StandsFor standing T R S.saved masks cells trail heights n k session.top) live represents.stands

  pub represents_idle : session.idle < 256
  represents_idle = omega (arith, represents.suits.idle_known, represents.room.values_fit)
