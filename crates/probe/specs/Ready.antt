-- What the functions below the probe entry rest on.
--   ProbeReady    a good book with a mask for each slot, calls that no number refuses, and a byte for each
--   ProbeRoom     the same, and room for the book's state
-- Assumes nothing.
use Rattle.std.specs.Prelude.{◌≡◌, List, ℕ, ◌/◌, ◌≤◌, ◌<◌, length}
use Rattle.book.specs.Layout.{slots, values}
use Rattle.settle_fault.specs.Ready.{Ready}
use Rattle.book_opening.specs.State.{StateRoom}
use Rattle.probe_model.specs.Probe.{call_fault_at}

pub record ProbeReady (b calls dead masks : List ℕ) : Type 0 where
  pub ready : Ready b masks
  pub room : length calls / 4 ≤ length dead
  pub each : (i : ℕ) → i < length calls / 4 → call_fault_at (slots b) (values b) calls i ≡ 0

pub record ProbeRoom (b calls dead masks cells trail L U : List ℕ) : Type 0 where
  pub ready : ProbeReady b calls dead masks
  pub state : StateRoom b masks cells trail L U
