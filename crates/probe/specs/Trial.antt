-- What a trial rests on and promises: an assignment tried on stable masks, and taken back.
--   Ground           stable masks of a closed table, and the cells that mirror them
--   Trying, Tried    what one trial needs; the masks and the cells are as before, and r is whether the masks, cut to v, do not settle
--   unsettled        1 where nothing settles, else 0
--   AllTrying        what the trials of a list of calls need, each in range
--   byte_of           the byte of call i
--   AllTried         the front of the output has the bytes of all calls
-- Assumes nothing.
use Rattle.std.specs.Prelude.{◌≡◌, List, ◌++◌, ℕ, ◌/◌, ◌≤◌, ◌<◌, length, drop}
use Rattle.std.proofs.Math.Option.{Option, none, some}
use Rattle.book.specs.Layout.{list_of}
use Rattle.closing_model.specs.Table.{Table, Closed}
use Rattle.settling_model.specs.Settling.{settling}
use Rattle.settling_model.specs.Stable.{Stable, table_bounds}
use Rattle.filter_model.specs.Mirror.{Mirror}
use Rattle.filter_model.specs.State.{World}
use Rattle.session_model.specs.Decisions.{assign, cut}
use Rattle.probe_model.specs.Probe.{call_slot, call_value}

abbrev pub unsettled : Option (List ℕ) → ℕ
unsettled none = 1
unsettled (some N) = 0

pub record Ground (T : Table) (masks cells : List ℕ) (n k : ℕ) : Type 0 where
  pub closed : Closed n k T
  pub mirror : Mirror n k T masks cells
  pub stable : Stable (table_bounds n k T) masks

pub record Trying (masks cells trail : List ℕ) (n k top slot v : ℕ) : Type 0 where
  pub table : Table
  pub ground : Ground table masks cells n k
  pub world : World masks cells trail n k top
  pub size : length masks ≡ n
  pub slot_in : slot < n
  pub value_in : v < k

pub record Tried (n k slot v : ℕ) (masks cells masks' cells' : List ℕ) (r : ℕ) : Type 0 where
  pub masks_same : masks' ≡ masks
  pub cells_same : cells' ≡ cells
  pub says : (T : Table) → Ground T masks cells n k → r ≡ unsettled (settling (table_bounds n k T) (cut (assign slot v) masks))

abbrev pub byte_of : ℕ → ℕ → Table → List ℕ → List ℕ → ℕ → ℕ
byte_of n k T masks calls i = unsettled (settling (table_bounds n k T) (cut (assign (call_slot calls i) (call_value calls i)) masks))

pub record AllTrying (calls dead masks cells trail : List ℕ) (n k top : ℕ) : Type 0 where
  pub table : Table
  pub ground : Ground table masks cells n k
  pub world : World masks cells trail n k top
  pub size : length masks ≡ n
  pub room : length calls / 4 ≤ length dead
  pub slots_in_lem : (i : ℕ) → i < length calls / 4 → call_slot calls i < n
  pub values_in : (i : ℕ) → i < length calls / 4 → call_value calls i < k

abbrev pub AllTried : List ℕ → ℕ → ℕ → List ℕ → List ℕ → List ℕ → List ℕ → Type 0
AllTried calls n k masks cells dead dead' =
    (T : Table) → Ground T masks cells n k → dead' ≡ list_of (length calls / 4) (byte_of n k T masks calls) ++ drop (length calls / 4) dead
