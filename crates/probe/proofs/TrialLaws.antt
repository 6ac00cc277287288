-- The laws of `specs/Trial.antt`: what the filter and the undoing need (`trying_ready`, `tried_undoable`), what one trial gives (`trial_tried`), and a list of
-- them call by call (`Loop`: `loop_start`, `loop_trying`, `loop_next`, `loop_end`). No contract cites this file. Assumes nothing.
use mathlib.Core.Path.{◌≡◌, refl, sym, ap, ◌∙◌, subst}
use mathlib.Core.Bool.{Bool, true, false}
use mathlib.Core.List.{List}
use Prim.Native.Nat.{ℕ, ◌+◌, ◌/◌, ◌≤◌, ◌<◌}
use native.Mathlib.Omega.{arith}
use lib.ListN.{length, set}
use Rattle.closing_model.specs.Table.{Table}
use Rattle.settling_model.specs.Settling.{settling}
use Rattle.settling_model.specs.Stable.{table_bounds}
use Rattle.filling.proofs.FillLaws.{Filled, filled_none, filled_more}
use Rattle.filter_model.specs.State.{World, Ready}
use Rattle.filter_model.specs.Cuts.{FixCut}
use Rattle.filter.specs.Filtered.{Filtered}
use Rattle.outcomes.specs.Codes.{height_of, is_dead}
use Rattle.outcomes.specs.declared.Outcome.{Outcome}
use Rattle.outcomes.specs.declared.Outcome.TheVariants.{Live, Dead}
use Rattle.undoing.specs.Undone.{Undoable, Undone}
use Rattle.undoing.proofs.UndoneLaws.{moved_undoable, moved_undone}
use Rattle.session_model.specs.Decisions.{assign, cut}
use Rattle.deciding.proofs.CutLaws.{cut_live, cut_dead}
use Rattle.probe_model.specs.Probe.{call_slot, call_value}
use Rattle.probe.specs.Trial.{unsettled, Ground, Trying, Tried, byte_of, AllTrying, AllTried}

-- the byte of a trial that is dead, or not
abbrev pub byte_told : Bool → ℕ
byte_told true = 1
byte_told false = 0

module _ {masks cells trail : List ℕ} {n k top slot v : ℕ} (trying : Trying masks cells trail n k top slot v) where
  pub trying_ready : Ready masks cells trail n k top slot v
  trying_ready =
      record { world = trying.world; opens = trying.ground.mirror.opens; slot_in = trying.slot_in; value_in = trying.value_in }

  inside : slot < length masks
  inside = omega (arith, trying.slot_in, trying.size)

  -- what the filter did, Live or Dead, can be taken back, and tells whether the cut masks settle
  module _ {masks' cells' trail' : List ℕ} where
    pub tried_undoable : (r : Outcome) → Filtered n k (FixCut slot v) (FixCut slot v) masks cells trail top masks' cells' trail' r
        → Undoable masks' cells' trail' n k top (height_of r)
    tried_undoable r done = moved_undoable done.moved trying.world

    tried_says : (r : Outcome) → Filtered n k (FixCut slot v) (FixCut slot v) masks cells trail top masks' cells' trail' r
        → (T : Table) → Ground T masks cells n k → byte_told (is_dead r) ≡ unsettled (settling (table_bounds n k T) (cut (assign slot v) masks))
    tried_says (Live h) done T ground = sym (ap unsettled (cut_live ground.closed ground.mirror ground.stable slot v inside true done))
    tried_says (Dead h) done T ground = sym (ap unsettled (cut_dead ground.closed ground.mirror ground.stable slot v inside true done))

    pub trial_tried : {masks'' cells'' : List ℕ} (r : Outcome)
        → Filtered n k (FixCut slot v) (FixCut slot v) masks cells trail top masks' cells' trail' r
        → Undone masks' cells' trail' n k top (height_of r) masks'' cells'' → Tried n k slot v masks cells masks'' cells'' (byte_told (is_dead r))
    trial_tried r done undone =
        record {
          masks_same = (moved_undone done.moved undone).0;
          cells_same = (moved_undone done.moved undone).1;
          says = tried_says r done;
        }

-- ---- the loop: the masks and the cells are those at entry, and the first i bytes are written
pub record Loop (calls dead₀ masks₀ cells₀ trail₀ : List ℕ) (n k i : ℕ) (dead masks cells trail : List ℕ) : Type 0 where
  pub within : i ≤ length calls / 4
  pub masks_same : masks ≡ masks₀
  pub cells_same : cells ≡ cells₀
  pub trail_long : length trail ≡ length trail₀
  pub long : length dead ≡ length dead₀
  pub filled : (T : Table) → Ground T masks₀ cells₀ n k → Filled (byte_of n k T masks₀ calls) dead₀ i dead

pub loop_start : (calls dead masks cells trail : List ℕ) (n k : ℕ) → Loop calls dead masks cells trail n k 0 dead masks cells trail
loop_start calls dead masks cells trail n k =
    record {
      within = omega arith;
      masks_same = refl;
      cells_same = refl;
      trail_long = refl;
      long = refl;
      filled = λ T ground. filled_none (byte_of n k T masks calls) dead;
    }

world_trail : {masks cells trail trail' : List ℕ} {n k top : ℕ} → World masks cells trail n k top → length trail' ≡ length trail
    → World masks cells trail' n k top
world_trail world long =
    record {
      slots = world.slots;
      rows = world.rows;
      room = omega (arith, world.room, long);
      slots_fit = world.slots_fit;
      values_fit = world.values_fit;
      values = world.values;
      alive = world.alive;
    }

module _ {calls dead₀ masks₀ cells₀ trail₀ : List ℕ} {n k top i : ℕ} {dead masks cells trail : List ℕ}
    (all : AllTrying calls dead₀ masks₀ cells₀ trail₀ n k top) (loop : Loop calls dead₀ masks₀ cells₀ trail₀ n k i dead masks cells trail)
    (more : i < length calls / 4) where
  pub loop_trying : Trying masks cells trail n k top (call_slot calls i) (call_value calls i)
  loop_trying =
      rw (loop.masks_same, loop.cells_same)
      (record {
        table = all.table;
        ground = all.ground;
        world = world_trail all.world loop.trail_long;
        size = all.size;
        slot_in = all.slots_in_lem i more;
        value_in = all.values_in i more;
      })

  pub loop_next : {masks' cells' trail' : List ℕ} (r : ℕ) → length trail' ≡ length trail
      → Tried n k (call_slot calls i) (call_value calls i) masks cells masks' cells' r
      → Loop calls dead₀ masks₀ cells₀ trail₀ n k (i + 1) (set dead i r) masks' cells' trail'
  loop_next {masks'} {cells'} r same tried =
      let said : Tried n k (call_slot calls i) (call_value calls i) masks₀ cells₀ masks' cells' r =
      subst (λ (c : List ℕ). Tried n k (call_slot calls i) (call_value calls i) masks₀ c masks' cells' r) loop.cells_same
      (subst (λ (m : List ℕ). Tried n k (call_slot calls i) (call_value calls i) m cells masks' cells' r) loop.masks_same tried) in
      record {
        within = omega (arith, more);
        masks_same = said.masks_same;
        cells_same = said.cells_same;
        trail_long = same ∙ loop.trail_long;
        long = (filled_more (byte_of n k all.table masks₀ calls) r (said.says all.table all.ground)
            (omega (arith, more, all.room)) (loop.filled all.table all.ground)).long;
        filled = λ T ground.
            filled_more (byte_of n k T masks₀ calls) r (said.says T ground) (omega (arith, more, all.room)) (loop.filled T ground);
      }

pub loop_end : {calls dead₀ masks₀ cells₀ trail₀ : List ℕ} {n k i : ℕ} {dead masks cells trail : List ℕ}
    → Loop calls dead₀ masks₀ cells₀ trail₀ n k i dead masks cells trail → i ≡ length calls / 4 → AllTried calls n k masks₀ cells₀ dead₀ dead
loop_end loop last T ground = rw last at (loop.filled T ground).front
