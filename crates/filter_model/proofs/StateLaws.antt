-- The laws of `World`, `Ready` and `Moved` of `specs/State.antt`. No contract cites this file. The ones that matter most: `moved_trans`,
-- `world_moved` (a call leaves what the next one needs), `moved_strike` (one value struck). Assumes nothing.
use mathlib.Core.Path.{◌≡◌, refl, ◌∙◌}
use mathlib.Core.List.{List}
use Prim.Native.Nat.{ℕ, ◌+◌, ◌*◌, ◌<◌}
use native.Mathlib.Omega.{arith}
use lib.ListN.{length, get_or, set}
use Rattle.domains.specs.Mask.{clear_bit}
use Rattle.domains.specs.Masks.{HasAt}
use Rattle.domains.proofs.MasksLaws.{subset_refl, subset_trans, subset_clear_bit, total_clear_bit}
use Rattle.filter_model.specs.Open.{OpenSlots}
use Rattle.filter_model.specs.State.{World, Ready, Moved}
use Rattle.filter_model.specs.Trail.{Trailed}
use Rattle.filter_model.proofs.RowLaws.{row_inside}
use Rattle.filter_model.proofs.StoreLaws.{alive_store}
use Rattle.filter_model.proofs.TrailLaws.{trailed_refl, trailed_trans}

-- ---- Moved
pub moved_refl : (n k : ℕ) (masks cells trail : List ℕ) (h : ℕ) → Moved n k masks cells trail h masks cells trail h
moved_refl n k masks cells trail h =
    record {
      within = subset_refl masks;
      alive = λ alive. alive;
      opens = λ opens. opens;
      cells_length = refl;
      height = refl;
      trailed = trailed_refl n k masks cells trail h;
    }

pub moved_trans : {n k : ℕ} {m₀ c₀ t₀ m₁ c₁ t₁ m₂ c₂ t₂ : List ℕ} {h₀ h₁ h₂ : ℕ} → Moved n k m₀ c₀ t₀ h₀ m₁ c₁ t₁ h₁
    → Moved n k m₁ c₁ t₁ h₁ m₂ c₂ t₂ h₂ → Moved n k m₀ c₀ t₀ h₀ m₂ c₂ t₂ h₂
moved_trans first second =
    record {
      within = subset_trans second.within first.within;
      alive = λ alive. second.alive (first.alive alive);
      opens = λ opens. second.opens (first.opens opens);
      cells_length = second.cells_length ∙ first.cells_length;
      height = second.height ∙ first.height;
      trailed = trailed_trans first.trailed second.trailed;
    }

-- one value struck that was not the slot's last
pub moved_strike : {n k : ℕ} {masks cells cells' trail trail' : List ℕ} {top slot : ℕ} (v : ℕ) → slot < length masks → HasAt masks slot v
    → (clear_bit (get_or masks slot 0) v ≡ 0 → ⊥) → length cells' ≡ length cells
    → (OpenSlots n k masks cells → OpenSlots n k (set masks slot (clear_bit (get_or masks slot 0) v)) cells')
    → Trailed n k masks cells trail top (set masks slot (clear_bit (get_or masks slot 0) v)) cells' trail' (top + 1)
    → Moved n k masks cells trail top (set masks slot (clear_bit (get_or masks slot 0) v)) cells' trail' (top + 1)
moved_strike {masks = masks} {slot = slot} v inside has some size opens trailed =
    record {
      within = subset_clear_bit masks slot v inside;
      alive = alive_store masks slot (clear_bit (get_or masks slot 0) v) inside some;
      opens = opens;
      cells_length = size;
      height = omega (arith, total_clear_bit masks slot v inside, has);
      trailed = trailed;
    }

-- ---- World
-- other cells
pub world_cells : {masks cells cells' trail : List ℕ} {n k top : ℕ} → length cells' ≡ length cells → World masks cells trail n k top
    → World masks cells' trail n k top
world_cells size world =
    record {
      slots = world.slots;
      rows = omega (arith, size, world.rows);
      room = world.room;
      slots_fit = world.slots_fit;
      values_fit = world.values_fit;
      values = world.values;
      alive = world.alive;
    }

pub world_moved : {m₀ c₀ t₀ m₁ c₁ t₁ : List ℕ} {n k h₀ h₁ : ℕ} → World m₀ c₀ t₀ n k h₀ → Moved n k m₀ c₀ t₀ h₀ m₁ c₁ t₁ h₁ → World m₁ c₁ t₁ n k h₁
world_moved world moved =
    record {
      slots = omega (arith, moved.within.len, world.slots);
      rows = omega (arith, moved.cells_length, world.rows);
      room = omega (arith, moved.height, moved.trailed.size, world.room);
      slots_fit = world.slots_fit;
      values_fit = world.values_fit;
      values = λ s w k≤w. omega (arith, moved.within.bits s w, world.values s w k≤w);
      alive = moved.alive world.alive;
    }

-- a row lies within the cells
pub world_row : {masks cells trail : List ℕ} {n k top : ℕ} → World masks cells trail n k top → (r start : ℕ) → r < k + k → start ≡ r * (n + 2)
    → start + n + 1 < length cells
world_row {n = n} {k = k} world r start r<rows start_is = omega (arith, row_inside n (k + k) r r<rows, world.rows, start_is)

-- ---- Ready
module _ {masks cells trail : List ℕ} {n k top slot v : ℕ} (ready : Ready masks cells trail n k top slot v) where
  pub ready_slot : slot < length masks
  ready_slot = omega (arith, ready.slot_in, ready.world.slots)

  pub ready_byte : slot < 256
  ready_byte = omega (arith, ready.slot_in, ready.world.slots_fit)

  pub ready_value : v < 32
  ready_value = omega (arith, ready.value_in, ready.world.values_fit)

  -- a value that is there has room on the trail
  pub ready_room : HasAt masks slot v → 2 * n + 3 * top + 2 < length trail
  ready_room has = omega (arith, ready.world.room, total_clear_bit masks slot v ready_slot, has)
