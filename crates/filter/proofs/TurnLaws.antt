-- The loops of `fix_free` and `strike_free`, for either kind of bound (`FreeInv`): the start (`turn_first`), a block that is done (`turn_block`), and the
-- end (`turn_end`). A turn takes a slot of the block: it is settled already (`turn_settled`), it is cut (`turn_cut`), or that is a dead end
-- (`turn_dead`). What a call at the slot needs is `turn_slot` and `turn_ready`. No contract cites this file. Assumes nothing.
use mathlib.Core.Path.{◌≡◌, refl}
use mathlib.Core.Bool.{Bool, true}
use mathlib.Core.List.{List}
use Prim.Native.Nat.{ℕ, ◌+◌, ◌*◌, ◌/◌, ◌≤◌, ◌<◌}
use native.Mathlib.Omega.{arith}
use lib.ListN.{length}
use Rattle.domains.specs.Mask.{Has, clear_bit}
use Rattle.domains.specs.Masks.{HasAt, FixedAt}
use Rattle.domains.proofs.MasksLaws.{subset_refl}
use Rattle.filter_model.specs.Cuts.{SlotCut, BoundCut}
use Rattle.filter_model.specs.Mirror.{SettledFrom}
use Rattle.filter_model.specs.Open.{BlockAsked, OpenBlock}
use Rattle.filter_model.specs.State.{World, Ready, Pruning}
use Rattle.filter_model.proofs.StateLaws.{world_moved}
use Rattle.outcomes.specs.Codes.{is_dead}
use Rattle.outcomes.specs.declared.Outcome.{Outcome}
use Rattle.outcomes.specs.declared.Outcome.TheVariants.{Live}
use Rattle.filter.specs.Filtered.{Filtered}
use Rattle.filter.proofs.FilteredLaws.{filtered_refl, filtered_more, filtered_stop, filtered_goal}
use Rattle.filter.proofs.LoopLaws.{free_concerned}
use Rattle.filter.proofs.SweepLaws.{Left, left_block, left_less, left_next, block_asked, Swept, swept_first, swept_block, swept_slot, swept_cut, swept_end}

-- all from the start on is settled but what is left: the slots of the word, and those after the block b
pub record FreeInv (kind : Bool) (n k v start end : ℕ) (m₀ c₀ t₀ : List ℕ) (h₀ : ℕ) (m c t : List ℕ) (h b word : ℕ) : Type 0 where
  pub done : Filtered n k (BoundCut kind m₀ v end) (λ M. Swept M v start end b word) m₀ c₀ t₀ h₀ m c t (Live h)
  pub left : Left start end b word

pub turn_first : {kind : Bool} {n k v start end : ℕ} {m c t : List ℕ} {h x : ℕ} → Pruning m c t n k h v end → OpenBlock n k c (start / 32) start end x
    → FreeInv kind n k v start end m c t h m c t h (start / 32) x
turn_first {m = m} {c} {t} {h} pruning block =
    record {
      done = filtered_refl m c t h (swept_first refl pruning.end_in pruning.opens block);
      left = left_block (omega arith) block;
    }

module _ {kind : Bool} {n k v start end : ℕ} {m₀ c₀ t₀ m c t : List ℕ} {h₀ h b word : ℕ} (pruning : Pruning m₀ c₀ t₀ n k h₀ v end)
    (inv : FreeInv kind n k v start end m₀ c₀ t₀ h₀ m c t h b word) where
  pub turn_world : World m c t n k h
  turn_world = world_moved pruning.world inv.done.moved

  pub turn_end : (end + 31) / 32 ≤ b → Filtered n k (BoundCut kind m₀ v end) (λ M. SettledFrom M v start end) m₀ c₀ t₀ h₀ m c t (Live h)
  turn_end past = filtered_goal inv.done (λ live swept. swept_end past swept)

  -- ---- the next block
  pub turn_asked : BlockAsked c n k (b + 1) start end
  turn_asked = block_asked pruning turn_world (omega (arith, inv.left.start_in))

  pub turn_block : word ≡ 0 → {y : ℕ} → OpenBlock n k c (b + 1) start end y → FreeInv kind n k v start end m₀ c₀ t₀ h₀ m c t h (b + 1) y
  turn_block none block =
      record {
        done = filtered_goal inv.done (λ live swept. swept_block pruning.end_in (inv.done.moved.opens pruning.opens) none swept block);
        left = left_block (omega (arith, inv.left.start_in)) block;
      }

  -- ---- a slot of the block
  module _ (w : ℕ) (has : Has word w) where
    turn_before : 32 * b + w < end
    turn_before = inv.left.before w has

    pub turn_slot : 32 * b + w < length m
    turn_slot = omega (arith, turn_before, inv.done.moved.within.len, pruning.end_in, pruning.world.slots)

    pub turn_ready : Ready m c t n k h (32 * b + w) v
    turn_ready =
        record {
          world = turn_world;
          opens = inv.done.moved.opens pruning.opens;
          slot_in = omega (arith, turn_before, pruning.end_in);
          value_in = pruning.value_in;
        }

    module _ {y : ℕ} (y_is : y ≡ clear_bit word w) where
      pub turn_less : y < word
      turn_less = left_less inv.left w has y_is

      pub turn_settled : (HasAt m (32 * b + w) v → FixedAt m (32 * b + w) v) → FreeInv kind n k v start end m₀ c₀ t₀ h₀ m c t h b y
      turn_settled fixed =
          record {
            done = filtered_goal inv.done (λ live swept. swept_slot w y_is refl (subset_refl m) fixed swept);
            left = left_next inv.left w has y_is;
          }

    -- it is free
    module _ (free : HasAt m (32 * b + w) v × (FixedAt m (32 * b + w) v → ⊥)) where
      asks : (N : List ℕ) → BoundCut kind m₀ v end N → SlotCut kind (32 * b + w) v N
      asks N cut = cut.each (32 * b + w) turn_before (free_concerned kind inv.done.moved.within (32 * b + w) v free.0 free.1)

      pub turn_cut : {m' c' t' : List ℕ} {y h' : ℕ} → y ≡ clear_bit word w
          → Filtered n k (SlotCut kind (32 * b + w) v) (SlotCut kind (32 * b + w) v) m c t h m' c' t' (Live h')
          → FreeInv kind n k v start end m₀ c₀ t₀ h₀ m' c' t' h' b y
      turn_cut y_is cut =
          record {
            done = filtered_more inv.done cut asks (λ live swept here. swept_cut kind w y_is refl cut.moved.within here swept);
            left = left_next inv.left w has y_is;
          }

      pub turn_dead : {G : List ℕ → Type 0} {m' c' t' : List ℕ} {r : Outcome} {dead : Bool} → dead ≡ is_dead r → dead ≡ true
          → Filtered n k (SlotCut kind (32 * b + w) v) G m c t h m' c' t' r
          → Filtered n k (BoundCut kind m₀ v end) (λ M. SettledFrom M v start end) m₀ c₀ t₀ h₀ m' c' t' r
      turn_dead dead_is dead cut = filtered_stop dead_is dead inv.done cut asks
