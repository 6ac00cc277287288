-- What the loops of `fix_free` and `strike_free` have passed when they are at the block b, of which the slots in x are left (`Swept`): the start of
-- a block (`swept_first`, `swept_block`), one slot more (`swept_slot`, `swept_cut`), the end (`swept_end`). A slot that is not in the set of open slots is
-- settled (`few_settled`, `closed_settled`). No contract cites this file. Assumes nothing.
use mathlib.Core.Path.{◌≡◌, sym, ◌∙◌}
use mathlib.Core.Bool.{Bool, true, false}
use mathlib.Core.Logic.{dite}
use mathlib.Core.List.{List}
use Prim.Native.Nat.{ℕ, ◌+◌, ◌-◌, ◌*◌, ◌/◌, ◌≤◌, ◌<◌}
use native.Mathlib.Decide.{ℕ_discrete}
use native.Mathlib.Omega.{arith}
use lib.Count.{ones}
use lib.ListN.{get_or}
use lib.Pow.{pow_pos}
use Rattle.domains.specs.Mask.{test_bit, Has, Fixed, clear_bit}
use Rattle.domains.specs.Masks.{Subset}
use Rattle.domains.proofs.MaskLaws.{test_bit_empty, test_bit_clear_bit_other, test_bit_clear_bit_le, test_bit_lt, clear_bit_has, clear_bit_le, ones_clear_bit}
use Rattle.settling_model.proofs.SettledLaws.{lacks_not_has}
use Rattle.filter_model.specs.Cuts.{SlotCut}
use Rattle.filter_model.specs.Mirror.{SettledAt, SettledFrom}
use Rattle.filter_model.specs.Open.{open_bit, OpenSlots, BlockAsked, OpenBlock}
use Rattle.filter_model.specs.State.{World, Pruning}
use Rattle.filter_model.proofs.MirrorLaws.{settled_at_subset}
use Rattle.filter_model.proofs.StoreLaws.{single_has_fixed}

-- ---- the slots of a block that are left
pub record Left (start end b x : ℕ) : Type 0 where
  pub word : x < 4294967296
  pub before : (i : ℕ) → Has x i → 32 * b + i < end
  pub start_in : start < 32 * b + 32

pub left_block : {n k : ℕ} {cells : List ℕ} {start end b x : ℕ} → start < 32 * b + 32 → OpenBlock n k cells b start end x → Left start end b x
left_block start_in block = record { word = block.word; before = block.before; start_in = start_in }

-- one of them is taken
module _ {start end b x : ℕ} (left : Left start end b x) (w : ℕ) (has : Has x w) where
  module _ {y : ℕ} (y_is : y ≡ clear_bit x w) where
    pub left_less : y < x
    left_less = omega (arith, y_is, clear_bit_has x w has, pow_pos w)

    pub left_next : Left start end b y
    left_next =
        rw y_is
        (record {
          word = omega (arith, clear_bit_le x w, left.word);
          before = λ i has_i. left.before i (omega (arith, has_i, test_bit_clear_bit_le x w i, test_bit_lt x i));
          start_in = left.start_in;
        })

-- what the reading of a block needs
pub block_asked : {masks cells trail masks' cells' trail' : List ℕ} {n k top h v end start b : ℕ} → Pruning masks cells trail n k top v end
    → World masks' cells' trail' n k h → start < 32 * b + 32 → BlockAsked cells' n k b start end
block_asked pruning world start_in =
    record {
      rows = world.rows;
      slots_fit = world.slots_fit;
      values_fit = world.values_fit;
      end_in = pruning.end_in;
      start_in = start_in;
    }

-- ---- settled slots
few_settled : (m v : ℕ) → (1 < ones m → ⊥) → Has m v → Fixed m v
few_settled m v few has =
    let one : ones m ≡ 1 = omega (arith, few, ones_clear_bit m v, has) in
    single_has_fixed m v one has

-- no slot from the start on before the end is in the set of open slots
pub closed_settled : {n k : ℕ} {M cells : List ℕ} {v start end : ℕ} → end ≤ n → OpenSlots n k M cells
    → ((s : ℕ) → start ≤ s → s < end → open_bit n k cells s ≡ 0) → SettledFrom M v start end
closed_settled {M = M} {v = v} end≤n opens closed =
    record {
      each = λ s start≤s s<end.
          few_settled (get_or M s 0) v (λ many. omega (arith, opens.each s (omega arith) many, closed s start≤s s<end));
    }

-- a slot that is cut as a met bound asks
cut_settled : (kind : Bool) (M : List ℕ) (v s : ℕ) → SlotCut kind s v M → SettledAt M s v
cut_settled true M v s cut = λ has. cut.fixed
cut_settled false M v s cut = λ has. absurd (lacks_not_has M s v cut.lacks has)

-- ---- Swept
pub record Swept (M : List ℕ) (v start end b x : ℕ) : Type 0 where
  pub each : (s : ℕ) → start ≤ s → s < end → s / 32 ≤ b → (s / 32 ≡ b → test_bit x (s - 32 * b) ≡ 0) → SettledAt M s v

-- a block that was just read, those before it being settled
swept_read : {n k : ℕ} {M cells : List ℕ} {v start end b x : ℕ} → end ≤ n → OpenSlots n k M cells → OpenBlock n k cells b start end x
    → ((s : ℕ) → start ≤ s → s < end → s / 32 < b → SettledAt M s v) → Swept M v start end b x
swept_read {M = M} {v = v} {b = b} end≤n opens block earlier =
    record {
      each = λ s start≤s s<end s_in none.
          dite (ℕ_discrete (s / 32) b)
          (λ here.
          few_settled (get_or M s 0) v
          (λ many. omega (arith, none here, block.each s start≤s s<end here (opens.each s (omega arith) many))))
          (λ other. earlier s start≤s s<end (omega arith));
    }

pub swept_first : {n k : ℕ} {M cells : List ℕ} {v start end b x : ℕ} → b ≡ start / 32 → end ≤ n → OpenSlots n k M cells
    → OpenBlock n k cells b start end x → Swept M v start end b x
swept_first b_is end≤n opens block = swept_read end≤n opens block (λ s start≤s s<end s_before. absurd (omega (arith, b_is)))

pub swept_block : {n k : ℕ} {M cells : List ℕ} {v start end b x y : ℕ} → end ≤ n → OpenSlots n k M cells → x ≡ 0 → Swept M v start end b x
    → OpenBlock n k cells (b + 1) start end y → Swept M v start end (b + 1) y
swept_block {b = b} end≤n opens x≡0 swept block =
    swept_read end≤n opens block
    (λ s start≤s s<end s_before. swept.each s start≤s s<end (omega arith) (λ here. rw x≡0 (test_bit_empty (s - 32 * b))))

-- one slot more
pub swept_slot : {M M' : List ℕ} {v start end b x y s : ℕ} (w : ℕ) → y ≡ clear_bit x w → s ≡ 32 * b + w → Subset M' M → SettledAt M' s v
    → Swept M v start end b x → Swept M' v start end b y
swept_slot {M} {M'} {v} {b = b} {x = x} {s = slot} w y_is slot_is M'⊆M settled swept =
    rw y_is
    (record {
      each = λ s start≤s s<end s_in none.
          dite (ℕ_discrete s slot) (λ same. rw same settled)
          (λ other.
          settled_at_subset M'⊆M s v
          (swept.each s start≤s s<end s_in
          (λ here. sym (test_bit_clear_bit_other x w (s - 32 * b) (λ e. other (omega arith))) ∙ none here)));
    })

pub swept_cut : (kind : Bool) {M M' : List ℕ} {v start end b x y s : ℕ} (w : ℕ) → y ≡ clear_bit x w → s ≡ 32 * b + w → Subset M' M
    → SlotCut kind s v M' → Swept M v start end b x → Swept M' v start end b y
swept_cut kind {M' = M'} {v = v} {s = s} w y_is slot_is M'⊆M cut swept = swept_slot w y_is slot_is M'⊆M (cut_settled kind M' v s cut) swept

pub swept_end : {M : List ℕ} {v start end b x : ℕ} → (end + 31) / 32 ≤ b → Swept M v start end b x → SettledFrom M v start end
swept_end past swept =
    record { each = λ s start≤s s<end. swept.each s start≤s s<end (omega arith) (λ here. absurd (omega arith)) }
