-- `strikes::strike_one` meets its contract: each of its three tests is a law of ContradictionLaws, and each of its two ways to a strike a law of
-- RemovalLaws; the notes fit a byte, and the tags (`low_note`, `low_tag`, `high_note`, `high_tag`), and the slot was open
-- (`was_open`). Assumes nothing.
use mathlib.Core.Path.{refl, sym, ◌∙◌}
use Prim.Native.Nat.{◌+◌, ◌≤◌}
use native.Mathlib.Omega.{arith}
use borrow.Author.Tests.{eqb-true, eqb-false, not-true, not-false}
use Rattle.filter_model.proofs.StateLaws.{world_row, ready_room, ready_byte, ready_value}
use Rattle.filter_model.proofs.ContradictionLaws.{left_in, contradicted_empty, contradicted_low, contradicted_high}
use Rattle.filter_model.proofs.RemovalLaws.{low_note, low_tag, high_note, high_tag, word_in, was_open, removed_plain, removed_single}
use Rattle.strikes.proofs.strike_one.Goals as goal

pub returns-then-m-eq0 : goal.returns-then-m-eq0
returns-then-m-eq0 c =
    let pre = c.requires in
    contradicted_empty pre.0 pre.1 (sym c.without_value-m.ensures ∙ c.if-m-eq0.true)

pub spent-requires : goal.spent-requires
spent-requires c =
    let pre = c.requires in
    let args = c.args in
    world_row pre.0.world args.v _ (omega (arith, pre.0.value_in)) refl

pub returns-then-slot-spent : goal.returns-then-slot-spent
returns-then-slot-spent c =
    let pre = c.requires in
    contradicted_low pre.0 pre.1 _ c.spent.ensures c.if-slot-spent.true

pub fall_row-low-requires : goal.fall_row-low-requires
fall_row-low-requires c =
    let pre = c.requires in
    let args = c.args in
    let ready = pre.0 in (
      omega (arith, ready.slot_in),
      world_row ready.world args.v _ (omega (arith, ready.value_in)) refl,
      omega (arith, ready.world.slots_fit),
    )

pub push-requires : goal.push-requires
push-requires c =
    let fall-row = c.fall_row-low in
    let if2 = c.if-slot-spent in
    let spent = c.spent in
    let if1 = c.if-m-eq0 in
    let without-value = c.without_value-m in
    let pre = c.requires in
    let ready = pre.0 in
    let note = low_note ready pre.1 _ without-value.ensures if1.false spent.ensures if2.false fall-row.ensures.0 in
    let tag = low_tag ready pre.1 _ without-value.ensures if1.false spent.ensures if2.false fall-row.ensures.0 in
    (ready_room ready pre.1, ready_byte ready, ready_value ready, omega (arith, tag), note)

pub returns-then-not-is_single : goal.returns-then-not-is_single
returns-then-not-is_single c =
    let push = c.push in
    let fall-row = c.fall_row-low in
    let store = c.store in
    let if3 = c.if-not-is_single in
    let is-single = c.is_single in
    let if2 = c.if-slot-spent in
    let spent = c.spent in
    let if1 = c.if-m-eq0 in
    let without-value = c.without_value-m in
    let pre = c.requires in
    removed_plain pre.0 pre.1 _ without-value.ensures if1.false spent.ensures if2.false
    fall-row.ensures.0 store.ensures push.ensures
    (eqb-false _ _ (sym is-single.ensures ∙ not-true _ if3.true-raw))

pub single_value-w-requires : goal.single_value-w-requires
single_value-w-requires c = eqb-true _ _ (sym c.is_single.ensures ∙ not-false _ c.if-not-is_single.false-raw)

pub spent-requires-2 : goal.spent-requires-2
spent-requires-2 c =
    let without-value = c.without_value-m in
    let pre = c.requires in
    let args = c.args in
    let ready = pre.0 in
    let left = sym without-value.ensures ∙ c.single_value-w.ensures.1 in
    world_row ready.world (args.k + c.single_value-w.result) _
    (omega (arith, left_in args.slot args.v c.single_value-w.result ready.world left)) refl

pub returns-then-slot-spent-2 : goal.returns-then-slot-spent-2
returns-then-slot-spent-2 c =
    let single-value = c.single_value-w in
    let without-value = c.without_value-m in
    let pre = c.requires in
    contradicted_high pre.0 pre.1 _ _ (sym without-value.ensures ∙ single-value.ensures.1) c.spent-2.ensures
    (omega (arith, c.if-slot-spent-2.true, pre.0.slot_in))

pub fall_row-low-requires-2 : goal.fall_row-low-requires-2
fall_row-low-requires-2 c =
    let pre = c.requires in
    let args = c.args in
    let ready = pre.0 in (
      omega (arith, ready.slot_in),
      world_row ready.world args.v _ (omega (arith, ready.value_in)) refl,
      omega (arith, ready.world.slots_fit),
    )

pub overflow_add-low : goal.overflow_add-low
overflow_add-low c =
    let tag_2 : c.fall_row-low-2.result.tag ≤ 3 =
    let fall-row2 = c.fall_row-low-2 in
    let if2 = c.if-slot-spent in
    let spent = c.spent
    in
    let if1 = c.if-m-eq0 in
    let without-value = c.without_value-m in
    let pre = c.requires in
    low_tag pre.0 pre.1 _ without-value.ensures if1.false spent.ensures if2.false fall-row2.ensures.0 in
    omega (arith, tag_2)

pub push-requires-2 : goal.push-requires-2
push-requires-2 c =
    let tag_2 : c.fall_row-low-2.result.tag ≤ 3 =
    let fall-row2 = c.fall_row-low-2 in
    let if2 = c.if-slot-spent in
    let spent = c.spent
    in
    let if1 = c.if-m-eq0 in
    let without-value = c.without_value-m in
    let pre = c.requires in
    low_tag pre.0 pre.1 _ without-value.ensures if1.false spent.ensures if2.false fall-row2.ensures.0 in
    let fall-row2 = c.fall_row-low-2 in
    let if2 = c.if-slot-spent in
    let spent = c.spent
    in
    let if1 = c.if-m-eq0 in
    let without-value = c.without_value-m in
    let pre = c.requires in
    let ready = pre.0 in
    let note = low_note ready pre.1 _ without-value.ensures if1.false spent.ensures if2.false fall-row2.ensures.0 in
    (ready_room ready pre.1, ready_byte ready, ready_value ready, omega (arith, tag_2), note)

pub overflow_add-k-2 : goal.overflow_add-k-2
overflow_add-k-2 c =
    let single-value = c.single_value-w in
    let pre = c.requires in
    omega (arith, pre.0.world.values_fit, single-value.ensures.0)

pub fall_row-high-requires : goal.fall_row-high-requires
fall_row-high-requires c =
    let fall-row2 = c.fall_row-low-2 in
    let single-value = c.single_value-w in
    let without-value = c.without_value-m in
    let pre = c.requires in
    let args = c.args in
    let ready = pre.0 in
    let left = sym without-value.ensures ∙ single-value.ensures.1 in
    let fits = world_row ready.world (args.k + single-value.result) _
    (omega (arith, left_in args.slot args.v single-value.result ready.world left)) refl in
    (omega (arith, ready.slot_in), omega (arith, fits, fall-row2.ensures.0.size), omega (arith, ready.world.slots_fit))

pub close_slot-requires : goal.close_slot-requires
close_slot-requires c =
    let pre = c.requires in
    let ready = pre.0 in
    let inside = word_in ready pre.1 _ c.without_value-m.ensures c.if-m-eq0.false c.spent.ensures c.if-slot-spent.false c.fall_row-low-2.ensures.0
    c.store-2.ensures c.push-2.ensures _ c.single_value-w.ensures.1 c.spent-2.ensures c.if-slot-spent-2.false c.fall_row-high.ensures.0 in
    let is_open = was_open ready pre.1 _ c.without_value-m.ensures c.if-m-eq0.false c.spent.ensures c.if-slot-spent.false c.fall_row-low-2.ensures.0
    c.store-2.ensures c.push-2.ensures _ c.single_value-w.ensures.1 c.spent-2.ensures c.if-slot-spent-2.false c.fall_row-high.ensures.0 in
    (inside, ready.world.slots_fit, ready.world.values_fit, is_open)

pub note_fixed-requires : goal.note_fixed-requires
note_fixed-requires c =
    let pre = c.requires in
    let ready = pre.0 in
    let note = high_note ready pre.1 _ c.without_value-m.ensures c.if-m-eq0.false c.spent.ensures c.if-slot-spent.false c.fall_row-low-2.ensures.0
    c.store-2.ensures c.push-2.ensures _ c.single_value-w.ensures.1 c.spent-2.ensures c.if-slot-spent-2.false c.fall_row-high.ensures.0 in
    let tag = high_tag ready pre.1 _ c.without_value-m.ensures c.if-m-eq0.false c.spent.ensures c.if-slot-spent.false c.fall_row-low-2.ensures.0
    c.store-2.ensures c.push-2.ensures _ c.single_value-w.ensures.1 c.spent-2.ensures c.if-slot-spent-2.false c.fall_row-high.ensures.0 in
    (ready.slot_in, omega (arith, ready_room ready pre.1, c.push-2.auto.trail), tag, note)

pub returns : goal.returns
returns c =
    let pre = c.requires in
    removed_single pre.0 pre.1 _ c.without_value-m.ensures c.if-m-eq0.false c.spent.ensures c.if-slot-spent.false c.fall_row-low-2.ensures.0
    c.store-2.ensures c.push-2.ensures _ c.single_value-w.ensures.1 c.spent-2.ensures c.if-slot-spent-2.false c.fall_row-high.ensures.0 c.close_slot.ensures
    c.note_fixed.ensures
