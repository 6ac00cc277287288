-- The proof of the cycle of calls of `fix`, `fix_free`, `follow`, `strike` and `strike_free`. The measure is four times the values that are left, plus 1 for
-- `fix`, 2 for `fix_free` and `strike_free`, and 3 for `follow`. The invariant of each loop is `Filtered` for what was passed: in `fix` the other values that
-- are struck, and that `rest` is what the slot has besides v (`others_less`); in the two others the slots that are settled (`FreeInv`, whose turns are those
-- of TurnLaws). A strike by `thin` is `thin_quiet` or `thin_followed`; `strike` is `strike_followed`, and `follow` is `follow_both` where both its loops run;
-- a slot of two values is fixed by one strike, `strike_last`. Assumes nothing.
use mathlib.Core.Path.{◌≡◌, refl, sym, ◌∙◌}
use mathlib.Core.Bool.{true}
use mathlib.Core.List.{List}
use Prim.Native.Nat.{ℕ, ◌+◌, ◌*◌, ◌≤◌, ◌<◌}
use native.Mathlib.Omega.{arith}
use lib.Count.{ones}
use lib.ListN.{length, get_or}
use borrow.Author.Tests.{eqb-true, eqb-false, ltb-true, not-true, not-false}
use Rattle.domains.specs.Masks.{HasAt, FixedAt}
use Rattle.filter_model.proofs.StateLaws.{world_moved, ready_slot, ready_value, ready_room}
use Rattle.strikes.proofs.AnswerLaws.{answer_contradicted, answer_removed}
use Rattle.strikes.proofs.LeftLaws.{removed_left}
use Rattle.thinning.proofs.ThinnedLaws.{thinned_clash, thinned_made}
use Rattle.slots.proofs.FreeLaws.{free_no, free_yes}
use Rattle.slots.proofs.OthersLaws.{others_free, others_few, others_some, others_are, others_wide, less_lacks, less_with, others_less}
use Rattle.filter.proofs.FilteredLaws.{filtered_at, filtered_live, filtered_refl, filtered_more, filtered_stop, filtered_goal}
use Rattle.filter.proofs.LoopLaws.{Other, other_of, other_has, other_value, other_cut, other_none, total_less}
use Rattle.filter.proofs.SweepLaws.{block_asked, closed_settled}
use Rattle.filter.proofs.TurnLaws.{turn_first, turn_world, turn_end, turn_asked, turn_block}
use Rattle.filter.proofs.TurnLaws.{turn_slot, turn_ready, turn_less, turn_settled, turn_cut, turn_dead}
use Rattle.filter.proofs.StrikeLaws.{strike_absent, strike_contradicted, strike_last, strike_followed}
use Rattle.filter.proofs.StrikeLaws.{fix_absent, follow_none, follow_high, follow_low, follow_closed, follow_dead, follow_both, thin_quiet, thin_followed}
use Rattle.filter.proofs.+fix_fix_free_follow_strike_strike_free.Goals as goal

pub fix-other_values-rest-requires : goal.fix-other_values-rest-requires
fix-other_values-rest-requires t c =
    let ready = c.requires in
    (ready_slot ready, omega (arith, ready_value ready))

pub fix-loop-w-init : goal.fix-loop-w-init
fix-loop-w-init t c = record { done = filtered_refl _ _ _ _ tt; others = c.other_values-rest.ensures }

pub fix-lowest-w-requires : goal.fix-lowest-w-requires
fix-lowest-w-requires t c =
    let fix_many : 1 < ones c.loop-w.rest =
    omega (arith, c.count.ensures, c.loop-w-test.true) in
    others_some _ _ c.loop-w.invariant.others fix_many

pub fix-less-rest-requires : goal.fix-less-rest-requires
fix-less-rest-requires t c = (omega (arith, c.lowest-w.ensures.0), c.lowest-w.ensures.1.has)

pub fix-with-left-requires : goal.fix-with-left-requires
fix-with-left-requires t c =
    let fix_many : 1 < ones c.loop-w.rest =
    omega (arith, c.count.ensures, c.loop-w-test.true) in
    let ready = c.requires in (
      omega (arith, ready_value ready),
      less_lacks _ _ c.loop-w.invariant.others fix_many _ c.lowest-w.ensures.1.has
          c.less-rest.ensures,
    )

pub fix-thin-low-requires : goal.fix-thin-low-requires
fix-thin-low-requires t c =
    let fix_many : 1 < ones c.loop-w.rest =
    omega (arith, c.count.ensures, c.loop-w-test.true) in
    let fix_other : Other c.loop-w.masks c.args.slot c.args.v c.lowest-w.result =
    other_of _ _ _ _ (others_are _ _ c.loop-w.invariant.others fix_many) c.lowest-w.ensures.1.has in
    let others = c.loop-w.invariant.others in
    let many = fix_many in
    let other = fix_other in
    let lowest = c.lowest-w in
    let less = c.less-rest in
    let pre = c.requires in
    let world = world_moved pre.world c.loop-w.invariant.done.moved in (
      record { world = world; opens = c.loop-w.invariant.done.moved.opens pre.opens; slot_in = pre.slot_in; value_in = other_value other world },
      other_has other,
      others_wide _ _ others many,
      c.with-left.ensures ∙ less_with _ _ others many _ lowest.ensures.1.has less.ensures,
    )

pub fix-dead_at-requires : goal.fix-dead_at-requires
fix-dead_at-requires t c =
    let args = c.args in
    let done = c.loop-w.invariant.done in
    let world = world_moved c.requires.world done.moved in
    let size : length c.loop-w.trail ≡ length args.trail.now = done.moved.trailed.size in
    omega (arith, world.room, size, c.well_formed)

pub fix-returns-then-low : goal.fix-returns-then-low
fix-returns-then-low t c =
    let fix_many : 1 < ones c.loop-w.rest =
    omega (arith, c.count.ensures, c.loop-w-test.true) in
    let fix_other : Other c.loop-w.masks c.args.slot c.args.v c.lowest-w.result =
    other_of _ _ _ _ (others_are _ _ c.loop-w.invariant.others fix_many) c.lowest-w.ensures.1.has in
    let loop = c.loop-w in
    let other = fix_other in
    filtered_at (sym c.dead_at.ensures) (filtered_more loop.invariant.done (strike_contradicted {G = λ (M : List ℕ). Unit {0}} (thinned_clash _ _ _ _ _ loop.h _ _ _ _ _ _ _ c.thin-low.ensures c.if-low.true)) (other_cut other) (λ no. absurd no))

pub fix-overflow_add-h : goal.fix-overflow_add-h
fix-overflow_add-h t c =
    let fix_many : 1 < ones c.loop-w.rest =
    omega (arith, c.count.ensures, c.loop-w-test.true) in
    let fix_other : Other c.loop-w.masks c.args.slot c.args.v c.lowest-w.result =
    other_of _ _ _ _ (others_are _ _ c.loop-w.invariant.others fix_many) c.lowest-w.ensures.1.has in
    let args = c.args in
    let loop = c.loop-w in
    let done = loop.invariant.done in
    let other = fix_other in
    let pre = c.requires in
    let world = world_moved pre.world done.moved in
    let room = ready_room (record { world = world; opens = done.moved.opens pre.opens; slot_in = pre.slot_in; value_in = other_value other world }) (other_has other) in
    let size : length loop.trail ≡ length args.trail.now = done.moved.trailed.size in
    omega (
      arith,
      room,
      size,
      c.well_formed,
    )

pub fix-loop-w-smaller-then-low-eq0 : goal.fix-loop-w-smaller-then-low-eq0
fix-loop-w-smaller-then-low-eq0 t c =
    let loop = c.loop-w in
    let removed = thinned_made _ _ _ _ _ loop.h _ _ _ _ _ _ _ c.thin-low.ensures c.if-low.false in
    omega (arith, removed.moved.height)

pub fix-loop-w-preserved-then-low-eq0 : goal.fix-loop-w-preserved-then-low-eq0
fix-loop-w-preserved-then-low-eq0 t c =
    let fix_many : 1 < ones c.loop-w.rest =
    omega (arith, c.count.ensures, c.loop-w-test.true) in
    let fix_other : Other c.loop-w.masks c.args.slot c.args.v c.lowest-w.result =
    other_of _ _ _ _ (others_are _ _ c.loop-w.invariant.others fix_many) c.lowest-w.ensures.1.has in
    let loop = c.loop-w in
    let other = fix_other in
    let lowest = c.lowest-w in
    let less = c.less-rest in
    let many = fix_many in
    let removed = thinned_made _ _ _ _ _ loop.h _ _ _ _ _ _ _ c.thin-low.ensures c.if-low.false in
    record {
      done = filtered_more loop.invariant.done (thin_quiet removed c.if-low-eq0.true) (other_cut other) (λ live before cut. tt);
      others = others_less _ _ loop.invariant.others many _ lowest.ensures.1.has less.ensures (removed_left removed (other_has other));
    }

pub fix-fix_free-x-requires : goal.fix-fix_free-x-requires
fix-fix_free-x-requires t c =
    let fix_many : 1 < ones c.loop-w.rest =
    omega (arith, c.count.ensures, c.loop-w-test.true) in
    let fix_other : Other c.loop-w.masks c.args.slot c.args.v c.lowest-w.result =
    other_of _ _ _ _ (others_are _ _ c.loop-w.invariant.others fix_many) c.lowest-w.ensures.1.has in
    let loop = c.loop-w in
    let other = fix_other in
    let done = loop.invariant.done in
    let pre = c.requires in
    let world = world_moved pre.world done.moved in
    let removed = thinned_made _ _ _ _ _ loop.h _ _ _ _ _ _ _ c.thin-low.ensures c.if-low.false in (
      omega (arith, removed.moved.height, total_less done.moved.within, c.decreases),
      record { world = world_moved world removed.moved; opens = removed.moved.opens (done.moved.opens pre.opens); end_in = removed.low_in; value_in = other_value other world },
    )

pub fix-returns-then-is_dead : goal.fix-returns-then-is_dead
fix-returns-then-is_dead t c =
    let fix_many : 1 < ones c.loop-w.rest =
    omega (arith, c.count.ensures, c.loop-w-test.true) in
    let fix_other : Other c.loop-w.masks c.args.slot c.args.v c.lowest-w.result =
    other_of _ _ _ _ (others_are _ _ c.loop-w.invariant.others fix_many) c.lowest-w.ensures.1.has in
    let loop = c.loop-w in
    let other = fix_other in
    let removed = thinned_made _ _ _ _ _ loop.h _ _ _ _ _ _ _ c.thin-low.ensures c.if-low.false in
    filtered_stop c.is_dead.ensures c.if-is_dead.true loop.invariant.done (thin_followed removed c.fix_free-x.ensures) (other_cut other)

pub fix-other_values-rest-requires-in-loop-w : goal.fix-other_values-rest-requires-in-loop-w
fix-other_values-rest-requires-in-loop-w t c =
    let loop = c.loop-w in
    let ready = c.requires in
    let removed = thinned_made _ _ _ _ _ loop.h _ _ _ _ _ _ _ c.thin-low.ensures c.if-low.false in (
      omega (
        arith,
        c.fix_free-x.ensures.moved.within.len,
        removed.moved.within.len,
        loop.invariant.done.moved.within.len,
        ready_slot ready,
      ),
      omega (arith, ready_value ready),
    )

pub fix-loop-w-smaller : goal.fix-loop-w-smaller
fix-loop-w-smaller t c =
    let loop = c.loop-w in
    let removed = thinned_made _ _ _ _ _ loop.h _ _ _ _ _ _ _ c.thin-low.ensures c.if-low.false in
    omega (
      arith,
      removed.moved.height,
      total_less c.fix_free-x.ensures.moved.within,
    )

pub fix-loop-w-preserved : goal.fix-loop-w-preserved
fix-loop-w-preserved t c =
    let fix_many : 1 < ones c.loop-w.rest =
    omega (arith, c.count.ensures, c.loop-w-test.true) in
    let fix_other : Other c.loop-w.masks c.args.slot c.args.v c.lowest-w.result =
    other_of _ _ _ _ (others_are _ _ c.loop-w.invariant.others fix_many) c.lowest-w.ensures.1.has in
    let loop = c.loop-w in
    let other = fix_other in
    let removed = thinned_made _ _ _ _ _ loop.h _ _ _ _ _ _ _ c.thin-low.ensures c.if-low.false in
    record {
      done = filtered_more loop.invariant.done (filtered_live c.is_dead.ensures c.if-is_dead.false c.height-h.ensures (thin_followed removed c.fix_free-x.ensures)) (other_cut other) (λ live before cut. tt);
      others = c.other_values-rest-in-loop-w.ensures;
    }

pub fix-lowest-requires : goal.fix-lowest-requires
fix-lowest-requires t c = omega (arith, c.if-rest-ne0.true)

pub fix-strike-requires : goal.fix-strike-requires
fix-strike-requires t c =
    let fix_last_has : HasAt c.loop-w.masks c.args.slot c.args.v =
    c.loop-w.invariant.others.has (omega (arith, c.if-rest-ne0.true)) in
    let fix_last : Other c.loop-w.masks c.args.slot c.args.v c.lowest.result =
    other_of _ _ _ _ (c.loop-w.invariant.others.besides fix_last_has) c.lowest.ensures.1.has in
    let pre = c.requires in
    let done = c.loop-w.invariant.done in
    let world = world_moved pre.world done.moved in (
      omega (arith, total_less done.moved.within, c.decreases),
      record { world = world; opens = done.moved.opens pre.opens; slot_in = pre.slot_in; value_in = other_value fix_last world },
    )

pub fix-returns-then-rest-ne0 : goal.fix-returns-then-rest-ne0
fix-returns-then-rest-ne0 t c =
    let fix_last_has : HasAt c.loop-w.masks c.args.slot c.args.v =
    c.loop-w.invariant.others.has (omega (arith, c.if-rest-ne0.true)) in
    let fix_last : Other c.loop-w.masks c.args.slot c.args.v c.lowest.result =
    other_of _ _ _ _ (c.loop-w.invariant.others.besides fix_last_has) c.lowest.ensures.1.has in
    let inv = c.loop-w.invariant in
    let ready = c.requires in
    let world = world_moved ready.world inv.done.moved in
    let has = fix_last_has in
    let other = fix_last in
    let struck = c.strike.ensures in
    let few : ones c.loop-w.rest ≤ 1 = omega (arith, c.count.ensures, c.loop-w-test.false) in
    let inside : c.args.slot < length c.loop-w.masks = omega (arith, inv.done.moved.within.len, ready_slot ready) in
    filtered_more inv.done (strike_last other has (others_few _ _ inv.others few has) inside world.alive struck) (λ N cut. cut)
    (λ live before fixed. fixed)

pub fix-has_value-requires : goal.fix-has_value-requires
fix-has_value-requires t c =
    let ready = c.requires in
    (omega (arith, c.loop-w.invariant.done.moved.within.len, ready_slot ready), omega (arith, ready_value ready))

pub fix-dead_at-requires-then-not-has_value : goal.fix-dead_at-requires-then-not-has_value
fix-dead_at-requires-then-not-has_value t c =
    let args = c.args in
    let done = c.loop-w.invariant.done in
    let world = world_moved c.requires.world done.moved in
    let size : length c.loop-w.trail ≡ length args.trail.now = done.moved.trailed.size in
    omega (arith, world.room, size, c.well_formed)

pub fix-returns-then-not-has_value : goal.fix-returns-then-not-has_value
fix-returns-then-not-has_value t c =
    filtered_at (sym c.dead_at-then-not-has_value.ensures)
    (filtered_more c.loop-w.invariant.done
    (fix_absent {G = λ (M : List ℕ). Unit {0}} _ _ _ _ _ _ (eqb-false _ _ (sym c.has_value.ensures ∙ not-true _ c.if-not-has_value.true-raw)))
    (λ N cut. cut)
    (λ no. absurd no))

pub fix-live_at-requires : goal.fix-live_at-requires
fix-live_at-requires t c =
    let args = c.args in
    let done = c.loop-w.invariant.done in
    let world = world_moved c.requires.world done.moved in
    let size : length c.loop-w.trail ≡ length args.trail.now = done.moved.trailed.size in
    omega (arith, world.room, size, c.well_formed)

pub fix-returns : goal.fix-returns
fix-returns t c =
    let args = c.args in
    let has = eqb-true _ _ (sym c.has_value.ensures ∙ not-false _ c.if-not-has_value.false-raw) in
    filtered_at (sym c.live_at.ensures)
    (filtered_goal c.loop-w.invariant.done
    (λ live before. other_none c.loop-w.masks args.slot args.v has (c.loop-w.invariant.others.besides has) c.if-rest-ne0.false))

pub fix-shape_of-masks-then-low : goal.fix-shape_of-masks-then-low
fix-shape_of-masks-then-low t c = (fix-returns-then-low t c).moved.within.len

pub fix-shape_of-cells-then-low : goal.fix-shape_of-cells-then-low
fix-shape_of-cells-then-low t c = (fix-returns-then-low t c).moved.cells_length

pub fix-shape_of-trail-then-low : goal.fix-shape_of-trail-then-low
fix-shape_of-trail-then-low t c = (fix-returns-then-low t c).moved.trailed.size

pub fix-shape_of-masks-then-is_dead : goal.fix-shape_of-masks-then-is_dead
fix-shape_of-masks-then-is_dead t c = (fix-returns-then-is_dead t c).moved.within.len

pub fix-shape_of-cells-then-is_dead : goal.fix-shape_of-cells-then-is_dead
fix-shape_of-cells-then-is_dead t c = (fix-returns-then-is_dead t c).moved.cells_length

pub fix-shape_of-trail-then-is_dead : goal.fix-shape_of-trail-then-is_dead
fix-shape_of-trail-then-is_dead t c = (fix-returns-then-is_dead t c).moved.trailed.size

pub fix-shape_of-masks-then-rest-ne0 : goal.fix-shape_of-masks-then-rest-ne0
fix-shape_of-masks-then-rest-ne0 t c = (fix-returns-then-rest-ne0 t c).moved.within.len

pub fix-shape_of-cells-then-rest-ne0 : goal.fix-shape_of-cells-then-rest-ne0
fix-shape_of-cells-then-rest-ne0 t c = (fix-returns-then-rest-ne0 t c).moved.cells_length

pub fix-shape_of-trail-then-rest-ne0 : goal.fix-shape_of-trail-then-rest-ne0
fix-shape_of-trail-then-rest-ne0 t c = (fix-returns-then-rest-ne0 t c).moved.trailed.size

pub fix-shape_of-masks-then-not-has_value : goal.fix-shape_of-masks-then-not-has_value
fix-shape_of-masks-then-not-has_value t c = (fix-returns-then-not-has_value t c).moved.within.len

pub fix-shape_of-cells-then-not-has_value : goal.fix-shape_of-cells-then-not-has_value
fix-shape_of-cells-then-not-has_value t c = (fix-returns-then-not-has_value t c).moved.cells_length

pub fix-shape_of-trail-then-not-has_value : goal.fix-shape_of-trail-then-not-has_value
fix-shape_of-trail-then-not-has_value t c = (fix-returns-then-not-has_value t c).moved.trailed.size

pub fix-shape_of-masks : goal.fix-shape_of-masks
fix-shape_of-masks t c = (fix-returns t c).moved.within.len

pub fix-shape_of-cells : goal.fix-shape_of-cells
fix-shape_of-cells t c = (fix-returns t c).moved.cells_length

pub fix-shape_of-trail : goal.fix-shape_of-trail
fix-shape_of-trail t c = (fix-returns t c).moved.trailed.size

pub fix_free-open_block-word-requires : goal.fix_free-open_block-word-requires
fix_free-open_block-word-requires t c = block_asked c.requires c.requires.world (omega arith)

pub fix_free-loop-b-init : goal.fix_free-loop-b-init
fix_free-loop-b-init t c = turn_first c.requires c.open_block-word.ensures

pub fix_free-overflow_add-end : goal.fix_free-overflow_add-end
fix_free-overflow_add-end t c = omega (arith, c.requires.end_in, c.requires.world.slots_fit)

pub fix_free-overflow_add-b : goal.fix_free-overflow_add-b
fix_free-overflow_add-b t c = omega (arith, c.loop-b-test.true, c.requires.end_in, c.requires.world.slots_fit)

pub fix_free-open_block-word-requires-then-word-eq0 : goal.fix_free-open_block-word-requires-then-word-eq0
fix_free-open_block-word-requires-then-word-eq0 t c = turn_asked c.requires c.loop-b.invariant

pub fix_free-loop-b-smaller-then-word-eq0 : goal.fix_free-loop-b-smaller-then-word-eq0
fix_free-loop-b-smaller-then-word-eq0 t c = omega (arith, c.loop-b-test.true, c.open_block-word-then-word-eq0.ensures.word)

pub fix_free-loop-b-preserved-then-word-eq0 : goal.fix_free-loop-b-preserved-then-word-eq0
fix_free-loop-b-preserved-then-word-eq0 t c = turn_block c.requires c.loop-b.invariant c.if-word-eq0.true c.open_block-word-then-word-eq0.ensures

pub fix_free-lowest-w-requires : goal.fix_free-lowest-w-requires
fix_free-lowest-w-requires t c = omega (arith, c.if-word-eq0.false)

pub fix_free-less-word-requires : goal.fix_free-less-word-requires
fix_free-less-word-requires t c = (c.lowest-w.ensures.0, c.lowest-w.ensures.1.has)

pub fix_free-overflow_mul-s : goal.fix_free-overflow_mul-s
fix_free-overflow_mul-s t c = omega (arith, c.loop-b-test.true, c.requires.end_in, c.requires.world.slots_fit)

pub fix_free-overflow_cast-s : goal.fix_free-overflow_cast-s
fix_free-overflow_cast-s t c = omega (arith, c.lowest-w.ensures.0)

pub fix_free-overflow_add-s : goal.fix_free-overflow_add-s
fix_free-overflow_add-s t c = omega (arith, c.loop-b-test.true, c.lowest-w.ensures.0, c.requires.end_in, c.requires.world.slots_fit)

pub fix_free-other_values-rest-requires : goal.fix_free-other_values-rest-requires
fix_free-other_values-rest-requires t c =
    let pruning = c.requires in (
      turn_slot pruning c.loop-b.invariant c.lowest-w.result c.lowest-w.ensures.1.has,
      omega (arith, pruning.value_in, pruning.world.values_fit),
    )

pub fix_free-loop-b-smaller-then-rest-eq0 : goal.fix_free-loop-b-smaller-then-rest-eq0
fix_free-loop-b-smaller-then-rest-eq0 t c = omega (arith, turn_less c.requires c.loop-b.invariant c.lowest-w.result c.lowest-w.ensures.1.has c.less-word.ensures)

pub fix_free-loop-b-preserved-then-rest-eq0 : goal.fix_free-loop-b-preserved-then-rest-eq0
fix_free-loop-b-preserved-then-rest-eq0 t c =
    turn_settled c.requires c.loop-b.invariant c.lowest-w.result c.lowest-w.ensures.1.has c.less-word.ensures
    (λ has. (other_none c.loop-b.masks (32 * c.loop-b.b + c.lowest-w.result) c.args.v has (c.other_values-rest.ensures.besides has) c.if-rest-eq0.true).fixed)

pub fix_free-lowest-requires : goal.fix_free-lowest-requires
fix_free-lowest-requires t c = omega (arith, c.if-rest-eq0.false)

pub fix_free-strike-x-requires : goal.fix_free-strike-x-requires
fix_free-strike-x-requires t c =
    let fix_free_free : HasAt c.loop-b.masks (32 * c.loop-b.b + c.lowest-w.result) c.args.v
    × (FixedAt c.loop-b.masks (32 * c.loop-b.b + c.lowest-w.result) c.args.v → ⊥) =
    others_free _ _ c.other_values-rest.ensures (omega (arith, c.if-rest-eq0.false)) in
    let fix_free_last : Other c.loop-b.masks (32 * c.loop-b.b + c.lowest-w.result) c.args.v c.lowest.result =
    other_of _ _ _ _ (c.other_values-rest.ensures.besides fix_free_free.0) c.lowest.ensures.1.has in
    let pre = c.requires in
    let ready = turn_ready pre c.loop-b.invariant c.lowest-w.result c.lowest-w.ensures.1.has in (
      omega (arith, total_less c.loop-b.invariant.done.moved.within, c.decreases),
      record { world = ready.world; opens = ready.opens; slot_in = ready.slot_in; value_in = other_value fix_free_last ready.world },
    )

pub fix_free-returns-then-is_dead : goal.fix_free-returns-then-is_dead
fix_free-returns-then-is_dead t c =
    let fix_free_free : HasAt c.loop-b.masks (32 * c.loop-b.b + c.lowest-w.result) c.args.v
    × (FixedAt c.loop-b.masks (32 * c.loop-b.b + c.lowest-w.result) c.args.v → ⊥) =
    others_free _ _ c.other_values-rest.ensures (omega (arith, c.if-rest-eq0.false)) in
    let fix_free_few : ones (get_or c.loop-b.masks (32 * c.loop-b.b + c.lowest-w.result) 0) ≤ 2 =
    let one : ones c.other_values-rest.result ≡ 1 = eqb-true _ _ (sym c.is_single.ensures ∙ c.if-is_single.true) in
    others_few _ _ c.other_values-rest.ensures (omega (arith, one)) fix_free_free.0 in
    let fix_free_last : Other c.loop-b.masks (32 * c.loop-b.b + c.lowest-w.result) c.args.v c.lowest.result =
    other_of _ _ _ _ (c.other_values-rest.ensures.besides fix_free_free.0) c.lowest.ensures.1.has in
    turn_dead c.requires c.loop-b.invariant c.lowest-w.result c.lowest-w.ensures.1.has fix_free_free c.is_dead.ensures c.if-is_dead.true
    (strike_last fix_free_last fix_free_free.0 fix_free_few (turn_slot c.requires c.loop-b.invariant c.lowest-w.result c.lowest-w.ensures.1.has)
    (turn_world c.requires c.loop-b.invariant).alive c.strike-x.ensures)

pub fix_free-loop-b-smaller-then-is_single : goal.fix_free-loop-b-smaller-then-is_single
fix_free-loop-b-smaller-then-is_single t c = omega (arith, turn_less c.requires c.loop-b.invariant c.lowest-w.result c.lowest-w.ensures.1.has c.less-word.ensures)

pub fix_free-loop-b-preserved-then-is_single : goal.fix_free-loop-b-preserved-then-is_single
fix_free-loop-b-preserved-then-is_single t c =
    let fix_free_free : HasAt c.loop-b.masks (32 * c.loop-b.b + c.lowest-w.result) c.args.v
    × (FixedAt c.loop-b.masks (32 * c.loop-b.b + c.lowest-w.result) c.args.v → ⊥) =
    others_free _ _ c.other_values-rest.ensures (omega (arith, c.if-rest-eq0.false)) in
    let fix_free_few : ones (get_or c.loop-b.masks (32 * c.loop-b.b + c.lowest-w.result) 0) ≤ 2 =
    let one : ones c.other_values-rest.result ≡ 1 = eqb-true _ _ (sym c.is_single.ensures ∙ c.if-is_single.true) in
    others_few _ _ c.other_values-rest.ensures (omega (arith, one)) fix_free_free.0 in
    let fix_free_last : Other c.loop-b.masks (32 * c.loop-b.b + c.lowest-w.result) c.args.v c.lowest.result =
    other_of _ _ _ _ (c.other_values-rest.ensures.besides fix_free_free.0) c.lowest.ensures.1.has in
    turn_cut c.requires c.loop-b.invariant c.lowest-w.result c.lowest-w.ensures.1.has fix_free_free c.less-word.ensures
    (filtered_live c.is_dead.ensures c.if-is_dead.false c.height-h.ensures
    (strike_last fix_free_last fix_free_free.0 fix_free_few (turn_slot c.requires c.loop-b.invariant c.lowest-w.result c.lowest-w.ensures.1.has)
    (turn_world c.requires c.loop-b.invariant).alive c.strike-x.ensures))

pub fix_free-fix-x-requires : goal.fix_free-fix-x-requires
fix_free-fix-x-requires t c =
    let pre = c.requires in (
      omega (arith, total_less c.loop-b.invariant.done.moved.within, c.decreases),
      turn_ready pre c.loop-b.invariant c.lowest-w.result c.lowest-w.ensures.1.has,
    )

pub fix_free-returns-then-is_dead-2 : goal.fix_free-returns-then-is_dead-2
fix_free-returns-then-is_dead-2 t c =
    let fix_free_free : HasAt c.loop-b.masks (32 * c.loop-b.b + c.lowest-w.result) c.args.v
    × (FixedAt c.loop-b.masks (32 * c.loop-b.b + c.lowest-w.result) c.args.v → ⊥) =
    others_free _ _ c.other_values-rest.ensures (omega (arith, c.if-rest-eq0.false)) in
    turn_dead c.requires c.loop-b.invariant c.lowest-w.result c.lowest-w.ensures.1.has fix_free_free c.is_dead-in-loop-b.ensures c.if-is_dead-2.true c.fix-x.ensures

pub fix_free-loop-b-smaller : goal.fix_free-loop-b-smaller
fix_free-loop-b-smaller t c = omega (arith, turn_less c.requires c.loop-b.invariant c.lowest-w.result c.lowest-w.ensures.1.has c.less-word.ensures)

pub fix_free-loop-b-preserved : goal.fix_free-loop-b-preserved
fix_free-loop-b-preserved t c =
    let fix_free_free : HasAt c.loop-b.masks (32 * c.loop-b.b + c.lowest-w.result) c.args.v
    × (FixedAt c.loop-b.masks (32 * c.loop-b.b + c.lowest-w.result) c.args.v → ⊥) =
    others_free _ _ c.other_values-rest.ensures (omega (arith, c.if-rest-eq0.false)) in
    turn_cut c.requires c.loop-b.invariant c.lowest-w.result c.lowest-w.ensures.1.has fix_free_free c.less-word.ensures
    (filtered_live c.is_dead-in-loop-b.ensures c.if-is_dead-2.false c.height-h-in-loop-b.ensures c.fix-x.ensures)

pub fix_free-live_at-requires : goal.fix_free-live_at-requires
fix_free-live_at-requires t c =
    let size : length c.loop-b.trail ≡ length c.args.trail.now = c.loop-b.invariant.done.moved.trailed.size in
    omega (arith, (turn_world c.requires c.loop-b.invariant).room, size, c.well_formed)

pub fix_free-returns : goal.fix_free-returns
fix_free-returns t c = filtered_at (sym c.live_at.ensures) (turn_end c.requires c.loop-b.invariant c.loop-b-test.false)

pub fix_free-shape_of-masks-then-is_dead : goal.fix_free-shape_of-masks-then-is_dead
fix_free-shape_of-masks-then-is_dead t c = (fix_free-returns-then-is_dead t c).moved.within.len

pub fix_free-shape_of-cells-then-is_dead : goal.fix_free-shape_of-cells-then-is_dead
fix_free-shape_of-cells-then-is_dead t c = (fix_free-returns-then-is_dead t c).moved.cells_length

pub fix_free-shape_of-trail-then-is_dead : goal.fix_free-shape_of-trail-then-is_dead
fix_free-shape_of-trail-then-is_dead t c = (fix_free-returns-then-is_dead t c).moved.trailed.size

pub fix_free-shape_of-masks-then-is_dead-2 : goal.fix_free-shape_of-masks-then-is_dead-2
fix_free-shape_of-masks-then-is_dead-2 t c = (fix_free-returns-then-is_dead-2 t c).moved.within.len

pub fix_free-shape_of-cells-then-is_dead-2 : goal.fix_free-shape_of-cells-then-is_dead-2
fix_free-shape_of-cells-then-is_dead-2 t c = (fix_free-returns-then-is_dead-2 t c).moved.cells_length

pub fix_free-shape_of-trail-then-is_dead-2 : goal.fix_free-shape_of-trail-then-is_dead-2
fix_free-shape_of-trail-then-is_dead-2 t c = (fix_free-returns-then-is_dead-2 t c).moved.trailed.size

pub fix_free-shape_of-masks : goal.fix_free-shape_of-masks
fix_free-shape_of-masks t c = (fix_free-returns t c).moved.within.len

pub fix_free-shape_of-cells : goal.fix_free-shape_of-cells
fix_free-shape_of-cells t c = (fix_free-returns t c).moved.cells_length

pub fix_free-shape_of-trail : goal.fix_free-shape_of-trail
fix_free-shape_of-trail t c = (fix_free-returns t c).moved.trailed.size

pub follow-strike_free-requires : goal.follow-strike_free-requires
follow-strike_free-requires t c = (omega (arith, c.decreases), c.requires.1)

pub follow-returns-then-a-eq0 : goal.follow-returns-then-a-eq0
follow-returns-then-a-eq0 t c = follow_high c.if-a-eq0.true c.strike_free.ensures

pub follow-fix_free-p-requires : goal.follow-fix_free-p-requires
follow-fix_free-p-requires t c = (omega (arith, c.decreases), c.requires.0)

pub follow-returns-then-is_dead : goal.follow-returns-then-is_dead
follow-returns-then-is_dead t c = follow_dead c.is_dead.ensures c.if-is_dead.true c.fix_free-p.ensures

pub follow-returns-then-b-eq0 : goal.follow-returns-then-b-eq0
follow-returns-then-b-eq0 t c = follow_low c.if-b-eq0.true c.fix_free-p.ensures

pub follow-any_open-requires : goal.follow-any_open-requires
follow-any_open-requires t c =
    let pre = c.requires in
    let world = world_moved pre.0.world c.fix_free-p.ensures.moved in
    (world.rows, world.slots_fit, world.values_fit, pre.1.end_in)

pub follow-returns-then-not-any_open : goal.follow-returns-then-not-any_open
follow-returns-then-not-any_open t c =
    let pre = c.requires in
    let low = c.fix_free-p.ensures in
    follow_closed (closed_settled pre.1.end_in (low.moved.opens pre.0.opens) (c.any_open.ensures (not-true _ c.if-not-any_open.true-raw))) low

pub follow-strike_free-requires-2 : goal.follow-strike_free-requires-2
follow-strike_free-requires-2 t c =
    let pre = c.requires in
    let low = filtered_live c.is_dead.ensures c.if-is_dead.false c.height.ensures c.fix_free-p.ensures in (
      omega (arith, total_less low.moved.within, c.decreases),
      record { world = world_moved pre.0.world low.moved; opens = low.moved.opens pre.0.opens; end_in = pre.1.end_in; value_in = pre.1.value_in },
    )

pub follow-returns : goal.follow-returns
follow-returns t c =
    let pre = c.requires in
    follow_both pre.0.world.alive (filtered_live c.is_dead.ensures c.if-is_dead.false c.height.ensures c.fix_free-p.ensures)
    c.strike_free-2.ensures

pub follow-shape_of-masks-then-a-eq0 : goal.follow-shape_of-masks-then-a-eq0
follow-shape_of-masks-then-a-eq0 t c = (follow-returns-then-a-eq0 t c).moved.within.len

pub follow-shape_of-cells-then-a-eq0 : goal.follow-shape_of-cells-then-a-eq0
follow-shape_of-cells-then-a-eq0 t c = (follow-returns-then-a-eq0 t c).moved.cells_length

pub follow-shape_of-trail-then-a-eq0 : goal.follow-shape_of-trail-then-a-eq0
follow-shape_of-trail-then-a-eq0 t c = (follow-returns-then-a-eq0 t c).moved.trailed.size

pub follow-shape_of-masks-then-is_dead : goal.follow-shape_of-masks-then-is_dead
follow-shape_of-masks-then-is_dead t c = (follow-returns-then-is_dead t c).moved.within.len

pub follow-shape_of-cells-then-is_dead : goal.follow-shape_of-cells-then-is_dead
follow-shape_of-cells-then-is_dead t c = (follow-returns-then-is_dead t c).moved.cells_length

pub follow-shape_of-trail-then-is_dead : goal.follow-shape_of-trail-then-is_dead
follow-shape_of-trail-then-is_dead t c = (follow-returns-then-is_dead t c).moved.trailed.size

pub follow-shape_of-masks-then-b-eq0 : goal.follow-shape_of-masks-then-b-eq0
follow-shape_of-masks-then-b-eq0 t c = (follow-returns-then-b-eq0 t c).moved.within.len

pub follow-shape_of-cells-then-b-eq0 : goal.follow-shape_of-cells-then-b-eq0
follow-shape_of-cells-then-b-eq0 t c = (follow-returns-then-b-eq0 t c).moved.cells_length

pub follow-shape_of-trail-then-b-eq0 : goal.follow-shape_of-trail-then-b-eq0
follow-shape_of-trail-then-b-eq0 t c = (follow-returns-then-b-eq0 t c).moved.trailed.size

pub follow-shape_of-masks-then-not-any_open : goal.follow-shape_of-masks-then-not-any_open
follow-shape_of-masks-then-not-any_open t c = (follow-returns-then-not-any_open t c).moved.within.len

pub follow-shape_of-cells-then-not-any_open : goal.follow-shape_of-cells-then-not-any_open
follow-shape_of-cells-then-not-any_open t c = (follow-returns-then-not-any_open t c).moved.cells_length

pub follow-shape_of-trail-then-not-any_open : goal.follow-shape_of-trail-then-not-any_open
follow-shape_of-trail-then-not-any_open t c = (follow-returns-then-not-any_open t c).moved.trailed.size

pub follow-shape_of-masks : goal.follow-shape_of-masks
follow-shape_of-masks t c = (follow-returns t c).moved.within.len

pub follow-shape_of-cells : goal.follow-shape_of-cells
follow-shape_of-cells t c = (follow-returns t c).moved.cells_length

pub follow-shape_of-trail : goal.follow-shape_of-trail
follow-shape_of-trail t c = (follow-returns t c).moved.trailed.size

pub strike-has_value-requires : goal.strike-has_value-requires
strike-has_value-requires t c =
    let ready = c.requires in
    (ready_slot ready, ready_value ready)

pub strike-live_at-requires : goal.strike-live_at-requires
strike-live_at-requires t c = omega (arith, c.requires.world.room, c.well_formed)

pub strike-returns-then-not-has_value : goal.strike-returns-then-not-has_value
strike-returns-then-not-has_value t c = filtered_at (sym c.live_at.ensures) (strike_absent _ _ _ _ _ _ (eqb-false _ _ (sym c.has_value.ensures ∙ not-true _ c.if-not-has_value.true-raw)))

pub strike-strike_one-o-requires : goal.strike-strike_one-o-requires
strike-strike_one-o-requires t c = (
  c.requires,
  eqb-true _ _ (sym c.has_value.ensures ∙ not-false _ c.if-not-has_value.false-raw),
)

pub strike-dead_at-requires : goal.strike-dead_at-requires
strike-dead_at-requires t c = omega (arith, c.requires.world.room, c.well_formed)

pub strike-returns-in_default : goal.strike-returns-in_default
strike-returns-in_default t c =
    let args = c.args in
    filtered_at (sym c.dead_at.ensures) (strike_contradicted (answer_contradicted _ _ _ _ _ args.top _ _ _ _ _ c.strike_one-o.ensures c.in_default.is))

pub strike-overflow_add-top : goal.strike-overflow_add-top
strike-overflow_add-top t c =
    omega (
      arith,
      ready_room c.requires (eqb-true _ _ (sym c.has_value.ensures ∙ not-false _ c.if-not-has_value.false-raw)),
      c.ranges,
    )

pub strike-live_at-requires-then-b-eq0 : goal.strike-live_at-requires-then-b-eq0
strike-live_at-requires-then-b-eq0 t c =
    omega (
      arith,
      ready_room c.requires (eqb-true _ _ (sym c.has_value.ensures ∙ not-false _ c.if-not-has_value.false-raw)),
      c.well_formed,
    )

pub strike-returns-then-b-eq0 : goal.strike-returns-then-b-eq0
strike-returns-then-b-eq0 t c =
    let args = c.args in
    let made = answer_removed _ _ _ _ _ args.top _ _ _ _ _ c.strike_one-o.ensures c.in-Some.is in
    filtered_at (sym c.live_at-then-b-eq0.ensures) (strike_followed made (follow_none c.if-a-eq0.true c.if-b-eq0.true))

pub strike-overflow_add-top-2 : goal.strike-overflow_add-top-2
strike-overflow_add-top-2 t c =
    omega (
      arith,
      ready_room c.requires (eqb-true _ _ (sym c.has_value.ensures ∙ not-false _
          c.if-not-has_value.false-raw)),
      c.ranges,
    )

pub strike-follow-requires : goal.strike-follow-requires
strike-follow-requires t c =
    let args = c.args in
    let made = answer_removed _ _ _ _ _ args.top _ _ _ _ _ c.strike_one-o.ensures c.in-Some.is in
    let pre = c.requires in
    let world = world_moved pre.world made.moved in (
      omega (arith, made.moved.height, c.decreases),
      (
        record { world = world; opens = made.moved.opens pre.opens; end_in = made.low_in; value_in = pre.value_in },
        record { world = world; opens = made.moved.opens pre.opens; end_in = made.high_in; value_in = made.value_in },
      ),
    )

pub strike-returns : goal.strike-returns
strike-returns t c =
    let args = c.args in
    let made = answer_removed _ _ _ _ _ args.top _ _ _ _ _ c.strike_one-o.ensures c.in-Some.is in
    strike_followed made c.follow.ensures

pub strike-shape_of-masks-then-b-eq0 : goal.strike-shape_of-masks-then-b-eq0
strike-shape_of-masks-then-b-eq0 t c = (strike-returns-then-b-eq0 t c).moved.within.len

pub strike-shape_of-cells-then-b-eq0 : goal.strike-shape_of-cells-then-b-eq0
strike-shape_of-cells-then-b-eq0 t c = (strike-returns-then-b-eq0 t c).moved.cells_length

pub strike-shape_of-trail-then-b-eq0 : goal.strike-shape_of-trail-then-b-eq0
strike-shape_of-trail-then-b-eq0 t c = (strike-returns-then-b-eq0 t c).moved.trailed.size

pub strike-shape_of-masks : goal.strike-shape_of-masks
strike-shape_of-masks t c = (strike-returns t c).moved.within.len

pub strike-shape_of-cells : goal.strike-shape_of-cells
strike-shape_of-cells t c = (strike-returns t c).moved.cells_length

pub strike-shape_of-trail : goal.strike-shape_of-trail
strike-shape_of-trail t c = (strike-returns t c).moved.trailed.size

pub strike_free-open_block-word-requires : goal.strike_free-open_block-word-requires
strike_free-open_block-word-requires t c = block_asked c.requires c.requires.world (omega arith)

pub strike_free-loop-b-init : goal.strike_free-loop-b-init
strike_free-loop-b-init t c = turn_first c.requires c.open_block-word.ensures

pub strike_free-overflow_add-end : goal.strike_free-overflow_add-end
strike_free-overflow_add-end t c = omega (arith, c.requires.end_in, c.requires.world.slots_fit)

pub strike_free-overflow_add-b : goal.strike_free-overflow_add-b
strike_free-overflow_add-b t c = omega (arith, c.loop-b-test.true, c.requires.end_in, c.requires.world.slots_fit)

pub strike_free-open_block-word-requires-then-word-eq0 : goal.strike_free-open_block-word-requires-then-word-eq0
strike_free-open_block-word-requires-then-word-eq0 t c = turn_asked c.requires c.loop-b.invariant

pub strike_free-loop-b-smaller-then-word-eq0 : goal.strike_free-loop-b-smaller-then-word-eq0
strike_free-loop-b-smaller-then-word-eq0 t c = omega (arith, c.loop-b-test.true, c.open_block-word-then-word-eq0.ensures.word)

pub strike_free-loop-b-preserved-then-word-eq0 : goal.strike_free-loop-b-preserved-then-word-eq0
strike_free-loop-b-preserved-then-word-eq0 t c = turn_block c.requires c.loop-b.invariant c.if-word-eq0.true c.open_block-word-then-word-eq0.ensures

pub strike_free-lowest-w-requires : goal.strike_free-lowest-w-requires
strike_free-lowest-w-requires t c = omega (arith, c.if-word-eq0.false)

pub strike_free-less-word-requires : goal.strike_free-less-word-requires
strike_free-less-word-requires t c = (c.lowest-w.ensures.0, c.lowest-w.ensures.1.has)

pub strike_free-overflow_mul-slot : goal.strike_free-overflow_mul-slot
strike_free-overflow_mul-slot t c = omega (arith, c.loop-b-test.true, c.requires.end_in, c.requires.world.slots_fit)

pub strike_free-overflow_cast-slot : goal.strike_free-overflow_cast-slot
strike_free-overflow_cast-slot t c = omega (arith, c.lowest-w.ensures.0)

pub strike_free-overflow_add-slot : goal.strike_free-overflow_add-slot
strike_free-overflow_add-slot t c = omega (arith, c.loop-b-test.true, c.lowest-w.ensures.0, c.requires.end_in, c.requires.world.slots_fit)

pub strike_free-is_free-requires : goal.strike_free-is_free-requires
strike_free-is_free-requires t c =
    let pruning = c.requires in (
      turn_slot pruning c.loop-b.invariant c.lowest-w.result c.lowest-w.ensures.1.has,
      omega (arith, pruning.value_in, pruning.world.values_fit),
    )

pub strike_free-loop-b-smaller-then-not-is_free : goal.strike_free-loop-b-smaller-then-not-is_free
strike_free-loop-b-smaller-then-not-is_free t c = omega (arith, turn_less c.requires c.loop-b.invariant c.lowest-w.result c.lowest-w.ensures.1.has c.less-word.ensures)

pub strike_free-loop-b-preserved-then-not-is_free : goal.strike_free-loop-b-preserved-then-not-is_free
strike_free-loop-b-preserved-then-not-is_free t c = turn_settled c.requires c.loop-b.invariant c.lowest-w.result c.lowest-w.ensures.1.has c.less-word.ensures (free_no _ _ {r = c.is_free.result} (not-true _ c.if-not-is_free.true-raw) c.is_free.ensures)

pub strike_free-is_wide-requires : goal.strike_free-is_wide-requires
strike_free-is_wide-requires t c = turn_slot c.requires c.loop-b.invariant c.lowest-w.result c.lowest-w.ensures.1.has

pub strike_free-strike-x-requires : goal.strike_free-strike-x-requires
strike_free-strike-x-requires t c =
    let pre = c.requires in (
      omega (arith, total_less c.loop-b.invariant.done.moved.within, c.decreases),
      turn_ready pre c.loop-b.invariant c.lowest-w.result c.lowest-w.ensures.1.has,
    )

pub strike_free-returns-then-is_dead : goal.strike_free-returns-then-is_dead
strike_free-returns-then-is_dead t c =
    let strike_free_free : HasAt c.loop-b.masks (32 * c.loop-b.b + c.lowest-w.result) c.args.v
    × (FixedAt c.loop-b.masks (32 * c.loop-b.b + c.lowest-w.result) c.args.v → ⊥) =
    free_yes _ _ {r = c.is_free.result} (not-false _ c.if-not-is_free.false-raw) c.is_free.ensures in
    turn_dead c.requires c.loop-b.invariant c.lowest-w.result c.lowest-w.ensures.1.has strike_free_free c.is_dead.ensures c.if-is_dead.true c.strike-x.ensures

pub strike_free-loop-b-smaller-then-not-is_wide : goal.strike_free-loop-b-smaller-then-not-is_wide
strike_free-loop-b-smaller-then-not-is_wide t c = omega (arith, turn_less c.requires c.loop-b.invariant c.lowest-w.result c.lowest-w.ensures.1.has c.less-word.ensures)

pub strike_free-loop-b-preserved-then-not-is_wide : goal.strike_free-loop-b-preserved-then-not-is_wide
strike_free-loop-b-preserved-then-not-is_wide t c =
    let strike_free_free : HasAt c.loop-b.masks (32 * c.loop-b.b + c.lowest-w.result) c.args.v
    × (FixedAt c.loop-b.masks (32 * c.loop-b.b + c.lowest-w.result) c.args.v → ⊥) =
    free_yes _ _ {r = c.is_free.result} (not-false _ c.if-not-is_free.false-raw) c.is_free.ensures in
    turn_cut c.requires c.loop-b.invariant c.lowest-w.result c.lowest-w.ensures.1.has strike_free_free c.less-word.ensures
    (filtered_live c.is_dead.ensures c.if-is_dead.false c.height-h.ensures c.strike-x.ensures)

pub strike_free-without_value-left-requires : goal.strike_free-without_value-left-requires
strike_free-without_value-left-requires t c =
    let pruning = c.requires in (
      turn_slot pruning c.loop-b.invariant c.lowest-w.result c.lowest-w.ensures.1.has,
      omega (arith, pruning.value_in, pruning.world.values_fit),
    )

pub strike_free-thin-low-requires : goal.strike_free-thin-low-requires
strike_free-thin-low-requires t c =
    let strike_free_free : HasAt c.loop-b.masks (32 * c.loop-b.b + c.lowest-w.result) c.args.v
    × (FixedAt c.loop-b.masks (32 * c.loop-b.b + c.lowest-w.result) c.args.v → ⊥) =
    free_yes _ _ {r = c.is_free.result} (not-false _ c.if-not-is_free.false-raw) c.is_free.ensures in (
      turn_ready c.requires c.loop-b.invariant c.lowest-w.result c.lowest-w.ensures.1.has,
      strike_free_free.0,
      ltb-true 2 _ (sym c.is_wide.ensures ∙ not-false _ c.if-not-is_wide.false-raw),
      c.without_value-left.ensures,
    )

pub strike_free-dead_at-requires : goal.strike_free-dead_at-requires
strike_free-dead_at-requires t c =
    let size : length c.loop-b.trail ≡ length c.args.trail.now = c.loop-b.invariant.done.moved.trailed.size in
    omega (arith, (turn_world c.requires c.loop-b.invariant).room, size, c.well_formed)

pub strike_free-returns-then-low : goal.strike_free-returns-then-low
strike_free-returns-then-low t c =
    let strike_free_free : HasAt c.loop-b.masks (32 * c.loop-b.b + c.lowest-w.result) c.args.v
    × (FixedAt c.loop-b.masks (32 * c.loop-b.b + c.lowest-w.result) c.args.v → ⊥) =
    free_yes _ _ {r = c.is_free.result} (not-false _ c.if-not-is_free.false-raw) c.is_free.ensures in
    filtered_at (sym c.dead_at.ensures)
    (turn_dead c.requires c.loop-b.invariant c.lowest-w.result c.lowest-w.ensures.1.has strike_free_free {dead = true} refl refl
    (strike_contradicted {G = λ (M : List ℕ). Unit {0}} (thinned_clash _ _ _ _ _ c.loop-b.h _ _ _ _ _ _ _ c.thin-low.ensures c.if-low.true)))

pub strike_free-overflow_add-h : goal.strike_free-overflow_add-h
strike_free-overflow_add-h t c =
    let strike_free_free : HasAt c.loop-b.masks (32 * c.loop-b.b + c.lowest-w.result) c.args.v
    × (FixedAt c.loop-b.masks (32 * c.loop-b.b + c.lowest-w.result) c.args.v → ⊥) =
    free_yes _ _ {r = c.is_free.result} (not-false _ c.if-not-is_free.false-raw) c.is_free.ensures in
    let size : length c.loop-b.trail ≡ length c.args.trail.now = c.loop-b.invariant.done.moved.trailed.size in
    omega (arith, ready_room (turn_ready c.requires c.loop-b.invariant c.lowest-w.result c.lowest-w.ensures.1.has) strike_free_free.0, size, c.well_formed)

pub strike_free-loop-b-smaller-then-low-eq0 : goal.strike_free-loop-b-smaller-then-low-eq0
strike_free-loop-b-smaller-then-low-eq0 t c = omega (arith, turn_less c.requires c.loop-b.invariant c.lowest-w.result c.lowest-w.ensures.1.has c.less-word.ensures)

pub strike_free-loop-b-preserved-then-low-eq0 : goal.strike_free-loop-b-preserved-then-low-eq0
strike_free-loop-b-preserved-then-low-eq0 t c =
    let strike_free_free : HasAt c.loop-b.masks (32 * c.loop-b.b + c.lowest-w.result) c.args.v
    × (FixedAt c.loop-b.masks (32 * c.loop-b.b + c.lowest-w.result) c.args.v → ⊥) =
    free_yes _ _ {r = c.is_free.result} (not-false _ c.if-not-is_free.false-raw) c.is_free.ensures in
    let removed = thinned_made _ _ _ _ _ c.loop-b.h _ _ _ _ _ _ _ c.thin-low.ensures c.if-low.false in
    turn_cut c.requires c.loop-b.invariant c.lowest-w.result c.lowest-w.ensures.1.has strike_free_free c.less-word.ensures (thin_quiet removed c.if-low-eq0.true)

pub strike_free-fix_free-x-requires : goal.strike_free-fix_free-x-requires
strike_free-fix_free-x-requires t c =
    let removed = thinned_made _ _ _ _ _ c.loop-b.h _ _ _ _ _ _ _ c.thin-low.ensures c.if-low.false in (
      omega (arith, removed.moved.height, total_less c.loop-b.invariant.done.moved.within, c.decreases),
      record {
        world = world_moved (turn_world c.requires c.loop-b.invariant) removed.moved;
        opens = removed.moved.opens (c.loop-b.invariant.done.moved.opens c.requires.opens);
        end_in = removed.low_in;
        value_in = c.requires.value_in;
      },
    )

pub strike_free-returns-then-is_dead-2 : goal.strike_free-returns-then-is_dead-2
strike_free-returns-then-is_dead-2 t c =
    let strike_free_free : HasAt c.loop-b.masks (32 * c.loop-b.b + c.lowest-w.result) c.args.v
    × (FixedAt c.loop-b.masks (32 * c.loop-b.b + c.lowest-w.result) c.args.v → ⊥) =
    free_yes _ _ {r = c.is_free.result} (not-false _ c.if-not-is_free.false-raw) c.is_free.ensures in
    let removed = thinned_made _ _ _ _ _ c.loop-b.h _ _ _ _ _ _ _ c.thin-low.ensures c.if-low.false in
    turn_dead c.requires c.loop-b.invariant c.lowest-w.result c.lowest-w.ensures.1.has strike_free_free c.is_dead-in-loop-b.ensures c.if-is_dead-2.true (thin_followed removed c.fix_free-x.ensures)

pub strike_free-loop-b-smaller : goal.strike_free-loop-b-smaller
strike_free-loop-b-smaller t c = omega (arith, turn_less c.requires c.loop-b.invariant c.lowest-w.result c.lowest-w.ensures.1.has c.less-word.ensures)

pub strike_free-loop-b-preserved : goal.strike_free-loop-b-preserved
strike_free-loop-b-preserved t c =
    let strike_free_free : HasAt c.loop-b.masks (32 * c.loop-b.b + c.lowest-w.result) c.args.v
    × (FixedAt c.loop-b.masks (32 * c.loop-b.b + c.lowest-w.result) c.args.v → ⊥) =
    free_yes _ _ {r = c.is_free.result} (not-false _ c.if-not-is_free.false-raw) c.is_free.ensures in
    let removed = thinned_made _ _ _ _ _ c.loop-b.h _ _ _ _ _ _ _ c.thin-low.ensures c.if-low.false in
    turn_cut c.requires c.loop-b.invariant c.lowest-w.result c.lowest-w.ensures.1.has strike_free_free c.less-word.ensures
    (filtered_live c.is_dead-in-loop-b.ensures c.if-is_dead-2.false c.height-h-in-loop-b.ensures (thin_followed removed c.fix_free-x.ensures))

pub strike_free-live_at-requires : goal.strike_free-live_at-requires
strike_free-live_at-requires t c =
    let size : length c.loop-b.trail ≡ length c.args.trail.now = c.loop-b.invariant.done.moved.trailed.size in
    omega (arith, (turn_world c.requires c.loop-b.invariant).room, size, c.well_formed)

pub strike_free-returns : goal.strike_free-returns
strike_free-returns t c = filtered_at (sym c.live_at.ensures) (turn_end c.requires c.loop-b.invariant c.loop-b-test.false)

pub strike_free-shape_of-masks-then-is_dead : goal.strike_free-shape_of-masks-then-is_dead
strike_free-shape_of-masks-then-is_dead t c = (strike_free-returns-then-is_dead t c).moved.within.len

pub strike_free-shape_of-cells-then-is_dead : goal.strike_free-shape_of-cells-then-is_dead
strike_free-shape_of-cells-then-is_dead t c = (strike_free-returns-then-is_dead t c).moved.cells_length

pub strike_free-shape_of-trail-then-is_dead : goal.strike_free-shape_of-trail-then-is_dead
strike_free-shape_of-trail-then-is_dead t c = (strike_free-returns-then-is_dead t c).moved.trailed.size

pub strike_free-shape_of-masks-then-low : goal.strike_free-shape_of-masks-then-low
strike_free-shape_of-masks-then-low t c = (strike_free-returns-then-low t c).moved.within.len

pub strike_free-shape_of-cells-then-low : goal.strike_free-shape_of-cells-then-low
strike_free-shape_of-cells-then-low t c = (strike_free-returns-then-low t c).moved.cells_length

pub strike_free-shape_of-trail-then-low : goal.strike_free-shape_of-trail-then-low
strike_free-shape_of-trail-then-low t c = (strike_free-returns-then-low t c).moved.trailed.size

pub strike_free-shape_of-masks-then-is_dead-2 : goal.strike_free-shape_of-masks-then-is_dead-2
strike_free-shape_of-masks-then-is_dead-2 t c = (strike_free-returns-then-is_dead-2 t c).moved.within.len

pub strike_free-shape_of-cells-then-is_dead-2 : goal.strike_free-shape_of-cells-then-is_dead-2
strike_free-shape_of-cells-then-is_dead-2 t c = (strike_free-returns-then-is_dead-2 t c).moved.cells_length

pub strike_free-shape_of-trail-then-is_dead-2 : goal.strike_free-shape_of-trail-then-is_dead-2
strike_free-shape_of-trail-then-is_dead-2 t c = (strike_free-returns-then-is_dead-2 t c).moved.trailed.size

pub strike_free-shape_of-masks : goal.strike_free-shape_of-masks
strike_free-shape_of-masks t c = (strike_free-returns t c).moved.within.len

pub strike_free-shape_of-cells : goal.strike_free-shape_of-cells
strike_free-shape_of-cells t c = (strike_free-returns t c).moved.cells_length

pub strike_free-shape_of-trail : goal.strike_free-shape_of-trail
strike_free-shape_of-trail t c = (strike_free-returns t c).moved.trailed.size
