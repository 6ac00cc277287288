-- `thinning::thin` meets its contract: a law of ThinLaws for each of its returns, and one for the note. Assumes nothing.
use mathlib.Core.Path.{refl}
use native.Mathlib.Omega.{arith}
use Rattle.filter_model.proofs.StateLaws.{world_row, ready_slot, ready_room, ready_byte, ready_value}
use Rattle.thinning.proofs.ThinLaws.{thin_barred, thin_made, thin_note, thin_tag}
use Rattle.thinning.proofs.thin.Goals as goal

pub fall_row-fell-requires : goal.fall_row-fell-requires
fall_row-fell-requires c =
    let pre = c.requires in
    let ready = pre.0 in (
      omega (arith, ready.slot_in),
      world_row ready.world c.args.v _ (omega (arith, ready.value_in)) refl,
      omega (arith, ready.world.slots_fit),
    )

pub returns-then-fell : goal.returns-then-fell
returns-then-fell c = thin_barred c.requires.0 c.requires.1 _ c.fall_row-fell.ensures.1 _ _ c.if-fell.true

pub push-requires : goal.push-requires
push-requires c =
    let pre = c.requires in
    let ready = pre.0 in
    let fall-row = c.fall_row-fell in
    let note = thin_note ready pre.1 _ fall-row.ensures.1 pre.2 c.if-fell.false fall-row.ensures.0 in
    let tag = thin_tag ready pre.1 _ fall-row.ensures.1 pre.2 c.if-fell.false fall-row.ensures.0 in
    (ready_room ready pre.1, ready_byte ready, ready_value ready, omega (arith, tag), omega (arith, note))

pub store-requires : goal.store-requires
store-requires c = ready_slot c.requires.0

pub returns : goal.returns
returns c =
    let pre = c.requires in
    let fall-row = c.fall_row-fell in
    let if1 = c.if-fell in
    thin_made pre.0 pre.1 _ fall-row.ensures.1 pre.2 if1.false fall-row.ensures.0 c.store.ensures pre.3 c.push.ensures
