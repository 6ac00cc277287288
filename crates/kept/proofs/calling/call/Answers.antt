-- `kept::calling::call` meets its contract: refused after the most calls (`call_refused`), else the call is made on the session that the memory holds
-- (`kept_running`), the front of the masks comes back written, and the numbers are those of the session after it (`call_done`). Assumes nothing.
use mathlib.Core.Path.{◌∙◌}
use lib.Seq.{length-take-le}
use Rattle.closing.proofs.CloseLaws.{overlay_front}
use Rattle.acts.proofs.RepresentsLaws.{represents_idle}
use Rattle.kept_model.proofs.KeptLaws.{kept_inside, kept_running}
use Rattle.kept_model.proofs.EntriesLaws.{call_refused, call_done}
use Rattle.kept.proofs.calling.call.Goals as goal

pub returns-then-made-ge-MOST_CALLS : goal.returns-then-made-ge-MOST_CALLS
returns-then-made-ge-MOST_CALLS c =
    rw c.word.ensures
    (call_refused _ c.args.masks.now c.args.cells.now c.args.trail.now c.args.heights.now c.args.numbers.now c.number_at-made.result
    c.number_at-made.ensures c.if-made-ge-MOST_CALLS.true)

pub slice_bounds-step_alone-end : goal.slice_bounds-step_alone-end
slice_bounds-step_alone-end c = kept_inside c.requires.kept c.number_at-n.ensures

pub step_alone-stepped-requires : goal.step_alone-stepped-requires
step_alone-stepped-requires c = kept_running c.requires.kept c.number_at-n.ensures c.number_at-types.ensures c.session_in-session.ensures

pub write_numbers-requires : goal.write_numbers-requires
write_numbers-requires c =
    let running = kept_running c.requires.kept c.number_at-n.ensures c.number_at-types.ensures c.session_in-session.ensures in
    let after = (c.step_alone-stepped.ensures.does running.table running.rules running.state running.represents).represents in
    (c.requires.kept.sized.numbers, after.top_fits, represents_idle after)

pub returns : goal.returns
returns c =
    let done = c.step_alone-stepped in
    let long = length-take-le _ _ (kept_inside c.requires.kept c.number_at-n.ensures) in
    rw (← c.numbered-call.ensures, overlay_front _ done.new.masks c.args.masks.now (done.auto.masks ∙ long))
    (call_done _ c.args.masks.now c.args.cells.now c.args.trail.now c.args.heights.now c.args.numbers.now c.number_at-n.ensures
    c.number_at-types.ensures c.number_at-made.ensures c.session_in-session.ensures c.if-made-ge-MOST_CALLS.false done.ensures done.auto.cells
    done.auto.trail done.auto.heights c.write_numbers.ensures)
