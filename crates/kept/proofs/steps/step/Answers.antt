-- `kept::steps::step` meets its contract: refused before anything is lent on (`step_refused`), else the list is run on the session that the memory holds
-- (`kept_running`), the front of the masks comes back written, and the numbers are those of the session after it (`step_done`). Assumes nothing.
use mathlib.Core.Path.{sym, ◌∙◌}
use native.Mathlib.Omega.{arith}
use lib.Seq.{length-take-le}
use Rattle.std.proofs.Common.{rules}
use Rattle.answer.specs.Answer as Answer
use Rattle.book.proofs.RefusalLaws.{some_number}
use Rattle.closing.proofs.CloseLaws.{overlay_front}
use Rattle.acts.proofs.RepresentsLaws.{represents_idle}
use Rattle.kept_model.proofs.KeptLaws.{kept_inside, kept_running}
use Rattle.kept_model.proofs.EntriesLaws.{step_fault_few, step_fault_words, step_refused, step_done}
use Rattle.kept.proofs.steps.step.Goals as goal

pub returns-in_err-check : goal.returns-in_err-check
returns-in_err-check c =
    let e = c.in_err-check.field-0.0 in
    let told = step_refused c.args.calls.now c.args.answers.now c.args.masks.now c.args.cells.now c.args.trail.now c.args.heights.now c.args.numbers.now
    c.number_at-made.result (Answer.number_of e) c.number_at-made.ensures c.in_err-check.ensures (some_number e) in
    search (rules, told)

pub slice_bounds-run-end : goal.slice_bounds-run-end
slice_bounds-run-end c = kept_inside c.requires.kept c.number_at-n.ensures

pub run-after-requires : goal.run-after-requires
run-after-requires c =
    record {
      running = kept_running c.requires.kept c.number_at-n.ensures c.number_at-types.ensures c.session_in-session.ensures;
      room = step_fault_words _ _ _ (sym c.in_ok-check.ensures);
      numbers = step_fault_few _ _ _ (sym c.in_ok-check.ensures);
    }

pub overflow_add-made : goal.overflow_add-made
overflow_add-made c = omega (arith, step_fault_few _ _ _ (sym c.in_ok-check.ensures))

pub write_numbers-requires : goal.write_numbers-requires
write_numbers-requires c =
    let running = kept_running c.requires.kept c.number_at-n.ensures c.number_at-types.ensures c.session_in-session.ensures in
    let after = (c.run-after.ensures.does running.table running.rules running.state running.represents).represents in
    (c.requires.kept.sized.numbers, after.top_fits, represents_idle after)

pub returns : goal.returns
returns c =
    let ran = c.run-after in
    let long = length-take-le _ _ (kept_inside c.requires.kept c.number_at-n.ensures) in
    rw (overlay_front _ ran.new.masks c.args.masks.now (ran.auto.masks ∙ long))
    (step_done c.args.calls.now c.args.masks.now c.args.cells.now c.args.trail.now c.args.heights.now c.args.numbers.now c.number_at-n.ensures
    c.number_at-types.ensures c.number_at-made.ensures c.session_in-session.ensures _ (sym c.in_ok-check.ensures) ran.ensures ran.auto.cells
    ran.auto.trail ran.auto.heights c.write_numbers.ensures c.stands.ensures)
