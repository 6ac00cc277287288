-- `probe::fault::check` meets its contract: the reader's refusal, else the tests of the list, of its calls and of the room
-- (`probe_fault_book` .. `probe_fault_none`). Assumes nothing.
use mathlib.Core.Path.{sym, ◌∙◌}
use Rattle.std.proofs.Common.{rules}
use Rattle.book.proofs.BookLaws.{good_facts}
use Rattle.book.proofs.RefusalLaws.{some_number}
use Rattle.probe_model.proofs.FaultLaws.{probe_fault_book, probe_fault_parts, probe_fault_long}
use Rattle.probe_model.proofs.FaultLaws.{probe_fault_call, probe_fault_room, probe_fault_none}
use Rattle.probe.proofs.fault.check.Goals as goal

pub returns-in_err-read : goal.returns-in_err-read
returns-in_err-read c =
    let e = c.in_err-read.field-0.0 in
    let says = c.in_err-read.ensures in
    let told = says ∙ sym (probe_fault_book c.args.limits c.args.book.now c.args.calls.now c.args.room (λ none. some_number e (says ∙ none))) in
    search (rules, told)

pub returns-then-calls-ne0 : goal.returns-then-calls-ne0
returns-then-calls-ne0 c = sym (probe_fault_parts _ _ _ _ (sym c.in_ok-read.ensures) c.if-calls-ne0.true)

pub returns-then-calls-gt-MOST_BYTES : goal.returns-then-calls-gt-MOST_BYTES
returns-then-calls-gt-MOST_BYTES c = sym (probe_fault_long _ _ _ _ (sym c.in_ok-read.ensures) c.if-calls-gt-MOST_BYTES.true)

pub slots-requires : goal.slots-requires
slots-requires c = (good_facts c.args.limits c.args.book.now (sym c.in_ok-read.ensures)).header.header_inside

pub values-requires : goal.values-requires
values-requires c = (good_facts c.args.limits c.args.book.now (sym c.in_ok-read.ensures)).header.header_inside

pub returns-in_err-check_calls : goal.returns-in_err-check_calls
returns-in_err-check_calls c =
    let e = c.in_err-check_calls.field-0.0 in
    let says = rw (c.slots.ensures.0, c.values.ensures.0) at c.in_err-check_calls.ensures in
    let told =
    says
    ∙ sym
    (probe_fault_call c.args.limits c.args.book.now c.args.calls.now c.args.room (sym c.in_ok-read.ensures) c.if-calls-ne0.false
    c.if-calls-gt-MOST_BYTES.false (λ none. some_number e (says ∙ none))) in
    search (rules, told)

pub returns-then-room-count : goal.returns-then-room-count
returns-then-room-count c =
    let none = sym (rw (c.slots.ensures.0, c.values.ensures.0) at c.in_ok-check_calls.ensures) in
    sym
    (probe_fault_room _ _ _ _ (sym c.in_ok-read.ensures) c.if-calls-ne0.false c.if-calls-gt-MOST_BYTES.false none c.if-room-count.true)

pub returns : goal.returns
returns c =
    let none = sym (rw (c.slots.ensures.0, c.values.ensures.0) at c.in_ok-check_calls.ensures) in
    sym
    (probe_fault_none _ _ _ _ (sym c.in_ok-read.ensures) c.if-calls-ne0.false c.if-calls-gt-MOST_BYTES.false none c.if-room-count.false)
