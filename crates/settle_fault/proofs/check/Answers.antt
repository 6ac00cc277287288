-- `settle_fault::check` meets its contract: the reader's refusal, else the test of the room (`settle_fault_refuses`, `settle_fault_short`,
-- `settle_fault_none`). Assumes nothing.
use mathlib.Core.Path.{sym}
use Rattle.std.proofs.Common.{rules}
use Rattle.book.proofs.BookLaws.{good_facts}
use Rattle.settle_fault.proofs.SettleLaws.{settle_fault_refuses, settle_fault_short, settle_fault_none}
use Rattle.settle_fault.proofs.check.Goals as goal

pub returns-in_err-read : goal.returns-in_err-read
returns-in_err-read c =
    let told = settle_fault_refuses c.args.limits c.args.book.now c.args.room c.in_err-read.field-0.0 c.in_err-read.ensures in
    search (rules, told)

pub slots-requires : goal.slots-requires
slots-requires c = (good_facts c.args.limits c.args.book.now (sym c.in_ok-read.ensures)).header.header_inside

pub returns-then-room-slots : goal.returns-then-room-slots
returns-then-room-slots c = sym (settle_fault_short _ _ _ (sym c.in_ok-read.ensures) (rw c.slots.ensures.0 at c.if-room-slots.true))

pub returns : goal.returns
returns c = sym (settle_fault_none _ _ _ (sym c.in_ok-read.ensures) (rw c.slots.ensures.0 at c.if-room-slots.false))
