-- `closing::check` meets its contract: the reader's refusal, else the two tests of the room (`close_fault_refuses`, `close_fault_lowers`,
-- `close_fault_uppers`, `close_fault_none`). Assumes nothing.
use mathlib.Core.Path.{sym}
use Rattle.std.proofs.Common.{rules}
use Rattle.book.proofs.BookLaws.{good_facts}
use Rattle.closing.proofs.CloseLaws.{close_fault_refuses, close_fault_lowers, close_fault_uppers, close_fault_none}
use Rattle.closing.proofs.check.Goals as goal

pub returns-in_err-read : goal.returns-in_err-read
returns-in_err-read c =
    let told = close_fault_refuses c.args.limits c.args.book.now c.args.lowers c.args.uppers c.in_err-read.field-0.0 c.in_err-read.ensures in
    search (rules, told)

pub table_size-m-requires : goal.table_size-m-requires
table_size-m-requires c = (good_facts c.args.limits c.args.book.now (sym c.in_ok-read.ensures)).header.header_inside

pub returns-then-lowers-m : goal.returns-then-lowers-m
returns-then-lowers-m c =
    sym (close_fault_lowers _ _ _ _ (sym c.in_ok-read.ensures) (rw c.table_size-m.ensures at c.if-lowers-m.true))

pub returns-then-uppers-m : goal.returns-then-uppers-m
returns-then-uppers-m c =
    sym
    (close_fault_uppers _ _ _ _ (sym c.in_ok-read.ensures) (rw c.table_size-m.ensures at c.if-lowers-m.false)
    (rw c.table_size-m.ensures at c.if-uppers-m.true))

pub returns : goal.returns
returns c =
    sym
    (close_fault_none _ _ _ _ (sym c.in_ok-read.ensures) (rw c.table_size-m.ensures at c.if-lowers-m.false)
    (rw c.table_size-m.ensures at c.if-uppers-m.false))
