-- `session_fault::check` meets its contract: the reader's refusal, else the tests of the call list and of the room
-- (`session_fault_refuses` .. `session_fault_none`). Assumes nothing.
use mathlib.Core.Path.{sym}
use Rattle.std.proofs.Common.{rules}
use Rattle.book.proofs.BookLaws.{good_facts}
use Rattle.session_fault.proofs.EntryLaws.{session_fault_refuses, session_fault_parts, session_fault_long}
use Rattle.session_fault.proofs.EntryLaws.{session_fault_words, session_fault_masks, session_fault_none}
use Rattle.session_fault.proofs.check.Goals as goal

pub returns-in_err-read : goal.returns-in_err-read
returns-in_err-read c =
    let told = session_fault_refuses c.args.limits c.args.book.now c.args.bytes c.args.words c.args.room c.in_err-read.field-0.0 c.in_err-read.ensures in
    search (rules, told)

pub returns-then-bytes-ne0 : goal.returns-then-bytes-ne0
returns-then-bytes-ne0 c = sym (session_fault_parts _ _ _ _ _ (sym c.in_ok-read.ensures) c.if-bytes-ne0.true)

pub returns-then-bytes-gt16384 : goal.returns-then-bytes-gt16384
returns-then-bytes-gt16384 c = sym (session_fault_long _ _ _ _ _ (sym c.in_ok-read.ensures) c.if-bytes-gt16384.true)

pub returns-then-words-count : goal.returns-then-words-count
returns-then-words-count c =
    sym (session_fault_words _ _ _ _ _ (sym c.in_ok-read.ensures) c.if-bytes-ne0.false c.if-bytes-gt16384.false c.if-words-count.true)

pub slots-requires : goal.slots-requires
slots-requires c = (good_facts c.args.limits c.args.book.now (sym c.in_ok-read.ensures)).header.header_inside

pub returns-then-room-slots : goal.returns-then-room-slots
returns-then-room-slots c =
    sym
    (session_fault_masks _ _ _ _ _ (sym c.in_ok-read.ensures) c.if-bytes-ne0.false c.if-bytes-gt16384.false
    (rw c.slots.ensures.0 at c.if-room-slots.true))

pub returns : goal.returns
returns c =
    sym
    (session_fault_none _ _ _ _ _ (sym c.in_ok-read.ensures) c.if-bytes-ne0.false c.if-bytes-gt16384.false c.if-words-count.false
    (rw c.slots.ensures.0 at c.if-room-slots.false))
