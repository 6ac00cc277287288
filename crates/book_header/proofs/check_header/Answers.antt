-- `book_header::check_header` meets its contract: each test decides one of the numbers 1 to 4, in the order of the definition.
-- Assumes nothing.
use mathlib.Core.Path.{sym, ◌∙◌}
use native.Mathlib.Omega.{arith}
use lib.ListN.{length}
use borrow.Author.Tests.{lt-ltb, le-ltb}
use Rattle.book.specs.Layout.{values, idle}
use Rattle.book.specs.Refusal.{header_fault}
use Rattle.book.proofs.RefusalLaws.{header_fault_idle}
use Rattle.book_header.proofs.check_header.Goals as goal

pub returns-then-book-lt12 : goal.returns-then-book-lt12
unfolding header_fault
returns-then-book-lt12 c =
    let b = c.before.before.args.book.now in
    simp (lt-ltb (length b) 12 c.if-book-lt12.true)

pub returns-then-out_of_range : goal.returns-then-out_of_range
unfolding header_fault
returns-then-out_of_range c =
    let b = c.before.before.before.before.args.book.now in
    simp (le-ltb (length b) 12 c.before.before.if-book-lt12.false, sym c.before.out_of_range.ensures ∙ c.if-out_of_range.true)

pub returns-then-values-idle : goal.returns-then-values-idle
returns-then-values-idle c =
    let s = c.before.before.before.before.before.before.before in
    let b = s.args.book.now in
    sym
    (header_fault_idle s.args.limits b (le-ltb (length b) 12 c.before.before.before.before.before.if-book-lt12.false)
    (sym c.before.before.before.before.out_of_range.ensures ∙ c.before.before.before.if-out_of_range.false)
    (omega arith))

pub returns-then-misplaced : goal.returns-then-misplaced
unfolding header_fault
returns-then-misplaced c =
    let b = c.before.before.before.before.before.before.before.before.before.args.book.now in
    simp (
      le-ltb (length b) 12 c.before.before.before.before.before.before.before.if-book-lt12.false,
      sym c.before.before.before.before.before.before.out_of_range.ensures ∙ c.before.before.before.before.before.if-out_of_range.false,
      le-ltb (values b) (idle b) (omega arith),
      sym c.before.misplaced.ensures ∙ c.if-misplaced.true,
    )

pub returns : goal.returns
unfolding header_fault
returns c =
    let b = c.before.before.before.before.before.before.before.before.before.args.book.now in
    simp (
      le-ltb (length b) 12 c.before.before.before.before.before.before.before.if-book-lt12.false,
      sym c.before.before.before.before.before.before.out_of_range.ensures ∙ c.before.before.before.before.before.if-out_of_range.false,
      le-ltb (values b) (idle b) (omega arith),
      sym c.before.misplaced.ensures ∙ c.if-misplaced.false,
    )
