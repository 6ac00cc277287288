-- `book_header::misplaced` meets its contract: each test decides one condition, in the order of the definition. Assumes nothing.
use Prim.Native.Nat.{◌+◌, ◌*◌}
use native.Mathlib.Omega.{arith}
use borrow.Author.Tests.{eq-eqb, ne_eqb}
use Rattle.book.specs.Layout.{slots, row_count, masks_offset, rows_offset, book_length}
use Rattle.book_header.proofs.misplaced.Goals as goal

pub returns-then-read16-ne12 : goal.returns-then-read16-ne12
returns-then-read16-ne12 c =
    let b = c.before.before.before.before.before.args.book.now in
    simp (ne_eqb (masks_offset b) 12 (λ e. omega arith))

pub returns-then-read16-rows_at : goal.returns-then-read16-rows_at
returns-then-read16-rows_at c =
    let b = c.before.before.before.before.before.before.before.args.book.now in
    simp (eq-eqb (masks_offset b) 12 (omega arith), ne_eqb (rows_offset b) (12 + 4 * slots b) (λ e. omega arith))

pub returns-then-read16-end : goal.returns-then-read16-end
returns-then-read16-end c =
    let b = c.before.before.before.before.before.before.before.before.before.args.book.now in
    simp (
      eq-eqb (masks_offset b) 12 (omega arith),
      eq-eqb (rows_offset b) (12 + 4 * slots b) (omega arith),
      ne_eqb (book_length b) (12 + 4 * slots b + 8 * row_count b) (λ e. omega arith),
    )

pub returns : goal.returns
returns c =
    let b = c.before.before.before.before.before.before.before.before.before.args.book.now in
    simp (
      eq-eqb (masks_offset b) 12 (omega arith),
      eq-eqb (rows_offset b) (12 + 4 * slots b) (omega arith),
      eq-eqb (book_length b) (12 + 4 * slots b + 8 * row_count b) (omega arith),
      c.before.before.before.before.before.before.before.slots.ensures.0,
      c.before.before.before.before.before.before.row_count.ensures.0,
    )
