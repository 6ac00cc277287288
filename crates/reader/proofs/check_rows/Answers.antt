-- `reader::check_rows` meets its contract. The loop's invariant: i is at most count, and no row below i has a fault. The measure
-- is count less i. A turn is `first_more` or `first_at`. Assumes nothing.
use mathlib.Core.Path.{◌≡◌, refl, sym}
use native.Mathlib.Omega.{arith}
use Rattle.std.proofs.Common.{rules}
use Rattle.answer.specs.Answer as Answer
use Rattle.book.specs.Layout.{row_at}
use Rattle.book.specs.Refusal.{first_of, row_fault}
use Rattle.book.proofs.RefusalLaws.{first_more, first_at, some_number}
use Rattle.reader.proofs.check_rows.Goals as goal

pub loop-i-init : goal.loop-i-init
unfolding first_of
loop-i-init c = (omega arith, refl)

pub returns-in_err-check_row : goal.returns-in_err-check_row
returns-in_err-check_row c =
    let e = c.in_err-check_row.field-0.0 in
    let told = first_at c.args.count (λ j. row_fault c.args.n c.args.k (row_at c.args.rows.now j)) c.loop-i.i (Answer.number_of e)
    c.loop-i.invariant.1 c.loop-i-test.true (rw c.row_at.ensures at c.in_err-check_row.ensures) (some_number e) in
    search (rules, told)

pub loop-i-preserved : goal.loop-i-preserved
loop-i-preserved c = (
  omega arith,
  first_more (λ j. row_fault c.args.n c.args.k (row_at c.args.rows.now j)) c.loop-i.i c.loop-i.invariant.1
      (rw c.row_at.ensures at (sym c.in_ok-check_row.ensures)),
)

pub returns : goal.returns
returns c =
    let i≡count : c.loop-i.i ≡ c.args.count = omega arith in
    rw i≡count at (sym c.loop-i.invariant.1)
