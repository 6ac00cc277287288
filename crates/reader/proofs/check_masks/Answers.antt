-- `reader::check_masks` meets its contract. The loop's invariant: s is at most n, and no mask below s has a fault. The measure
-- is n less s. A turn is `first_more` or `first_at`. Assumes nothing.
use mathlib.Core.Path.{◌≡◌, refl, sym}
use native.Mathlib.Omega.{arith}
use borrow.Author.Tests.{eqb-false}
use Rattle.book.specs.Layout.{mask_at}
use Rattle.book.specs.Refusal.{first_of, mask_fault}
use Rattle.book.proofs.RefusalLaws.{zero_of_test, nonzero_of_test, first_more, first_at, mask_fault_some}
use Rattle.reader.proofs.check_masks.Goals as goal

pub loop-s-init : goal.loop-s-init
unfolding first_of
loop-s-init c = (omega arith, refl)

pub returns-then-not-mask_fits : goal.returns-then-not-mask_fits
returns-then-not-mask_fits c =
    let s = c in
    let m = c.mask_at.result in
    let some = nonzero_of_test (mask_fault s.args.k m) c.mask_fits.ensures c.if-not-mask_fits.true-raw in
    first_at s.args.n (λ j. mask_fault s.args.k (mask_at s.args.book.now j)) c.loop-s.s 5 c.loop-s.invariant.1
    c.loop-s-test.true (rw c.mask_at.ensures at (sym (mask_fault_some s.args.k m some))) (eqb-false 5 0 refl)

pub loop-s-preserved : goal.loop-s-preserved
loop-s-preserved c =
    let s = c in
    let none = zero_of_test (mask_fault s.args.k c.mask_at.result) c.mask_fits.ensures c.if-not-mask_fits.false-raw in (
      omega arith,
      first_more (λ j. mask_fault s.args.k (mask_at s.args.book.now j)) c.loop-s.s c.loop-s.invariant.1
          (rw c.mask_at.ensures at none),
    )

pub returns : goal.returns
returns c =
    let s≡n : c.loop-s.s ≡ c.args.n = omega arith in
    rw s≡n at (sym c.loop-s.invariant.1)
