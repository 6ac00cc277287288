-- `book_items::mask_fits` meets its contract: a mask of 32 bits has no digit from 32 up, and below 32 the digits from k up are
-- those that the shift leaves (`mask_fault_shift`). Assumes nothing.
use Prim.Native.Nat.{◌^◌}
use native.Mathlib.Nat.{lt_of_lt_of_le}
use lib.Pow.{pow_mono}
use borrow.Author.Tests.{eq-eqb, ne_eqb, lt-leb}
use Rattle.book.specs.Refusal.{mask_fault}
use Rattle.book.proofs.RefusalLaws.{mask_fault_shift}
use Rattle.book_items.proofs.mask_fits.Goals as goal

pub returns-then-m-eq0 : goal.returns-then-m-eq0
unfolding mask_fault
returns-then-m-eq0 c = simp (eq-eqb c.before.args.m 0 c.if-m-eq0.true)

pub returns-then-k-ge32 : goal.returns-then-k-ge32
unfolding mask_fault
returns-then-k-ge32 c =
    let s = c.before.before in
    simp (
      ne_eqb s.args.m 0 c.before.if-m-eq0.false,
      lt-leb (2 ^ s.args.k) s.args.m (lt_of_lt_of_le s.ranges.m.fits (pow_mono c.if-k-ge32.true)),
    )

pub returns : goal.returns
returns c = mask_fault_shift c.before.before.args.k c.before.before.args.m c.before.if-m-eq0.false
