-- `domains::less` meets its contract: where m has v, the bit at its place is part of m, and what is left is `clear_bit` (`clear_bit_has`).
-- Assumes nothing.
use native.Mathlib.Omega.{arith}
use Rattle.domains.proofs.MaskLaws.{shifted, clear_bit_has}
use Rattle.domains.proofs.less.Goals as goal

pub overflow_sub-result : goal.overflow_sub-result
overflow_sub-result c = omega (arith, shifted c.args.v c.requires.0, clear_bit_has c.args.m c.args.v c.requires.1)

pub returns : goal.returns
returns c = omega (arith, shifted c.args.v c.requires.0, clear_bit_has c.args.m c.args.v c.requires.1)
