-- `slots::bits_before` meets its contract: the whole word (`word_bits`), or its bits below the end's (`before_bits`). Assumes nothing.
use native.Mathlib.Omega.{arith}
use Rattle.slots.proofs.BlockLaws.{word_bits, before_bits}
use Rattle.slots.proofs.bits_before.Goals as goal

pub returns-then-base-end : goal.returns-then-base-end
returns-then-base-end c = word_bits c.args.x _ _ (omega (arith, c.ranges.x)) c.if-base-end.true

pub returns : goal.returns
returns c = before_bits c.args.x c.args.base c.args.end _ (omega (arith, c.ranges.x)) c.only.ensures
