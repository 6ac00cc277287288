-- `slots::bits_from` meets its contract: the bits from the start's on (`from_bits`). Assumes nothing.
use native.Mathlib.Nat.{mod-le}
use native.Mathlib.Omega.{arith}
use Rattle.slots.proofs.BlockLaws.{from_bits}
use Rattle.slots.proofs.bits_from.Goals as goal

pub overflow_sub-result : goal.overflow_sub-result
overflow_sub-result c = omega (arith, mod-le c.args.x c.only.result)

pub returns : goal.returns
returns c = from_bits _ c.args.base c.args.start _ (omega (arith, c.if-start-base.false)) c.only.ensures
