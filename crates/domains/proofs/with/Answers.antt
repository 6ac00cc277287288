-- `domains::with` meets its contract: the bit at its place, and the sum, stay below 2 ^ 32 (`put_lt`). Assumes nothing.
use native.Mathlib.Omega.{arith}
use Rattle.domains.proofs.MaskLaws.{shifted, put_lt}
use Rattle.domains.proofs.with.Goals as goal

pub overflow_add-result : goal.overflow_add-result
overflow_add-result c =
    record {
      fits = omega (arith, shifted c.args.v c.requires.0, put_lt 32 c.args.m c.args.v c.requires.0 c.ranges.m.fits c.requires.1);
    }

pub returns : goal.returns
returns c = omega (arith, shifted c.args.v c.requires.0)
