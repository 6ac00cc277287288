-- `domains::single_value` meets its contract: in a mask of one value the trailing zeros say which (`single_fixed`). Assumes nothing.
use Rattle.domains.proofs.MaskLaws.{single_fixed}
use Rattle.domains.proofs.single_value.Goals as goal

pub returns : goal.returns
returns c = single_fixed 32 c.args.m c.ranges.m.fits c.requires
