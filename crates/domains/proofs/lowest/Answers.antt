-- `domains::lowest` meets its contract: the trailing zeros say which value is the lowest (`trailing_lowest`). Assumes nothing.
use Rattle.domains.proofs.MaskLaws.{trailing_lowest}
use Rattle.domains.proofs.lowest.Goals as goal

pub returns : goal.returns
returns c = trailing_lowest 32 c.args.m c.ranges.m.fits c.requires
