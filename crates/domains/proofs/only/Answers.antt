-- `domains::only` meets its contract: the bit at its place stays below 2 ^ 32 (`shifted`). Assumes nothing.
use Rattle.domains.proofs.MaskLaws.{shifted}
use Rattle.domains.proofs.only.Goals as goal

pub returns : goal.returns
returns c = shifted c.args.v c.requires
