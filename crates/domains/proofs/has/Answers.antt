-- `domains::has` meets its contract: the lowest digit of m shifted by v is bit v of m. Assumes nothing.
use borrow.Author.Rules.{rules}
use Rattle.domains.specs.Mask.{test_bit}
use Rattle.domains.proofs.has.Goals as goal

pub returns : goal.returns
unfolding test_bit
returns c = search rules
