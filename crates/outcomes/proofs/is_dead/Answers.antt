-- `outcomes::is_dead` meets its contract: an odd number is a dead one (`code_flag`). Assumes nothing.
use Rattle.outcomes.proofs.CodeLaws.{code_flag}
use Rattle.outcomes.proofs.is_dead.Goals as goal

pub returns : goal.returns
returns c = code_flag _
