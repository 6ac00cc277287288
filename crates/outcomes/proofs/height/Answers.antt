-- `outcomes::height` meets its contract: half of the number is the height (`code_height`). Assumes nothing.
use Rattle.outcomes.proofs.CodeLaws.{code_height}
use Rattle.outcomes.proofs.height.Goals as goal

pub returns : goal.returns
returns c = code_height _
