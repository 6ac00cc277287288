-- `outcomes::live_at` meets its contract: `code_live`. Assumes nothing.
use Rattle.outcomes.proofs.CodeLaws.{code_live}
use Rattle.outcomes.proofs.live_at.Goals as goal

pub returns : goal.returns
returns c = code_live _
