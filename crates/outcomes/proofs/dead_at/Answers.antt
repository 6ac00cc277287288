-- `outcomes::dead_at` meets its contract: `code_dead`. Assumes nothing.
use Rattle.outcomes.proofs.CodeLaws.{code_dead}
use Rattle.outcomes.proofs.dead_at.Goals as goal

pub returns : goal.returns
returns c = code_dead _
