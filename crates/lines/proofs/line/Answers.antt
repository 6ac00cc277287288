-- `lines::line` meets its contract: where the line does not keep its rules, two passes that stored nothing would leave it so (`line_moved`).
-- Assumes nothing.
use Rattle.closing_model.proofs.RanLaws.{decided_false}
use Rattle.closing_model.proofs.LineLaws.{line_moved}
use Rattle.lines.proofs.line.Goals as goal

pub returns : goal.returns
returns c = line_moved _ _ (decided_false _ c.if-keeps.false c.keeps.ensures) c.forward_pass.ensures c.backward_pass.ensures
