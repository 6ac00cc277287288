-- `acts::act::mark` meets its contract: the trail's height is noted for the masks as they are (`mark_acts`). Assumes nothing.
use Rattle.acts.proofs.CallLaws.{mark_acts}
use Rattle.acts.proofs.act.mark.Goals as goal

pub returns : goal.returns
returns c = mark_acts c.requires
