-- `acts::act::show` meets its contract: the slot's mask is the machine's (`show_acts`). Assumes nothing.
use Rattle.acts.proofs.CallLaws.{show_acts}
use Rattle.acts.proofs.act.show.Goals as goal

pub returns : goal.returns
returns c = show_acts c.args.masks.now c.args.session c.args.slot
