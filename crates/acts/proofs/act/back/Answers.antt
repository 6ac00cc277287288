-- `acts::act::back` meets its contract: the strikes from the latest mark's height on, taken back, lead to the masks saved there (`back_acts`).
-- Assumes nothing.
use Rattle.acts.proofs.CallLaws.{backing_undoable, back_acts}
use Rattle.acts.proofs.act.back.Goals as goal

pub undo-requires : goal.undo-requires
undo-requires c = backing_undoable c.requires c.height-from.ensures

pub returns : goal.returns
returns c = back_acts c.requires c.height-from.ensures c.undo.ensures
