-- `probe::trial::try_one` meets its contract: what the assignment struck is taken back, Live or Dead (`tried_undoable`), and the byte is whether the cut masks
-- settle (`trial_tried`). Assumes nothing.
use mathlib.Core.Path.{sym}
use Rattle.probe.proofs.TrialLaws.{trying_ready, tried_undoable, trial_tried}
use Rattle.probe.proofs.trial.try_one.Goals as goal

pub fix-code-requires : goal.fix-code-requires
fix-code-requires c = trying_ready c.requires

pub undo-requires : goal.undo-requires
undo-requires c = rw c.height.ensures (tried_undoable c.requires _ c.fix-code.ensures)

-- dead
pub returns-then-is_dead : goal.returns-then-is_dead
returns-then-is_dead c =
    let done = trial_tried c.requires _ c.fix-code.ensures (rw c.height.ensures at c.undo.ensures) in
    rw (sym c.is_dead.ensures, c.if-is_dead.true) at done

-- live
pub returns : goal.returns
returns c =
    let done = trial_tried c.requires _ c.fix-code.ensures (rw c.height.ensures at c.undo.ensures) in
    rw (sym c.is_dead.ensures, c.if-is_dead.false) at done
