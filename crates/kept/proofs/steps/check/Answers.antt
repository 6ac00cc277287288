-- `kept::steps::check` meets its contract: the tests of the list, of the calls so far and of the room (`step_fault_parts` .. `step_fault_none`).
-- Assumes nothing.
use mathlib.Core.Path.{sym}
use native.Mathlib.Omega.{arith}
use Rattle.kept_model.proofs.EntriesLaws.{step_fault_parts, step_fault_long, step_fault_many, step_fault_room, step_fault_none}
use Rattle.kept.proofs.steps.check.Goals as goal

pub returns-then-bytes-ne0 : goal.returns-then-bytes-ne0
returns-then-bytes-ne0 c = sym (step_fault_parts _ _ _ c.if-bytes-ne0.true)

pub returns-then-bytes-gt-MOST_BYTES : goal.returns-then-bytes-gt-MOST_BYTES
returns-then-bytes-gt-MOST_BYTES c = sym (step_fault_long _ _ _ c.if-bytes-gt-MOST_BYTES.true)

pub returns-then-count-made : goal.returns-then-count-made
returns-then-count-made c = sym (step_fault_many _ _ _ (omega (arith, c.if-count-made.true)))

pub returns-then-room-count : goal.returns-then-room-count
returns-then-room-count c =
    sym (step_fault_room _ _ _ c.if-bytes-ne0.false c.if-bytes-gt-MOST_BYTES.false
    (omega (arith, c.if-count-made.false, c.if-bytes-gt-MOST_BYTES.false)) c.if-room-count.true)

pub returns : goal.returns
returns c =
    sym (step_fault_none _ _ _ c.if-bytes-ne0.false c.if-bytes-gt-MOST_BYTES.false
    (omega (arith, c.if-count-made.false, c.if-bytes-gt-MOST_BYTES.false)) c.if-room-count.false)
