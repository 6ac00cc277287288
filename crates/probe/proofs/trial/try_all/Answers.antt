-- `probe::trial::try_all` meets its contract. The invariant: the masks and the cells are those at entry, and the first i bytes are written (`Loop`).
-- The measure is what is left of the calls. One call more: `loop_next`, which comes first, so that a byte of another call is refused there. Assumes nothing.
use mathlib.Core.Path.{refl}
use native.Mathlib.Omega.{arith}
use Rattle.probe.proofs.TrialLaws.{loop_start, loop_trying, loop_next, loop_end}
use Rattle.probe.proofs.trial.try_all.Goals as goal

pub loop-i-preserved : goal.loop-i-preserved
loop-i-preserved c =
    let did = rw (c.slot_in-slot.ensures, c.value_in-v.ensures.0) at c.try_one.ensures in (
      c.loop-i.invariant.0,
      loop_next c.requires c.loop-i.invariant.1 (omega (arith, c.loop-i-test.true, c.loop-i.invariant.0)) c.try_one.result c.try_one.auto.trail did,
    )

pub loop-i-init : goal.loop-i-init
loop-i-init c = (refl, loop_start _ _ _ _ _ _ _)

pub try_one-requires : goal.try_one-requires
try_one-requires c =
    rw (c.slot_in-slot.ensures, c.value_in-v.ensures.0)
    (loop_trying c.requires c.loop-i.invariant.1 (omega (arith, c.loop-i-test.true, c.loop-i.invariant.0)))

pub returns : goal.returns
returns c =
    let inv = c.loop-i.invariant in
    loop_end inv.1 (omega (arith, c.loop-i-test.false, inv.0, inv.1.within))
