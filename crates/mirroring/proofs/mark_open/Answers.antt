-- `mirroring::mark_open` meets its contract. The invariant of its loop: the words before b are written (`Marked`). Each
-- turn is `marked_more`. Assumes nothing.
use native.Mathlib.Omega.{arith}
use Rattle.mirroring.proofs.BuiltLaws.{marked_none, marked_more, marked_all}
use Rattle.mirroring.proofs.mark_open.Goals as goal

pub loop-b-init : goal.loop-b-init
loop-b-init c = marked_none _ _ _ _

pub open_word-x-requires : goal.open_word-x-requires
open_word-x-requires c = (c.requires.slots, omega (arith, c.loop-b-test.true))

pub bounds-cells-k : goal.bounds-cells-k
bounds-cells-k c = omega (arith, c.loop-b-test.true, c.requires.rows, c.loop-b.invariant.size)

pub loop-b-preserved : goal.loop-b-preserved
loop-b-preserved c = marked_more c.loop-b-test.true c.requires.rows c.loop-b.invariant c.open_word-x.ensures

pub shape_of-cells : goal.shape_of-cells
shape_of-cells c = c.loop-b.invariant.size

pub returns : goal.returns
returns c = marked_all (omega (arith, c.loop-b-test.false)) c.loop-b.invariant
