-- `book_masks::load_masks` meets its contract. The loop's invariant: the masks before slot are the book's, and the rest is as lent (`Filled`).
-- `filled_more`, one store more, is the turn. Assumes nothing.
use native.Mathlib.Omega.{arith}
use Rattle.filling.proofs.FillLaws.{filled_none, filled_more}
use Rattle.book_masks.proofs.load_masks.Goals as goal

pub loop-slot-init : goal.loop-slot-init
loop-slot-init c = filled_none _ _

pub loop-slot-preserved : goal.loop-slot-preserved
loop-slot-preserved c = filled_more _ c.mask_at.result c.mask_at.ensures (omega arith) c.loop-slot.invariant
