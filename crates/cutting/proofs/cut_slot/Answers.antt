-- `cutting::cut_slot` meets its contract: the filter's `fix` where it is an assign, else its `strike`. Assumes nothing.
use mathlib.Core.Path.{sym}
use Rattle.filter.proofs.FilteredLaws.{filtered_at}
use Rattle.cutting.proofs.cut_slot.Goals as goal

pub returns-then-assign : goal.returns-then-assign
returns-then-assign c = filtered_at (sym c.told.ensures) (rw c.if-assign.true c.fix.ensures)

pub returns : goal.returns
returns c = filtered_at (sym c.told-2.ensures) (rw c.if-assign.false c.strike.ensures)
