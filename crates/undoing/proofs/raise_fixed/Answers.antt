-- `undoing::raise_fixed` meets its contract: the slot's only value is that of the mask, the slot is put into the set of open slots (`upper_bit`), and
-- the value's upper row is raised (`upper_undone`). Assumes nothing.
use mathlib.Core.Path.{refl}
use Rattle.undoing.proofs.UndoneLaws.{upper_bit, upper_row, upper_undone}
use Rattle.undoing.proofs.raise_fixed.Goals as goal

pub open_slot-requires : goal.open_slot-requires
open_slot-requires c = upper_bit refl _ c.single_value-w.ensures.1 c.requires

pub raise_row-requires : goal.raise_row-requires
raise_row-requires c = upper_row refl _ c.single_value-w.ensures.1 c.open_slot.ensures _ _ refl refl c.requires

pub returns : goal.returns
returns c = upper_undone refl _ c.single_value-w.ensures.1 c.open_slot.ensures refl refl c.raise_row.ensures
