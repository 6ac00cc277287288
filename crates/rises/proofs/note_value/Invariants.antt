-- What each turn of `rises::note_value` keeps.
use Prim.Native.Nat.{◌+◌}
use Rattle.filling.proofs.FillLaws.{Filled}
use Rattle.rises.specs.Rises.{rise_mask}
use Rattle.rises.proofs.note_value.Given as goal

abbrev pub invariant-loop-t : goal.invariant-loop-t
invariant-loop-t l = Filled (rise_mask l.n l.table (l.v + 1)) l.initial.rises (l.t + 1) l.rises
