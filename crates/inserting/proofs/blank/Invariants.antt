-- What each turn of `inserting::blank` keeps: cell 0 is 0, and the cells from 1 on and before t are links to the next place (`Fresh`).
use mathlib.Core.Path.{◌≡◌}
use Prim.Native.Nat.{◌-◌, ◌<◌}
use lib.ListN.{length, get_or}
use Rattle.segments_model.specs.Links.{Fresh}
use Rattle.inserting.proofs.blank.Given as goal

abbrev pub invariant-loop-t : goal.invariant-loop-t
invariant-loop-t l = (0 < l.t) × (length l.cells ≡ length l.initial.cells) × (get_or l.cells 0 0 ≡ 0) × Fresh (l.t - 1) l.cells
