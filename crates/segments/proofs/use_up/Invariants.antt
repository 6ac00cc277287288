-- What each turn of `segments::use_up` keeps, and what falls from turn to turn.
use mathlib.Core.Path.{◌≡◌}
use Prim.Native.Nat.{◌+◌, ◌-◌, ◌<◌}
use Rattle.segments_model.specs.Links.{gaps, Linked}
use Rattle.segments_model.specs.Search.{Gap}
use Rattle.segments.proofs.use_up.Given as goal

abbrev pub invariant-loop-e : goal.invariant-loop-e
invariant-loop-e l = (l.cells ≡ l.initial.cells) × (l.z < l.e) × (Linked l.n l.initial.cells → Gap (gaps l.initial.cells) (l.z + 1) l.e)

abbrev pub decreases-loop-e : goal.decreases-loop-e
decreases-loop-e l = l.slot + 1 - l.e
