-- What each turn of `building::fill` keeps, and what falls from turn to turn.
use mathlib.Core.Path.{◌≡◌}
use Prim.Native.Nat.{◌≤◌}
use lib.ListN.{length}
use Rattle.segments_model.specs.Build.{Counts}
use Rattle.building.specs.Built.{DoneAfter}
use Rattle.building.proofs.fill.Given as goal

abbrev pub invariant-loop-t : goal.invariant-loop-t
invariant-loop-t l =
    (l.t ≤ l.n) × (length l.cells ≡ length l.initial.cells) × Counts l.lower l.rises l.masks l.v l.t l.r l.k
    × DoneAfter l.lower l.n l.rises l.masks l.v l.t l.cells l.next

abbrev pub decreases-loop-t : goal.decreases-loop-t
decreases-loop-t l = l.t
