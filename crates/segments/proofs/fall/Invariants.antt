-- What each turn of `segments::fall` keeps, and what falls from turn to turn.
use mathlib.Core.Path.{◌≡◌}
use Prim.Native.Nat.{◌+◌, ◌-◌, ◌≤◌}
use lib.ListN.{get_or}
use Rattle.segments_model.proofs.LinksLaws.{Seeking}
use Rattle.segments.proofs.fall.Given as goal

abbrev pub invariant-loop-d : goal.invariant-loop-d
invariant-loop-d l = Seeking l.n l.slot l.cells l.t × (l.t ≤ l.n) × (l.d ≡ get_or l.cells l.t 0)

abbrev pub decreases-loop-d : goal.decreases-loop-d
decreases-loop-d l = l.n + 1 - l.t
