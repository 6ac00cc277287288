-- What each turn of `standing::standing` keeps, and what falls from turn to turn.
-- A `for` loop needs no measure: this one refuses the wrong edit `count_never_ends`.
use mathlib.Core.Path.{◌≡◌}
use Prim.Native.Nat.{◌-◌, ◌≤◌}
use Rattle.segments_model.specs.Cells.{standing_in}
use Rattle.segments_model.specs.Links.{gaps}
use Rattle.standing.proofs.standing.Given as goal

abbrev pub invariant-loop-t : goal.invariant-loop-t
invariant-loop-t l = (l.t ≤ l.n) × (l.count ≤ l.t) × (l.count ≡ standing_in (gaps l.cells) l.t)

abbrev pub decreases-loop-t : goal.decreases-loop-t
decreases-loop-t l = l.n - l.t
