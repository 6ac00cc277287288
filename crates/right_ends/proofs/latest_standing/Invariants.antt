-- What each turn of `right_ends::latest_standing` keeps.
use Prim.Native.Nat.{◌+◌, ◌<◌}
use Rattle.segments_model.specs.Links.{gaps}
use Rattle.segments_model.specs.Search.{Gap}
use Rattle.right_ends.proofs.latest_standing.Given as goal

abbrev pub invariant-loop-p : goal.invariant-loop-p
invariant-loop-p l = (l.z < l.p) × Gap (gaps l.cells) l.p (l.slot + 1)
