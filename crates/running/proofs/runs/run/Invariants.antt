-- What each turn of `running::runs::run` keeps, and what falls from turn to turn.
use mathlib.Core.Path.{◌≡◌}
use Prim.Native.Nat.{◌/◌, ◌≤◌}
use lib.ListN.{length}
use Rattle.session_model.specs.Calls.{calls_to}
use Rattle.running_model.proofs.RunsLaws.{Lengths}
use Rattle.running_model.specs.Runs.{Runs}
use Rattle.running.proofs.runs.run.Given as goal

abbrev pub invariant-loop-i : goal.invariant-loop-i
invariant-loop-i l =
    (l.i ≤ l.count)
    × (l.count ≡ length l.calls / 4)
    × Lengths l.initial.masks l.initial.cells l.initial.trail l.initial.heights l.initial.answers l.masks l.cells l.trail l.heights l.answers
    × Runs l.n l.k l.made (calls_to l.calls l.i) l.initial.at l.initial.masks l.initial.cells l.initial.trail l.initial.heights l.initial.answers
    l.at l.masks l.cells l.trail l.heights l.answers
