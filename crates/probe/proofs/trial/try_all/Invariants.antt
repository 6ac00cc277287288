-- What each turn of `probe::trial::try_all` keeps, and what falls from turn to turn.
use mathlib.Core.Path.{◌≡◌}
use Prim.Native.Nat.{◌-◌, ◌/◌}
use lib.ListN.{length}
use Rattle.probe.proofs.TrialLaws.{Loop}
use Rattle.probe.proofs.trial.try_all.Given as goal

abbrev pub invariant-loop-i : goal.invariant-loop-i
invariant-loop-i l =
    (l.i-end ≡ length l.calls / 4)
    × Loop l.calls l.initial.dead l.initial.masks l.initial.cells l.initial.trail l.n l.k l.i l.dead l.masks l.cells l.trail

abbrev pub decreases-loop-i : goal.decreases-loop-i
decreases-loop-i l = l.i-end - l.i
