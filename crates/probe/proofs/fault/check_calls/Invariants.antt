-- What each turn of `probe::fault::check_calls` keeps, and what falls from turn to turn.
use mathlib.Core.Path.{◌≡◌}
use Prim.Native.Nat.{◌-◌, ◌≤◌}
use Rattle.book.specs.Refusal.{first_of}
use Rattle.probe_model.specs.Probe.{call_fault_at}
use Rattle.probe.proofs.fault.check_calls.Given as goal

abbrev pub invariant-loop-i : goal.invariant-loop-i
invariant-loop-i l = (first_of l.i (call_fault_at l.n l.k l.calls) ≡ 0) × (l.i ≤ l.count)

abbrev pub decreases-loop-i : goal.decreases-loop-i
decreases-loop-i l = l.count - l.i
