-- What each turn of `bounds::close_table` keeps, and what falls from turn to turn.
use Prim.Native.Nat.{◌+◌, ◌-◌, ◌*◌}
use Rattle.closing_model.specs.Table.{view}
use Rattle.closing_model.specs.Sweep.{slack}
use Rattle.closing_model.proofs.SweepLaws.{Uncrossed, LinesInv, SweepsInv}
use Rattle.bounds.proofs.close_table.Given as goal

abbrev pub invariant-loop-t : goal.invariant-loop-t
invariant-loop-t l = Uncrossed l.base l.t (view l.lowers l.uppers)

abbrev pub decreases-loop-t : goal.decreases-loop-t
decreases-loop-t l = l.n + 1 - l.t

abbrev pub invariant-loop-v : goal.invariant-loop-v
invariant-loop-v l = LinesInv l.n l.k l.initial.lowers l.initial.uppers l.lowers l.uppers l.changed l.v (l.v * (l.n + 1))

abbrev pub invariant-sweeps : goal.invariant-sweeps
invariant-sweeps l = SweepsInv l.n l.k l.initial.lowers l.initial.uppers l.lowers l.uppers

abbrev pub decreases-sweeps : goal.decreases-sweeps
decreases-sweeps l = slack l.lowers l.uppers
