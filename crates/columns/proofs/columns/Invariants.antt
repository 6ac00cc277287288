-- What each turn of `columns::columns` keeps, and what falls from turn to turn.
use Prim.Native.Nat.{◌+◌, ◌-◌}
use Rattle.closing_model.specs.Table.{size}
use Rattle.closing_model.specs.Sweep.{Columns, Ran}
use Rattle.columns.proofs.columns.Given as goal

abbrev pub invariant-loop-t : goal.invariant-loop-t
invariant-loop-t l =
    Ran (size l.n l.k) (Columns l.n l.k (l.n + 1)) (Columns l.n l.k l.t) l.initial.lowers l.initial.uppers l.lowers l.uppers l.changed

abbrev pub decreases-loop-t : goal.decreases-loop-t
decreases-loop-t l = l.n + 1 - l.t
