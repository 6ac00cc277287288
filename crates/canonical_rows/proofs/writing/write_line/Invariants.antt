-- What each turn of `canonical_rows::writing::write_line` keeps, and what falls from turn to turn.
use Prim.Native.Nat.{◌-◌}
use Rattle.closing_model.specs.Table.{view}
use Rattle.canonical_rows.proofs.RowsLaws.{Span}
use Rattle.canonical_rows.proofs.writing.write_line.Given as goal

abbrev pub invariant-loop-t : goal.invariant-loop-t
invariant-loop-t l = Span l.n (view l.lowers l.uppers) l.v 0 l.n l.initial.out l.place l.out l.next l.t

abbrev pub decreases-loop-t : goal.decreases-loop-t
decreases-loop-t l = l.n - l.t
