-- What each turn of `canonical_rows::writing::write_block` keeps, and what falls from turn to turn.
use Prim.Native.Nat.{◌+◌, ◌-◌}
use Rattle.closing_model.specs.Table.{view}
use Rattle.canonical_rows.proofs.RowsLaws.{Span}
use Rattle.canonical_rows.proofs.writing.write_block.Given as goal

abbrev pub invariant-loop-next : goal.invariant-loop-next
invariant-loop-next l = Span l.n (view l.lowers l.uppers) l.v l.from (l.from + 8) l.initial.out l.place l.out l.next l.t

abbrev pub decreases-loop-next : goal.decreases-loop-next
decreases-loop-next l = l.from + 8 - l.t
