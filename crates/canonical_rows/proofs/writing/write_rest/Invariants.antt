-- What each turn of `canonical_rows::writing::write_rest` keeps.
use Rattle.closing_model.specs.Table.{view}
use Rattle.canonical_rows.proofs.RowsLaws.{Span}
use Rattle.canonical_rows.proofs.writing.write_rest.Given as goal

abbrev pub invariant-loop-t : goal.invariant-loop-t
invariant-loop-t l = Span l.n (view l.lowers l.uppers) l.v l.from l.n l.initial.out l.place l.out l.next l.t
