-- What each turn of `canonical_rows::write_rows` keeps.
use Rattle.closing_model.specs.Table.{view}
use Rattle.canonical_model.specs.CornerRows.{canonical_rows}
use Rattle.canonical_rows.specs.Lines.{RowsWritten}
use Rattle.canonical_rows.proofs.write_rows.Given as goal

abbrev pub invariant-loop-v : goal.invariant-loop-v
invariant-loop-v l = RowsWritten (canonical_rows l.n l.v (view l.lowers l.uppers)) l.initial.out l.place l.out l.next
