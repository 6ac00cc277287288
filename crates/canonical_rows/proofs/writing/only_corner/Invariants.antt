-- What each turn of `canonical_rows::writing::only_corner` keeps.
use Rattle.closing_model.specs.Table.{view}
use Rattle.canonical_rows.proofs.RowsLaws.{Weighed}
use Rattle.canonical_rows.proofs.writing.only_corner.Given as goal

abbrev pub invariant-loop-i : goal.invariant-loop-i
invariant-loop-i l = Weighed l.n (view l.lowers l.uppers) l.v l.from l.sum l.i
