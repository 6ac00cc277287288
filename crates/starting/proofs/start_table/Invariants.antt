-- What each turn of `starting::start_table` keeps.
use Rattle.book.specs.Layout.{values, row_at}
use Rattle.starting.proofs.StartedLaws.{Started}
use Rattle.starting.proofs.start_table.Given as goal

abbrev pub invariant-loop-i : goal.invariant-loop-i
invariant-loop-i l = Started l.n (values l.book) (row_at l.part) l.i l.lowers l.uppers
