-- What each turn of `mirroring::build_rows` keeps: the rows of the values below v are built.
use mathlib.Core.Bool.{true}
use Rattle.mirroring.specs.Built.{RowsBuilt}
use Rattle.mirroring.proofs.build_rows.Given as goal

abbrev pub invariant-loop-v : goal.invariant-loop-v
invariant-loop-v l = RowsBuilt l.lower l.n l.k l.rises l.masks l.initial.cells l.cells l.v true
