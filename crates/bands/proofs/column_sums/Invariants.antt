-- What each turn of `bands::column_sums` keeps.
use Rattle.bands.specs.Band.{SumsUpto}
use Rattle.bands.proofs.column_sums.Given as goal

abbrev pub invariant-loop-v : goal.invariant-loop-v
invariant-loop-v l = SumsUpto l.n l.t l.table l.v l.sums
