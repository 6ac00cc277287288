-- What each turn of `bands::narrow_band` keeps.
use Rattle.bands.proofs.BandLaws.{BandInv}
use Rattle.bands.proofs.narrow_band.Given as goal

abbrev pub invariant-loop-v : goal.invariant-loop-v
invariant-loop-v l = BandInv l.n l.k l.t l.above l.below l.initial.lowers l.initial.uppers l.lowers l.uppers l.moved l.v
