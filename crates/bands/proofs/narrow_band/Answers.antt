-- `bands::narrow_band` meets its contract. The invariant of its loop, `BandInv`: the rooms are those of the table at the start, and the rules hold at
-- the first v values where nothing was stored. `band_more` is the turn. Assumes nothing.
use mathlib.Core.Path.{refl}
use Rattle.bands.proofs.BandLaws.{band_more, band_done}
use Rattle.bands.proofs.narrow_band.Goals as goal

pub loop-v-preserved : goal.loop-v-preserved
loop-v-preserved c =
    band_more c.narrow.result c.sum-moved.result c.loop-v.invariant c.loop-v-test.true refl c.requires.0 c.narrow.ensures c.sum-moved.ensures

pub returns : goal.returns
returns c = rw c.any.ensures (band_done c.loop-v-test.false c.loop-v.invariant)
