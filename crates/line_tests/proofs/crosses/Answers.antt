-- `line_tests::crosses` meets its contract. The invariant of its loop, `CrossInv`: gap bounds what the uppers of the first t entries lack to
-- their lowers, and is 0 unless an entry is crossed. `cross_more` is the turn. Assumes nothing.
use mathlib.Core.Path.{refl}
use Rattle.line_tests.proofs.CrossLaws.{cross_more}
use Rattle.line_tests.proofs.crosses.Goals as goal

pub loop-t-preserved : goal.loop-t-preserved
loop-t-preserved c = cross_more _ c.loop-t.invariant c.loop-t-test.true refl refl c.saturating_sub-gap.ensures refl
