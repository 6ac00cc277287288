-- `line_tests::stairs` meets its contract. The invariant of its loop, `StairsInv`: rise and fall bound the first t pairs, and are at most 1
-- and 0 where these are stairs. `stairs_more` is the turn. Assumes nothing.
use mathlib.Core.Path.{refl}
use Rattle.closing_model.proofs.LineLaws.{stairs_more}
use Rattle.line_tests.proofs.stairs.Goals as goal

pub loop-t-preserved : goal.loop-t-preserved
loop-t-preserved c =
    stairs_more _ c.loop-t.invariant c.loop-t-test.true refl refl c.saturating_sub-rise.ensures refl c.saturating_sub-fall.ensures refl
