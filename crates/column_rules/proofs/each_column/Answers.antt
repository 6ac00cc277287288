-- `column_rules::each_column` meets its contract. The invariant of its loop: the run so far kept the rules across the values, which hold at the prefixes
-- from `from` on and below t where nothing was stored. `between_turn` is the turn. Assumes nothing.
use mathlib.Core.Path.{refl}
use native.Mathlib.Omega.{arith}
use Rattle.column_rules.proofs.AnswerLaws.{between_turn}
use Rattle.column_rules.proofs.each_column.Goals as goal

pub loop-t-preserved : goal.loop-t-preserved
loop-t-preserved c = between_turn _ _ _ _ _ (omega arith) c.loop-t-test.true c.loop-t.invariant c.in_ok-changed.ensures refl
