-- `slots::is_free` meets its contract: a mask that has v is fixed to it exactly where it is single (`free_single`).
-- Assumes nothing.
use mathlib.Core.Path.{sym, ◌∙◌}
use borrow.Author.Tests.{eqb-true, eqb-false, not-true, not-false}
use Rattle.slots.proofs.FreeLaws.{free_single}
use Rattle.slots.proofs.is_free.Goals as goal

pub returns-then-not-has : goal.returns-then-not-has
returns-then-not-has c = λ has. absurd (eqb-false _ _ (sym c.has.ensures ∙ not-true _ c.if-not-has.true-raw) has)

pub returns : goal.returns
returns c = free_single _ _ _ (eqb-true _ _ (sym c.has.ensures ∙ not-false _ c.if-not-has.false-raw)) c.is_single.ensures
