-- `inserting::visit` meets its contract: no corner, a corner that lacks slack, and one that is inserted (`visit_skip`, `visit_lacking`,
-- `visit_insert`). Assumes nothing.
use native.Mathlib.Omega.{arith}
use borrow.Author.Tests.{not-true, not-false}
use Rattle.inserting.proofs.VisitLaws.{visit_skip, visit_lacking, visit_insert}
use Rattle.inserting.proofs.visit.Goals as goal

pub returns-then-not-corner : goal.returns-then-not-corner
returns-then-not-corner c = visit_skip _ _ _ _ _ _ _ c.requires.0 (not-true _ c.if-not-corner.true-raw)

pub returns-then-gained-lost : goal.returns-then-gained-lost
returns-then-gained-lost c = visit_lacking _ _ _ _ _ _ _ c.requires.0 (not-false _ c.if-not-corner.false-raw) c.requires.1 c.if-gained-lost.true

pub returns : goal.returns
returns c = visit_insert _ _ _ _ _ _ _ c.requires.0 (not-false _ c.if-not-corner.false-raw) _ _ (omega arith) c.insert-first.ensures
