-- `slots::other_values` meets its contract: a law of OthersLaws for each of its returns. Assumes nothing.
use mathlib.Core.Path.{sym, ◌∙◌}
use borrow.Author.Tests.{eqb-true, eqb-false, not-true, not-false}
use Rattle.slots.proofs.OthersLaws.{others_none, others_of}
use Rattle.slots.proofs.other_values.Goals as goal

pub returns-then-not-has : goal.returns-then-not-has
returns-then-not-has c = others_none _ _ (eqb-false _ _ (sym c.has.ensures ∙ not-true _ c.if-not-has.true-raw))

pub less-requires : goal.less-requires
less-requires c = (c.requires.1, eqb-true _ _ (sym c.has.ensures ∙ not-false _ c.if-not-has.false-raw))

pub returns : goal.returns
returns c = others_of _ _ (eqb-true _ _ (sym c.has.ensures ∙ not-false _ c.if-not-has.false-raw)) c.less.ensures
