-- `outcomes::told` meets its contract: by the last digit of the number (`code_is`). Assumes nothing.
use mathlib.Core.Path.{sym}
use mathlib.Core.Bool.{true, false}
use borrow.Author.Tests.{eq-eqb, ne_eqb}
use Rattle.outcomes.proofs.CodeLaws.{code_is}
use Rattle.outcomes.proofs.told.Goals as goal

pub returns-then-code-eq1 : goal.returns-then-code-eq1
returns-then-code-eq1 c = sym (code_is _ true (eq-eqb _ _ c.if-code-eq1.true))

pub returns : goal.returns
returns c = sym (code_is _ false (ne_eqb _ _ c.if-code-eq1.false))
