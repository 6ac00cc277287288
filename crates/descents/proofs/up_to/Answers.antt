-- `descents::up_to` meets its contract, by its two returns. Assumes nothing.
use mathlib.Core.Path.{refl}
use borrow.Author.Tests.{lt-ltb, le-ltb}
use Rattle.descents.proofs.up_to.Goals as goal

pub returns-then-n-t : goal.returns-then-n-t
returns-then-n-t c = rw (lt-ltb _ _ c.if-n-t.true) refl

pub returns : goal.returns
returns c = rw (le-ltb _ _ c.if-n-t.false) refl
