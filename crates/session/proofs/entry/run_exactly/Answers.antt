-- `session::entry::run_exactly` meets its contract: the arrays have room for every book, and the answer is that of the opening
-- (`exactly_live`, `exactly_dead`). Assumes nothing.
use Rattle.session.proofs.RunLaws.{exactly_live, exactly_dead}
use Rattle.session.proofs.entry.run_exactly.Goals as goal

pub returns-then-ended : goal.returns-then-ended
returns-then-ended c = exactly_live c.run_book-ended.ensures c.if-ended.true

pub returns : goal.returns
returns c = exactly_dead c.run_book-ended.ensures c.if-ended.false
