-- `book::layout::row_at` meets its contract: each field is the number that was read at its place. Assumes nothing.
use Rattle.book.proofs.layout.row_at.Goals as goal

pub returns : goal.returns
returns c =
    rw (
      c.before.before.before.before.byte.ensures.0,
      c.before.before.before.byte-2.ensures.0,
      c.before.before.read16.ensures.0,
      c.before.read16-2.ensures.0,
      c.read16-3.ensures.0,
    )
