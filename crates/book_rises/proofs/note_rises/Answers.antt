-- `book_rises::note_rises` meets its contract. The laws that do the work are `wrote_closed` and `wrote_none`: what the closing of the book's
-- table says of the model.
-- Assumes nothing.
use native.Mathlib.Omega.{arith}
use Rattle.settle_fault.proofs.ClosedLaws.{wrote_closed, wrote_none}
use Rattle.book_rises.proofs.RisesLaws.{notes_live, notes_dead}
use Rattle.book_rises.proofs.note_rises.Goals as goal

pub returns-in-Dead : goal.returns-in-Dead
returns-in-Dead c = notes_dead _ _ (wrote_none _ c.close_exactly.ensures (λ live. omega (arith, rw c.in-Dead.is at live)))

pub returns-in-Live : goal.returns-in-Live
returns-in-Live c =
    notes_live (wrote_closed _ c.close_exactly.ensures (rw c.in-Live.is)) c.slots-n.ensures.0 c.values-k.ensures.0
    c.write_rises.ensures c.write_rises-in-Live.ensures
