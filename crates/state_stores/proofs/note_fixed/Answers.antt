-- `state_stores::note_fixed` meets its contract: the code's two stores. Assumes nothing.
use native.Mathlib.Omega.{arith}
use lib.ListN.{length-set}
use Rattle.state_stores.proofs.note_fixed.Goals as goal

pub bounds-trail-n : goal.bounds-trail-n
bounds-trail-n c = rw length-set (omega arith)
