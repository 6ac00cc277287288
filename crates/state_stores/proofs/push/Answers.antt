-- `state_stores::push` meets its contract: the code's three stores. Assumes nothing.
use Prim.Native.Nat.{◌+◌, ◌*◌}
use native.Mathlib.Omega.{arith}
use lib.ListN.{length-set}
use Rattle.state_stores.proofs.push.Goals as goal

pub bounds-trail-p-2 : goal.bounds-trail-p-2
bounds-trail-p-2 c = omega (arith, length-set c.args.trail.now (2 * c.args.n + 3 * c.args.top) c.args.slot)
