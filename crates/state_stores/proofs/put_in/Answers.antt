-- `state_stores::put_in` meets its contract: the sum that it stores is that of `domains::with`. Assumes nothing.
use mathlib.Core.Path.{ap}
use Prim.Native.Nat.{ℕ}
use lib.ListN.{set}
use Rattle.state_stores.proofs.put_in.Goals as goal

pub returns : goal.returns
returns c =
    let args = c.args in
    ap (λ (m : ℕ). set args.masks.now args.slot m) c.with.ensures
