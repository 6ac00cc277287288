-- `standing::standing_in` meets its contract: the part that was lent to `standing` has n + 2 cells. Assumes nothing.
use mathlib.Core.Path.{◌≡◌}
use Prim.Native.Nat.{◌+◌, ◌-◌}
use native.Mathlib.Omega.{arith}
use Rattle.standing.proofs.standing_in.Goals as goal

pub returns : goal.returns
returns c =
    let a = c.args in
    let size : a.base + a.n + 2 - a.base ≡ a.n + 2 = omega arith in
    rw size at c.standing.ensures
