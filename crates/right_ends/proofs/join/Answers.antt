-- `right_ends::join` meets its contract: the code's two stores. Assumes nothing.
use mathlib.Core.Path.{◌≡◌, ap}
use Prim.Native.Nat.{ℕ, ◌+◌, ◌-◌}
use native.Mathlib.Omega.{arith}
use lib.ListN.{get_or, set}
use Rattle.right_ends.proofs.join.Goals as goal

pub returns : goal.returns
returns c =
    let a = c.before.args in
    let link : 1023 + (a.t - a.p) ≡ 1024 + (a.t - a.p - 1) = omega arith in
    ap (λ (x : ℕ). set (set a.cells.now a.t (get_or a.cells.now a.p 0)) a.p x) link
