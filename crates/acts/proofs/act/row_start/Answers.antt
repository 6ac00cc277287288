-- `acts::act::row_start` meets its contract: the product fits, since there are at most 64 rows of at most 258 cells. Assumes nothing.
use Prim.Native.Nat.{◌≤◌, ◌+◌}
use native.Mathlib.Omega.{arith}
use native.Mathlib.Nat.{mul-le-mul}
use Rattle.acts.proofs.act.row_start.Goals as goal

pub overflow_mul-result : goal.overflow_mul-result
overflow_mul-result c = let a : c.args.v ≤ 32 = omega arith in let b : c.args.n + 2 ≤ 258 = omega arith in omega (arith, mul-le-mul a b)

pub overflow_mul-result-2 : goal.overflow_mul-result-2
overflow_mul-result-2 c = let a : c.args.k + c.args.v ≤ 64 = omega arith in let b : c.args.n + 2 ≤ 258 = omega arith in omega (arith, mul-le-mul a b)
