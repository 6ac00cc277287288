-- `closing::table_size` meets its contract: k is a byte and n two, so the product fits. Assumes nothing.
use Prim.Native.Nat.{◌+◌}
use native.Mathlib.Nat.{mul-le-mul_right}
use native.Mathlib.Omega.{arith}
use Rattle.closing.proofs.table_size.Goals as goal

pub overflow_mul-result : goal.overflow_mul-result
overflow_mul-result c = omega (arith, mul-le-mul_right (c.slots.result + 1) c.values.ensures.1, c.slots.ensures.1)
