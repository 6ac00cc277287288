-- `domains::without` meets its contract: the bit at its place is part of m (`test_bit_le`), so the shift loses nothing and the
-- difference does not wrap. Assumes nothing.
use mathlib.Core.Path.{◌≡◌, ap}
use Prim.Native.Nat.{ℕ, ◌-◌, ◌*◌, ◌%◌, ◌^◌, ◌<◌}
use native.Mathlib.Nat.{mod-eq_of_lt, lt_of_le_of_lt}
use Rattle.domains.specs.Mask.{test_bit, clear_bit}
use Rattle.domains.proofs.MaskLaws.{test_bit_le}
use Rattle.domains.proofs.without.Goals as goal

placed : (m v : ℕ) → m < 2 ^ 32 → test_bit m v * 2 ^ v % 2 ^ 32 ≡ test_bit m v * 2 ^ v
placed m v m<2³² = mod-eq_of_lt (lt_of_le_of_lt (test_bit_le m v) m<2³²)

pub overflow_sub-result : goal.overflow_sub-result
unfolding test_bit
overflow_sub-result c = rw (placed c.args.m c.args.v c.ranges.m.fits) (test_bit_le c.args.m c.args.v)

pub returns : goal.returns
unfolding clear_bit
returns c = ap (λ (x : ℕ). c.args.m - x) (placed c.args.m c.args.v c.ranges.m.fits)
