-- A mask's tests as numbers and as equations, for `rise`, `tick` and `corner_at`. No contract cites this file. Assumes nothing.
use mathlib.Core.Path.{◌≡◌, refl, sym}
use mathlib.Core.Logic.{dite}
use Prim.Native.Nat.{ℕ, ◌^◌}
use native.Mathlib.Decide.{ℕ_discrete}
use native.Mathlib.Omega.{arith}
use lib.Dec.{eqb}
use borrow.Author.Tests.{eq-eqb, ne_eqb}
use mathlib.Core.Bool.{Bool, true, false}
use mir.Val.{bool_byte as from_bool}
use Rattle.domains.specs.Mask.{test_bit}
use Rattle.domains.specs.Counts.{bit, only}
use Rattle.domains.proofs.MaskLaws.{test_bit_lt}

pub bit_test_bit : (m v : ℕ) → bit (eqb (test_bit m v) 1) ≡ test_bit m v
bit_test_bit m v =
    dite (ℕ_discrete (test_bit m v) 1) (λ has. rw (eq-eqb (test_bit m v) 1 has) (sym has))
    (λ lacks. rw (ne_eqb (test_bit m v) 1 lacks) (omega (arith, test_bit_lt m v)))

pub bit_only : (m v : ℕ) → bit (eqb m (2 ^ v)) ≡ only m v
unfolding only
bit_only m v = refl

-- the library's number of a `bool`
pub from_bool_bit : (b : Bool) → from_bool b ≡ bit b
from_bool_bit true = refl
from_bool_bit false = refl
