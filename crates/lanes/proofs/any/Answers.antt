-- `lanes::any` meets its contract: the bits of all of them are no less than each and no more than the total. Assumes nothing.
use mathlib.Core.Path.{◌≡◌, refl}
use mathlib.Core.Logic.{dite}
use Prim.Native.Nat.{ℕ, ◌≤◌, ◌*◌}
use native.Mathlib.Decide.{ℕ_discrete}
use native.Mathlib.Omega.{arith}
use borrow.Author.Tests.{lt-ltb, le-ltb}
use lib.Bits.{bit_or}
use lib.Dec.{ltb}
use Rattle.closing_model.proofs.EitherLaws.{either_gathers}
use Rattle.lanes.specs.Lanes.{total}
use Rattle.lanes.proofs.any.Goals as goal

-- x is above 0 where y is, and only there
same_test : (x y : ℕ) → x ≤ y → y ≤ 8 * x → ltb 0 x ≡ ltb 0 y
same_test x y x≤y y≤8x =
    dite (ℕ_discrete x 0) (λ none. rw (le-ltb 0 x (omega arith), le-ltb 0 y (omega arith)) refl)
    (λ some. rw (lt-ltb 0 x (omega arith), lt-ltb 0 y (omega arith)) refl)

pub returns : goal.returns
returns c =
    let e = c.args.e in
    let e01 = either_gathers e.e0 e.e1 refl in
    let e23 = either_gathers e.e2 e.e3 refl in
    let e45 = either_gathers e.e4 e.e5 refl in
    let e67 = either_gathers e.e6 e.e7 refl in
    let front = either_gathers (bit_or e.e0 e.e1) (bit_or e.e2 e.e3) refl in
    let back = either_gathers (bit_or e.e4 e.e5) (bit_or e.e6 e.e7) refl in
    let all = either_gathers (bit_or (bit_or e.e0 e.e1) (bit_or e.e2 e.e3)) (bit_or (bit_or e.e4 e.e5) (bit_or e.e6 e.e7)) refl in
    same_test _ (total e) (omega (arith, e01, e23, front, e45, e67, back, all)) (omega (arith, e01, e23, front, e45, e67, back, all))
