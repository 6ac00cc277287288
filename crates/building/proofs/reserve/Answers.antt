-- `building::reserve` meets its contract, by its two returns. Assumes nothing.
use mathlib.Core.Path.{refl}
use native.Mathlib.Omega.{arith}
use Rattle.building.proofs.reserve.Goals as goal

pub returns-then-lower : goal.returns-then-lower
returns-then-lower c = (rw c.if-lower.true refl, omega arith)

pub returns : goal.returns
returns c = (rw c.if-lower.false refl, omega arith)
