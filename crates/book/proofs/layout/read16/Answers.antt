-- `book::layout::read16` meets its contract: the byte at i, and 256 times the one after it (`word16`). Assumes nothing.
use native.Mathlib.Omega.{arith}
use Rattle.book.proofs.layout.read16.Goals as goal

pub returns : goal.returns
returns c =
    let low = c.before.byte.ensures in
    let high = c.byte-2.ensures in
    (omega (arith, low.0, high.0), omega (arith, low.1, high.1))
