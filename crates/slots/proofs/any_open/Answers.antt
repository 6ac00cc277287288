-- `slots::any_open` meets its contract. The invariant: no slot from the start on before block b is open; one block more: `block_closed`.
-- Assumes nothing.
use mathlib.Core.Path.{◌≡◌}
use mathlib.Core.Bool.{true≢false}
use mathlib.Core.Logic.{dite}
use Prim.Native.Nat.{◌*◌}
use native.Mathlib.Decide.{dec_lt}
use native.Mathlib.Omega.{arith}
use Rattle.slots.proofs.BlockLaws.{block_closed}
use Rattle.slots.proofs.any_open.Goals as goal

pub loop-b-init : goal.loop-b-init
loop-b-init c = (omega arith, λ s start≤s before. absurd (omega arith))

pub word-requires : goal.word-requires
word-requires c = let pre = c.requires in omega (arith, pre.0, pre.1, pre.2, pre.3, c.loop-b-test.true)

pub returns-then-word-ne0 : goal.returns-then-word-ne0
returns-then-word-ne0 c = λ is. absurd (true≢false is)

pub loop-b-preserved : goal.loop-b-preserved
loop-b-preserved c =
    let a = c.args in
    let loop = c.loop-b in
    let none : c.word.result ≡ 0 = omega (arith, c.if-word-ne0.false) in (
      omega (arith, loop.invariant.0),
      λ s start≤s before.
          dite (dec_lt s (32 * loop.b)) (λ passed. loop.invariant.1 s start≤s passed)
          (λ here. block_closed a.n a.k a.cells.now loop.b a.start a.end c.word.ensures none s (omega arith)),
    )

pub returns : goal.returns
returns c = λ is s start≤s s<end. c.loop-b.invariant.1 s start≤s (omega (arith, c.loop-b-test.false))
