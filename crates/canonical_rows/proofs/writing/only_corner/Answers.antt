-- `canonical_rows::writing::only_corner` meets its contract. The loop's invariant: the sum is the only corner so far, or 0 (`Weighed`). Assumes nothing.
use Prim.Native.Nat.{◌+◌}
use native.Mathlib.Omega.{arith}
use Rattle.canonical_rows.proofs.RowsLaws.{weighed_small, weighed_start, weighed_more, weighed_all}
use Rattle.canonical_rows.proofs.TurnsLaws.{turn_read, one_times}
use Rattle.canonical_rows.proofs.writing.only_corner.Goals as goal

pub loop-i-init : goal.loop-i-init
loop-i-init c = weighed_start

pub overflow_mul-sum : goal.overflow_mul-sum
overflow_mul-sum c =
    let turn = turn_read c.requires.0 c.args.from c.loop-i.i (omega (arith, c.requires.1)) c.turns.ensures in
    omega (arith, one_times (c.loop-i.i + 1) turn.1)

pub overflow_add-sum-in-loop-i : goal.overflow_add-sum-in-loop-i
overflow_add-sum-in-loop-i c =
    let turn = turn_read c.requires.0 c.args.from c.loop-i.i (omega (arith, c.requires.1)) c.turns.ensures in
    omega (arith, one_times (c.loop-i.i + 1) turn.1, weighed_small c.loop-i.invariant)

pub loop-i-preserved : goal.loop-i-preserved
loop-i-preserved c =
    let turn = turn_read c.requires.0 c.args.from c.loop-i.i (omega (arith, c.requires.1)) c.turns.ensures in
    weighed_more c.requires.2 c.loop-i-test.true c.loop-i.invariant turn.0

pub returns : goal.returns
returns c = weighed_all c.requires.2 (omega arith) c.loop-i.invariant
