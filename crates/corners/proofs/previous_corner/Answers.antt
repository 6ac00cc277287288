-- `corners::previous_corner` meets its contract. The invariant: i is below t, the line turns at i unless i is 0, and no corner lies between i and
-- t (`Cornerless`). The measure is i. One turn back: `cornerless_more`; a turn by the kind's own step is the corner (`turn_corner`). Assumes nothing.
use mathlib.Core.Path.{◌∙◌}
use native.Mathlib.Omega.{arith}
use Rattle.corners.proofs.MaskTestLaws.{from_bool_bit}
use Rattle.corners.proofs.TurnLaws.{turn_corner, cornerless_start, cornerless_more}
use Rattle.corners.proofs.previous_corner.Goals as goal

pub loop-i-init : goal.loop-i-init
loop-i-init c =
    let found = c.previous_turn-i.ensures in
    let a = c.args in
    (found.before, found.turns, cornerless_start a.lower a.n a.rises.now a.v a.t c.requires.1 _ found)

pub returns-then-rise-from : goal.returns-then-rise-from
returns-then-rise-from c =
    let found = c.loop-i in
    let a = c.args in
    let own_step = c.from.ensures ∙ from_bool_bit a.lower in
    record {
      before = found.invariant.0;
      corner = λ 0<i. turn_corner a.lower a.n a.rises.now a.v found.i 0<i (omega arith) (found.invariant.1 0<i)
          (omega (arith, c.if-rise-from.true, c.rise.ensures, own_step));
      none = found.invariant.2;
    }

pub loop-i-smaller : goal.loop-i-smaller
loop-i-smaller c = omega (arith, c.previous_turn-i-in-loop-i.ensures.before)

pub loop-i-preserved : goal.loop-i-preserved
loop-i-preserved c =
    let found = c.previous_turn-i-in-loop-i.ensures in
    let a = c.args in
    let own_step = c.from.ensures ∙ from_bool_bit a.lower in (
      omega (arith, found, c.loop-i.invariant.0),
      found.turns,
      cornerless_more a.lower a.n a.rises.now a.v a.t c.requires.1 c.loop-i.i _ c.loop-i-test.true c.loop-i.invariant.0 c.loop-i.invariant.2
          (λ own. omega (arith, own, c.if-rise-from.false, c.rise.ensures, own_step)) found,
    )

pub returns : goal.returns
returns c = record { before = c.loop-i.invariant.0; corner = λ 0<i. absurd (omega arith); none = c.loop-i.invariant.2 }
