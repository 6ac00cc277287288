-- `corners::previous_turn` meets its contract. The invariant: i is below t, and the line goes straight on at each prefix between i and t. The
-- measure is i. One step back: `straight_more`. Assumes nothing.
use mathlib.Core.Path.{◌≡◌, sym, ◌∙◌}
use native.Mathlib.Omega.{arith}
use Rattle.corners.proofs.TurnLaws.{straight_more}
use Rattle.corners.proofs.previous_turn.Goals as goal

pub loop-i-init : goal.loop-i-init
loop-i-init c = (omega arith, λ j i<j j<t. absurd (omega arith))

pub returns-then-rise : goal.returns-then-rise
returns-then-rise c =
    let found = c.loop-i in
    record {
      before = found.invariant.0;
      turns = λ _ same. omega (arith, same, c.if-rise.true, c.rise.ensures, c.rise-in-loop-i.ensures);
      straight = found.invariant.1;
    }

pub loop-i-preserved : goal.loop-i-preserved
loop-i-preserved c =
    let turn = c in
    let a = turn.args in
    let same : c.rise.result ≡ c.rise-in-loop-i.result = omega (arith, c.if-rise.false) in (
      omega arith,
      straight_more a.rises.now a.v a.t turn.loop-i.i c.loop-i-test.true turn.loop-i.invariant.1
          (sym c.rise.ensures ∙ same ∙ c.rise-in-loop-i.ensures),
    )

pub returns : goal.returns
returns c = record { before = c.loop-i.invariant.0; turns = λ 0<i _. omega arith; straight = c.loop-i.invariant.1 }
