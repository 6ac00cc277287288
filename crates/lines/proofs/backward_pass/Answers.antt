-- `lines::backward_pass` meets its contract. The invariant of its loop, where t is how many pairs are left: d is the distance from t to the end, and
-- `BackwardInv`: a less d and b are the bounds at t, and the run so far kept the rules of the line, which hold at the pairs from t on where nothing was
-- stored. `backward_more` is the turn. Assumes nothing.
use native.Mathlib.Omega.{arith}
use Rattle.closing_model.proofs.LineLaws.{backward_more}
use Rattle.lines.proofs.backward_pass.Goals as goal

pub loop-t-preserved : goal.loop-t-preserved
loop-t-preserved c =
    let raise = c.raise_less-a.ensures in
    let lower = c.lower_to-b.ensures in (
      omega arith,
      omega arith,
      backward_more c.loop-t.invariant.2 (omega arith) c.requires.0 c.requires.1 (omega arith) raise.0 lower.0 (omega arith) (omega arith) lower.1,
    )
