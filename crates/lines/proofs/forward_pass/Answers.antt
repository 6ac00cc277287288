-- `lines::forward_pass` meets its contract. The invariant of its loop, `ForwardInv`: a and b are the bounds at t, and the run so far kept
-- the rules of the line, which hold at the first t pairs where nothing was stored. `forward_more` is the turn. Assumes nothing.
use Rattle.closing_model.proofs.LineLaws.{forward_more}
use Rattle.lines.proofs.forward_pass.Goals as goal

pub loop-t-preserved : goal.loop-t-preserved
loop-t-preserved c =
    let raise = c.raise-a.ensures in
    let lower = c.lower_to-b.ensures in
    forward_more c.loop-t.invariant c.loop-t-test.true c.requires.0 c.requires.1 raise.0 lower.0 raise.1 raise.2 lower.1 lower.2
