-- `corners::corner_at` meets its contract: its three returns are the three ways to tell a corner by the rises at t and t + 1 (`corner_off`,
-- `corner_last`, `corner_inner`). Assumes nothing.
use mathlib.Core.Path.{◌∙◌}
use native.Mathlib.Omega.{arith}
use Rattle.segments_model.proofs.LinesLaws.{corner_off, corner_last, corner_inner}
use Rattle.corners.proofs.MaskTestLaws.{from_bool_bit}
use Rattle.corners.proofs.corner_at.Goals as goal

pub returns-then-rise-from : goal.returns-then-rise-from
returns-then-rise-from c =
    let a = c.args in
    corner_off a.lower a.n a.rises.now a.v a.t
    c.requires.0 c.rise.ensures (c.from.ensures ∙ from_bool_bit _) (λ own. omega arith)

pub returns-then-t-n : goal.returns-then-t-n
returns-then-t-n c =
    let a = c.args in
    corner_last a.lower a.n a.rises.now a.v a.t
    c.requires.0 c.rise.ensures (c.from.ensures ∙ from_bool_bit _) (omega arith) (omega arith)

pub returns : goal.returns
returns c =
    let a = c.args in
    corner_inner a.lower a.n a.rises.now a.v a.t
    c.requires.0 c.rise.ensures (c.from.ensures ∙ from_bool_bit _) (omega arith)
    (λ last. omega arith) c.rise-2.ensures (c.from-2.ensures ∙ from_bool_bit _)
