-- `canonical_rows::counting::count_line` meets its contract: the ends before the last, then the last (`line_count`). Assumes nothing.
use mathlib.Core.Path.{sym, ◌∙◌}
use native.Mathlib.Omega.{arith}
use Rattle.closing_model.specs.Table.{view}
use Rattle.canonical_rows.proofs.RowsLaws.{line_count}
use Rattle.canonical_rows.proofs.counting.count_line.Goals as goal

pub returns-then-has_corner : goal.returns-then-has_corner
returns-then-has_corner c =
    let T = view c.args.lowers.now c.args.uppers.now in
    let all = line_count c.args.n T c.args.v c.requires.1 c.count_ends-inner.ensures (sym c.has_corner.ensures ∙ c.if-has_corner.true) in
    (all.0, omega (arith, all.1, c.requires.0.0.slots))

pub returns : goal.returns
returns c =
    let T = view c.args.lowers.now c.args.uppers.now in
    let all = line_count c.args.n T c.args.v c.requires.1 c.count_ends-inner.ensures (sym c.has_corner.ensures ∙ c.if-has_corner.false) in
    (omega (arith, all.0), omega (arith, all.1, c.requires.0.0.slots))
