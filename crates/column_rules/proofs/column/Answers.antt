-- `column_rules::column` meets its contract: by `across_kept` where the sums and the widest gap show that the rules hold, else by what
-- `narrow_column` promises. Assumes nothing.
use native.Mathlib.Omega.{arith}
use Rattle.closing_model.proofs.AcrossLaws.{across_kept}
use Rattle.column_rules.proofs.column.Goals as goal

pub returns-then-sums-t-2 : goal.returns-then-sums-t-2
returns-then-sums-t-2 c =
    let found = c.column_sums-sums.ensures in
    across_kept _ _ _ _ _ c.args.lowers.now c.args.uppers.now found.sums (omega (arith, found.gap)) (omega (arith, found.gap))
