-- `canonical_rows::count_rows` meets its contract. The loop's invariant: so many rows have the types so far. Assumes nothing.
use mathlib.Core.Path.{sym, ap}
use native.Mathlib.Omega.{arith}
use lib.ListN.{length}
use Rattle.closing_model.specs.Table.{view}
use Rattle.canonical_rows.proofs.RowsLaws.{rows_none, rows_more}
use Rattle.canonical_rows.proofs.count_rows.Goals as goal

pub loop-v-init : goal.loop-v-init
loop-v-init c = (sym (ap length (rows_none c.args.n (view c.args.lowers.now c.args.uppers.now))), omega arith)

pub loop-v-preserved : goal.loop-v-preserved
loop-v-preserved c =
    let more = rows_more c.args.n (view c.args.lowers.now c.args.uppers.now) c.loop-v.v in
    (omega (arith, c.loop-v.invariant.0, c.count_line-count.ensures.0, more), omega (arith, c.loop-v.invariant.1, c.count_line-count.ensures.1))
