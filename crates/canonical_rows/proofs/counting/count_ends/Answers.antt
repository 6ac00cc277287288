-- `canonical_rows::counting::count_ends` meets its contract. The loop's invariant: so many rows have the ends so far; a turn is `turn_read` and `part_more`.
-- Assumes nothing.
use mathlib.Core.Path.{sym, ap}
use native.Mathlib.Omega.{arith}
use lib.ListN.{length}
use Rattle.closing_model.specs.Table.{view}
use Rattle.canonical_rows.proofs.RowsLaws.{part_none, part_more}
use Rattle.canonical_rows.proofs.TurnsLaws.{turn_read}
use Rattle.canonical_rows.proofs.counting.count_ends.Goals as goal

pub loop-i-init : goal.loop-i-init
loop-i-init c = (sym (ap length (part_none c.args.n (view c.args.lowers.now c.args.uppers.now) c.args.v c.args.from)), omega arith)

pub overflow_add-count : goal.overflow_add-count
overflow_add-count c =
    let turn = turn_read c.requires.0 c.args.from c.loop-i.i (omega (arith, c.requires.1)) c.turns-count.ensures in
    omega (arith, turn.1, c.loop-i.invariant.1, c.requires.1, c.requires.0.0.slots)

pub loop-i-preserved : goal.loop-i-preserved
loop-i-preserved c =
    let turn = turn_read c.requires.0 c.args.from c.loop-i.i (omega (arith, c.requires.1)) c.turns-count.ensures in
    let more = part_more c.args.n (view c.args.lowers.now c.args.uppers.now) c.args.v c.args.from c.loop-i.i in
    (omega (arith, c.loop-i.invariant.0, turn.0, more), omega (arith, turn.1, c.loop-i.invariant.1))
