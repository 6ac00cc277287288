-- `canonical_rows::writing::write_block` meets its contract. One row stands at the only corner. The loop's invariant: the rows to the end t are written
-- (`Span`). Where fewer are written than there are, an end is left (`span_less`); where as many are, those are all (`span_full`). The measure is how many
-- ends are left. Assumes nothing.
use mathlib.Core.Path.{sym, ap}
use native.Mathlib.Omega.{arith}
use lib.ListN.{length}
use Rattle.closing_model.specs.Table.{view}
use Rattle.canonical_rows.proofs.RowsLaws.{span_start, span_room, span_part, span_less, span_full, part_one, block_rows}
use Rattle.canonical_rows.proofs.writing.write_block.Goals as goal

pub loop-next-init : goal.loop-next-init
loop-next-init c = span_start (omega arith)

pub write_corner-next-requires : goal.write_corner-next-requires
write_corner-next-requires c =
    let T = view c.args.lowers.now c.args.uppers.now in
    let whole = block_rows c.args.n T c.args.v c.args.from in
    let inv = c.loop-next.invariant in
    let t<to = span_less inv (omega (arith, c.loop-next-test.true, c.count_ends-found.ensures.0, ap length whole)) in
    let room = span_room inv 1 (omega arith) (omega (arith, c.requires.2, ap length whole)) in
    (c.requires.0, omega arith, omega (arith, c.requires.1), rw (part_one c.args.n T c.args.v c.loop-next.t) at room)

pub loop-next-smaller : goal.loop-next-smaller
loop-next-smaller c =
    let whole = block_rows c.args.n (view c.args.lowers.now c.args.uppers.now) c.args.v c.args.from in
    omega (arith, span_less c.loop-next.invariant (omega (arith, c.loop-next-test.true, c.count_ends-found.ensures.0, ap length whole)))

pub loop-next-preserved : goal.loop-next-preserved
loop-next-preserved c =
    let T = view c.args.lowers.now c.args.uppers.now in
    let whole = block_rows c.args.n T c.args.v c.args.from in
    let inv = c.loop-next.invariant in
    let t<to = span_less inv (omega (arith, c.loop-next-test.true, c.count_ends-found.ensures.0, ap length whole)) in
    span_part inv 1 (omega arith) (rw (sym (part_one c.args.n T c.args.v c.loop-next.t)) at c.write_corner-next.ensures)

pub returns : goal.returns
returns c =
    let whole = block_rows c.args.n (view c.args.lowers.now c.args.uppers.now) c.args.v c.args.from in
    let all = span_full c.loop-next.invariant (omega (arith, c.loop-next-test.false, c.count_ends-found.ensures.0, ap length whole)) in
    rw whole at all
