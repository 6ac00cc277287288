-- `canonical_rows::writing::write_line` meets its contract. The loop's invariant: the rows to the end t are written (`Span`, from end 0). The measure is how
-- many ends are left. Assumes nothing.
use mathlib.Core.Path.{ap}
use Prim.Native.Nat.{◌-◌}
use native.Mathlib.Omega.{arith}
use lib.ListN.{length}
use Rattle.closing_model.specs.Table.{view}
use Rattle.canonical_rows.proofs.RowsLaws.{span_start, span_room, span_part, span_all, line_whole}
use Rattle.canonical_rows.proofs.writing.write_line.Goals as goal

pub loop-t-init : goal.loop-t-init
loop-t-init c = span_start (omega arith)

pub write_block-next-requires : goal.write_block-next-requires
write_block-next-requires c =
    let whole = line_whole c.args.n (view c.args.lowers.now c.args.uppers.now) c.args.v in
    let inside = c.loop-t-test.true in
    (c.requires.0, inside, span_room c.loop-t.invariant 8 (omega arith) (omega (arith, c.requires.1, ap length whole)))

pub loop-t-preserved : goal.loop-t-preserved
loop-t-preserved c =
    let inside = c.loop-t-test.true in
    span_part c.loop-t.invariant 8 (omega arith) c.write_block-next.ensures

pub write_rest-requires : goal.write_rest-requires
write_rest-requires c =
    let whole = line_whole c.args.n (view c.args.lowers.now c.args.uppers.now) c.args.v in
    let upto = c.loop-t.invariant.high in
    (c.requires.0, upto, span_room c.loop-t.invariant (c.args.n - c.loop-t.t) (omega arith) (omega (arith, c.requires.1, ap length whole)))

pub returns : goal.returns
returns c =
    let upto = c.loop-t.invariant.high in
    let whole = line_whole c.args.n (view c.args.lowers.now c.args.uppers.now) c.args.v in
    let all = span_all (span_part c.loop-t.invariant (c.args.n - c.loop-t.t) (omega arith) c.write_rest.ensures) (omega arith) in
    rw whole at all
