-- `canonical_rows::writing::write_rest` meets its contract. The loop's invariant: the rows to the end t are written (`Span`). Assumes nothing.
use mathlib.Core.Path.{sym}
use native.Mathlib.Omega.{arith}
use Rattle.closing_model.specs.Table.{view}
use Rattle.canonical_rows.proofs.RowsLaws.{span_start, span_room, span_part, part_one}
use Rattle.canonical_rows.proofs.writing.write_rest.Goals as goal

pub loop-t-init : goal.loop-t-init
loop-t-init c = span_start c.requires.1

pub write_corner-next-requires : goal.write_corner-next-requires
write_corner-next-requires c =
    let t<n = c.loop-t-test.true in
    let room = span_room c.loop-t.invariant 1 (omega arith) c.requires.2 in
    (c.requires.0, omega arith, omega arith, rw (part_one c.args.n (view c.args.lowers.now c.args.uppers.now) c.args.v c.loop-t.t) at room)

pub loop-t-preserved : goal.loop-t-preserved
loop-t-preserved c =
    let t<n = c.loop-t-test.true in
    span_part c.loop-t.invariant 1 (omega arith)
    (rw (sym (part_one c.args.n (view c.args.lowers.now c.args.uppers.now) c.args.v c.loop-t.t)) at c.write_corner-next.ensures)
