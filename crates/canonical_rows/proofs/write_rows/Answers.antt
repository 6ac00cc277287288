-- `canonical_rows::write_rows` meets its contract. The loop's invariant: the rows of the types so far are written. Assumes nothing.
use mathlib.Core.Path.{sym}
use native.Mathlib.Omega.{arith}
use Rattle.closing_model.specs.Table.{view}
use Rattle.canonical_rows.proofs.RowsLaws.{written_none, written_append, written_long, rows_none, rows_next, rows_upto}
use Rattle.canonical_rows.proofs.write_rows.Goals as goal

pub loop-v-init : goal.loop-v-init
loop-v-init c =
    let none = rows_none c.args.n (view c.args.lowers.now c.args.uppers.now) in
    rw (sym none) at (written_none c.args.out.now c.args.place)

pub write_line-next-requires : goal.write_line-next-requires
write_line-next-requires c =
    let v = c.loop-v.v in
    let so_far = c.loop-v.invariant in
    let upto = rows_upto c.args.n (view c.args.lowers.now c.args.uppers.now) v c.args.k c.loop-v-test.true in
    (c.requires.0.each v c.loop-v-test.true, omega (arith, upto, c.requires.1, so_far.next, written_long so_far))

pub loop-v-preserved : goal.loop-v-preserved
loop-v-preserved c =
    let next = rows_next c.args.n (view c.args.lowers.now c.args.uppers.now) c.loop-v.v in
    rw (sym next) at (written_append c.loop-v.invariant c.write_line-next.ensures)
