-- `csv_import::passes::write_rows` meets its contract. The loop's invariant: the rows from here are left to be stored (`Writing`). The measure is how many
-- bytes are left. Assumes nothing.
use native.Mathlib.Omega.{arith}
use Rattle.csv_import.proofs.RecordLaws.{whole_read, kept_read}
use Rattle.csv_import.proofs.PassLaws.{writing_whole, writing_more, writing_all, row_room, row_fits, next_further}
use Rattle.csv_import.proofs.passes.write_rows.Goals as goal

pub unwrap-read-requires : goal.unwrap-read-requires
unwrap-read-requires c = whole_read _ c.args.text.now _ c.read_record.ensures (writing_whole c.loop-at.invariant c.loop-at-test.true)

pub put_row-requires : goal.put_row-requires
put_row-requires c =
    let found = kept_read _ c.args.text.now c.read_record.ensures c.unwrap-read.ensures in
    (row_room c.loop-at.invariant c.loop-at-test.true found, row_fits c.loop-at.invariant c.loop-at-test.true found)

pub loop-at-smaller : goal.loop-at-smaller
loop-at-smaller c =
    let found = kept_read _ c.args.text.now c.read_record.ensures c.unwrap-read.ensures in
    omega (arith, next_further c.loop-at-test.true found, found.inside)

pub loop-at-preserved : goal.loop-at-preserved
loop-at-preserved c =
    let found = kept_read _ c.args.text.now c.read_record.ensures c.unwrap-read.ensures in
    writing_more c.loop-at.invariant c.loop-at-test.true found c.put_row.ensures

pub returns : goal.returns
returns c = writing_all (omega arith) c.loop-at.invariant
