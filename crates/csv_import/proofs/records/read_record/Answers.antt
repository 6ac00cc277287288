-- `csv_import::records::read_record` meets its contract. The loop's invariant: the record from here, with the fields so far, is the record (`Counting`).
-- The measure is how many bytes are left. Assumes nothing.
use native.Mathlib.Omega.{arith}
use Rattle.csv_import.proofs.RecordLaws.{counting_line, counting_more, further}
use Rattle.csv_import.proofs.records.read_record.Goals as goal

pub returns-then-part : goal.returns-then-part
returns-then-part c = counting_line c.loop-part.invariant c.in_ok-part.ensures c.if-part.true c.add-tally.ensures

pub loop-part-smaller : goal.loop-part-smaller
loop-part-smaller c = omega (arith, further c.loop-part.invariant c.in_ok-part.ensures c.if-part.false, c.in_ok-part.ensures.inside)

pub loop-part-preserved : goal.loop-part-preserved
loop-part-preserved c = counting_more c.loop-part.invariant c.in_ok-part.ensures c.if-part.false c.add-tally.ensures
