-- What each turn of `csv_import::records::read_record` keeps, and what falls from turn to turn.
use Prim.Native.Nat.{◌-◌}
use lib.ListN.{length}
use Rattle.csv_import.proofs.RecordLaws.{Counting}
use Rattle.csv_import.proofs.records.read_record.Given as goal

abbrev pub invariant-loop-part : goal.invariant-loop-part
invariant-loop-part l = Counting l.text l.from l.at l.tally

abbrev pub decreases-loop-part : goal.decreases-loop-part
decreases-loop-part l = length l.text - l.at
