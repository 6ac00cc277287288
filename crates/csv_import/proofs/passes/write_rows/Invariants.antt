-- What each turn of `csv_import::passes::write_rows` keeps, and what falls from turn to turn.
use Prim.Native.Nat.{◌-◌}
use lib.ListN.{length}
use Rattle.csv_import.proofs.PassLaws.{Writing}
use Rattle.csv_import.proofs.passes.write_rows.Given as goal

abbrev pub invariant-loop-at : goal.invariant-loop-at
invariant-loop-at l = Writing l.text l.from l.initial.out l.first l.at l.out l.place

abbrev pub decreases-loop-at : goal.decreases-loop-at
decreases-loop-at l = length l.text - l.at
