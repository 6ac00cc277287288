-- What each turn of `csv_import::passes::test_later` keeps, and what falls from turn to turn.
use Prim.Native.Nat.{◌-◌}
use lib.ListN.{length}
use Rattle.book.specs.Refusal.{number_of}
use Rattle.csv_import.proofs.PassLaws.{Testing}
use Rattle.csv_import.proofs.passes.test_later.Given as goal

abbrev pub invariant-loop-at : goal.invariant-loop-at
invariant-loop-at l = Testing l.n l.k l.text l.from l.at l.rows (number_of l.refused)

abbrev pub decreases-loop-at : goal.decreases-loop-at
decreases-loop-at l = length l.text - l.at
