-- What each turn of `csv_import::fields::quoted` keeps, and what falls from turn to turn.
use Rattle.csv_import.proofs.FieldLaws.{Going}
use Rattle.csv_model.specs.Csv.{quoted}
use lib.ListN.{length}
use Prim.Native.Nat.{◌-◌}
use mathlib.Core.Bool.{true}
use Rattle.csv_import.proofs.fields.quoted.Given as goal

abbrev pub invariant-loop-at : goal.invariant-loop-at
invariant-loop-at l = Going (quoted true) l.text l.from l.at l.figure

abbrev pub decreases-loop-at : goal.decreases-loop-at
decreases-loop-at l = length l.text - l.at
