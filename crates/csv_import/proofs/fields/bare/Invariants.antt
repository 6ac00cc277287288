-- What each turn of `csv_import::fields::bare` keeps.
use Rattle.csv_model.specs.Csv.{bare}
use Rattle.csv_import.proofs.FieldLaws.{Going}
use Rattle.csv_import.proofs.fields.bare.Given as goal

abbrev pub invariant-loop-at : goal.invariant-loop-at
invariant-loop-at l = Going bare l.text l.from l.at l.figure
