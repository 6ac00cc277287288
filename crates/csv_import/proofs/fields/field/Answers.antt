-- `csv_import::fields::field` meets its contract: each case is one of `field`. Assumes nothing.
use native.Mathlib.Omega.{arith}
use Rattle.csv_import.proofs.FieldLaws.{found_same, field_end, field_quote, field_bare}
use Rattle.csv_import.proofs.fields.field.Goals as goal
use Rattle.csv_import.proofs.fields.field.Goals.{else-at-text-via-then-at-text+else-text-at-eq-QUOTE, else-at-text-via-else-at-text}

pub returns-then-text-at-eq-QUOTE : goal.returns-then-text-at-eq-QUOTE
returns-then-text-at-eq-QUOTE c =
    found_same _ _ (field_quote c.args.text.now c.args.at c.if-at-text.true c.if-text-at-eq-QUOTE.true) c.quoted.ensures

pub returns : goal.returns
returns c =
    elim c.else-at-text.branch [
      | else-at-text-via-then-at-text+else-text-at-eq-QUOTE w ↦
          found_same _ _ (field_bare c.args.text.now c.args.at w.if-at-text.true w.if-text-at-eq-QUOTE.false) c.bare.ensures
      | else-at-text-via-else-at-text w ↦ found_same _ _ (field_end c.args.text.now c.args.at (omega (arith, c.requires, w.if-at-text.false))) c.bare.ensures
    ]
