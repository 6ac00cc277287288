-- `csv_import::fields::more` meets its contract: a digit goes behind fewer than five, and anything else makes the content no number. Assumes nothing.
use mathlib.Core.Path.{◌≡◌, refl}
use Prim.Native.Nat.{◌-◌}
use native.Mathlib.Omega.{arith}
use Rattle.csv_import.proofs.FieldLaws.{fits_more, fits_none, more_digit, more_many, more_high, more_low}
use Rattle.csv_import.proofs.fields.more.Goals as goal
use Rattle.csv_import.proofs.fields.more.Goals.{else-b-ge-ZERO-via-then-b-ge-ZERO+then-b-le-NINE+else-figure-lt-DIGITS_MOST}
use Rattle.csv_import.proofs.fields.more.Goals.{else-b-ge-ZERO-via-then-b-ge-ZERO+else-b-le-NINE, else-b-ge-ZERO-via-else-b-ge-ZERO}

pub returns-then-figure-lt-DIGITS_MOST : goal.returns-then-figure-lt-DIGITS_MOST
returns-then-figure-lt-DIGITS_MOST c =
    let digit = more_digit c.args.figure c.args.b c.if-b-ge-ZERO.true c.if-b-le-NINE.true c.if-figure-lt-DIGITS_MOST.true in
    let value : c.from.result ≡ c.args.b - 48 = c.from.ensures in
    (rw value digit, fits_more c.from.result c.requires (omega arith) refl refl)

pub returns : goal.returns
returns c =
    elim c.else-b-ge-ZERO.branch [
      | else-b-ge-ZERO-via-then-b-ge-ZERO+then-b-le-NINE+else-figure-lt-DIGITS_MOST w ↦
          (more_many c.args.figure c.args.b w.if-figure-lt-DIGITS_MOST.false, fits_none)
      | else-b-ge-ZERO-via-then-b-ge-ZERO+else-b-le-NINE w ↦ (more_high c.args.figure c.args.b w.if-b-le-NINE.false, fits_none)
      | else-b-ge-ZERO-via-else-b-ge-ZERO w ↦ (more_low c.args.figure c.args.b w.if-b-ge-ZERO.false, fits_none)
    ]
