-- `csv_import::fields::ended` meets its contract: each case is one of `ended`. Assumes nothing.
use mathlib.Core.Bool.{true, false}
use native.Mathlib.Omega.{arith}
use Rattle.csv_import.proofs.FieldLaws.{found_made, found_broken, ended_end, ended_comma, ended_lone, ended_line, ended_no_cr, ended_no_lf}
use Rattle.csv_import.proofs.fields.ended.Goals as goal

pub returns-then-at-text : goal.returns-then-at-text
returns-then-at-text c = found_made true (ended_end _ _ _ c.if-at-text.true) (omega arith)

pub returns-then-text-at-eq-COMMA : goal.returns-then-text-at-eq-COMMA
returns-then-text-at-eq-COMMA c =
    found_made false (ended_comma c.args.text.now c.args.at _ (omega arith) c.if-text-at-eq-COMMA.true) (omega arith)

pub returns-then-text-at-lt2 : goal.returns-then-text-at-lt2
returns-then-text-at-lt2 c =
    found_broken c.args.text.now (ended_lone c.args.text.now c.args.at c.args.figure (omega arith) c.if-text-at-eq-COMMA.false)

pub returns-then-text-at-ne-CR : goal.returns-then-text-at-ne-CR
returns-then-text-at-ne-CR c =
    found_broken c.args.text.now
    (ended_no_cr c.args.text.now c.args.at c.args.figure (omega arith) c.if-text-at-eq-COMMA.false c.if-text-at-ne-CR.true)

pub returns-then-text-at-ne-LF : goal.returns-then-text-at-ne-LF
returns-then-text-at-ne-LF c =
    found_broken c.args.text.now
    (ended_no_lf c.args.text.now c.args.at c.args.figure (omega arith) c.if-text-at-eq-COMMA.false c.if-text-at-ne-CR.false c.if-text-at-ne-LF.true)

pub returns : goal.returns
returns c =
    found_made true
    (ended_line c.args.text.now c.args.at _ (omega arith) c.if-text-at-eq-COMMA.false c.if-text-at-ne-CR.false c.if-text-at-ne-LF.false)
    (omega arith)
