-- `csv_import::fields::bare` meets its contract. The loop's invariant: what is left to read is what was to be read (`Going`). Assumes nothing.
use mathlib.Core.Path.{◌≡◌, refl, sym, ◌∙◌}
use native.Mathlib.Omega.{arith}
use lib.ListN.{length}
use Rattle.csv_import.proofs.FieldLaws.{found_same, bare_end, bare_mark, bare_more, going_more}
use Rattle.csv_import.proofs.fields.bare.Goals as goal

pub returns-then-is_mark : goal.returns-then-is_mark
returns-then-is_mark c =
    let mark = sym c.is_mark.ensures ∙ c.if-is_mark.true in
    found_same _ _ (c.loop-at.invariant.same ∙ bare_mark _ _ _ c.loop-at-test.true mark) c.ended.ensures

pub loop-at-preserved : goal.loop-at-preserved
loop-at-preserved c =
    let other = sym c.is_mark.ensures ∙ c.if-is_mark.false in
    going_more c.loop-at.invariant (omega arith) c.more-figure.ensures.1 (bare_more _ _ _ c.loop-at-test.true other) c.more-figure.ensures.0

pub returns : goal.returns
returns c =
    let end : c.loop-at.at ≡ length c.args.text.now = omega (arith, c.loop-at.invariant.inside) in
    found_same _ _ (rw end at c.loop-at.invariant.same ∙ bare_end c.args.text.now _ _ refl) c.ended-2.ensures
