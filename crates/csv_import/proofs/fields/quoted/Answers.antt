-- `csv_import::fields::quoted` meets its contract. The loop's invariant: what is left to read is what was to be read (`Going`). The measure is how many
-- bytes are left. Assumes nothing.
use mathlib.Core.Path.{◌≡◌, ◌∙◌}
use native.Mathlib.Omega.{arith}
use lib.ListN.{length}
use Rattle.csv_import.proofs.FieldLaws.{found_same, found_broken, quoted_end, quoted_closed, quoted_more, width_inside, width_further, going_more}
use Rattle.csv_import.proofs.fields.quoted.Goals as goal

pub returns-in-None : goal.returns-in-None
returns-in-None c =
    let closed = quoted_closed _ c.loop-at-test.true c.in-None.ensures c.loop-at.figure in
    found_same _ _ (c.loop-at.invariant.same ∙ closed) c.ended.ensures

pub loop-at-smaller : goal.loop-at-smaller
loop-at-smaller c =
    let text = c.args.text.now in
    let taken = c.loop-at-test.true in
    omega (arith, width_inside text taken c.in-Some.ensures, width_further text taken c.in-Some.ensures)

pub loop-at-preserved : goal.loop-at-preserved
loop-at-preserved c =
    let text = c.args.text.now in
    let taken = c.loop-at-test.true in
    going_more c.loop-at.invariant (width_inside text taken c.in-Some.ensures) c.more-figure.ensures.1
    (quoted_more text taken c.in-Some.ensures _) c.more-figure.ensures.0

pub returns : goal.returns
returns c =
    let end : c.loop-at.at ≡ length c.args.text.now = omega (arith, c.loop-at.invariant.inside) in
    found_broken c.args.text.now (c.loop-at.invariant.same ∙ quoted_end _ _ _ end)
