-- `starting::start_table` meets its contract. The loop's invariant: the table of the first i rows stands in the two slices (`Started`). `started_more` is
-- the turn. Assumes nothing.
use mathlib.Core.Path.{◌≡◌, sym, ap, ◌∙◌}
use Prim.Native.Nat.{ℕ, ◌+◌, ◌%◌, ◌<◌}
use native.Mathlib.Omega.{arith}
use lib.ListN.{replicate}
use Rattle.book.specs.Layout.{list_of, values, row_at}
use Rattle.book.specs.GoodFacts.{RowFacts}
use Rattle.closing_model.specs.Table.{place, size}
use Rattle.closing_model.specs.Start.{entries}
use Rattle.starting.proofs.StartedLaws.{started_none, started_more, started_length_lowers, started_length_uppers, row_place, row_read}
use Rattle.starting.proofs.start_table.Goals as goal
use Rattle.starting.proofs.start_table.Goals.{After-row_at-row}

pub loop-i-init : goal.loop-i-init
loop-i-init c =
    let n = c.slots-n.result in
    let k = values c.args.book.now in
    let size_of : entries c.args.book.now ≡ size n k = ap (λ (m : ℕ). size m k) (sym c.slots-n.ensures.0) in
    started_none n k (row_at c.rows-part.result.now) (c.fill_zeros.ensures ∙ ap (λ (m : ℕ). replicate m 0) (c.requires.lowers ∙ size_of))
    (c.fill_prefixes.ensures ∙ ap (λ (m : ℕ). list_of m (λ p. p % (n + 1))) (c.requires.uppers ∙ size_of))

-- the row that was read is a good one
row_good : (c : After-row_at-row) → RowFacts c.slots-n.result (values c.args.book.now) c.row_at-row.result
row_good c =
    row_read c.args.book.now c.slots-n.ensures.0 c.rows-part.ensures c.loop-i.i c.row_at-row.ensures (c.requires.row c.loop-i.i (omega arith))

-- and its place is one of the table's
place_inside : (c : After-row_at-row)
    → place c.slots-n.result c.row_at-row.result.value c.row_at-row.result.end < size c.slots-n.result (values c.args.book.now)
place_inside c = row_place c.slots-n.result (values c.args.book.now) c.row_at-row.result (row_good c)

pub raise-requires : goal.raise-requires
raise-requires c =
    let here = (goal.at.raise-requires c).After-row_at-row in
    let good = row_good here in
    let long = started_length_lowers c.slots-n.result (values c.args.book.now) (row_at c.rows-part.result.now) c.loop-i.i c.loop-i.invariant in
    (omega (arith, place_inside here, long), omega (arith, good.lower_most))

pub lower_to-requires : goal.lower_to-requires
lower_to-requires c =
    let here = (goal.at.lower_to-requires c).After-row_at-row in
    let long = started_length_uppers c.slots-n.result (values c.args.book.now) (row_at c.rows-part.result.now) c.loop-i.i c.loop-i.invariant in
    omega (arith, place_inside here, long)

pub loop-i-preserved : goal.loop-i-preserved
loop-i-preserved c =
    started_more c.slots-n.result (values c.args.book.now) (row_at c.rows-part.result.now) c.loop-i.i c.row_at-row.result c.row_at-row.ensures
    (row_good (goal.at.loop-i-preserved c).After-row_at-row) c.loop-i.invariant c.raise.ensures.0 c.lower_to.ensures.0
