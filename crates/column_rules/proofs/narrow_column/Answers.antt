-- `column_rules::narrow_column` meets its contract. The invariant of its loop, `AcrossInv`: the sums are those of the table at the start, the lowers
-- from the place of value v on stand as at the start, and the rules hold at the first v values where nothing was stored. `across_more` is the turn;
-- `across_none` answers a sum of the others' lowers above t. Assumes nothing.
use mathlib.Core.Path.{◌≡◌, refl}
use Prim.Native.Nat.{◌+◌}
use native.Mathlib.Omega.{arith}
use Rattle.closing_model.specs.Table.{place}
use Rattle.closing_model.proofs.AcrossLaws.{across_none, across_more}
use Rattle.column_rules.proofs.narrow_column.Goals as goal

pub returns-then-t-ol : goal.returns-then-t-ol
returns-then-t-ol c =
    let fits = c.requires.0 in
    across_none c.loop-v.invariant c.loop-v-test.true c.requires.1 fits.prefixes fits.lowers fits.uppers c.at-a.ensures.0 c.at-b.ensures.0
    c.saturating_sub-ol.ensures c.if-t-ol.true

pub loop-v-preserved : goal.loop-v-preserved
loop-v-preserved c =
    let fits = c.requires.0 in
    let next : place c.args.n c.loop-v.v c.args.t + (c.args.n + 1) ≡ place c.args.n (c.loop-v.v + 1) c.args.t = omega arith in
    rw next at
    (across_more c.loop-v.invariant c.loop-v-test.true c.requires.1 fits.prefixes fits.lowers fits.uppers c.at-a.ensures.0 c.at-b.ensures.0
    c.saturating_sub-ol.ensures c.if-t-ol.false c.saturating_sub.ensures c.saturating_sub-lower.ensures c.narrow-changed.ensures refl)
