-- `bands::band` meets its contract: where the sums are on the right side of the prefixes and fit, `rooms_made` gives what `narrow_band` asks for.
-- Assumes nothing.
use mathlib.Core.Path.{◌≡◌, sym, ◌∙◌}
use mathlib.Core.Bool.{false}
use native.Mathlib.Omega.{arith}
use borrow.Author.Tests.{ltb-false}
use lib.Dec.{ltb}
use Rattle.lanes.specs.Lanes.{total}
use Rattle.bands.proofs.SumsLaws.{rooms_made}
use Rattle.bands.proofs.band.Goals as goal

pub narrow_band-requires : goal.narrow_band-requires
narrow_band-requires c =
    let none : ltb 0 (total c.sum-bad.result) ≡ false = sym c.any.ensures ∙ c.if-any.false in (
      c.requires,
      rooms_made c.args.n c.args.k c.args.t c.args.lowers.now c.args.uppers.now c.numbers-ends.result c.column_sums-sl.result
          c.column_sums-su.result c.less.result c.less-2.result c.sum.result c.same.result c.less-3.result c.sum-bad.result c.less-4.result
          c.less-5.result (omega arith) c.numbers-ends.ensures c.column_sums-sl.ensures c.column_sums-su.ensures c.less.ensures
          c.less-2.ensures c.sum.ensures c.same.ensures c.less-3.ensures c.sum-bad.ensures
          (omega (arith, ltb-false 0 (total c.sum-bad.result) none)) c.less-4.ensures c.less-5.ensures,
    )
