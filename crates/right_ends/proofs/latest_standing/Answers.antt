-- `right_ends::latest_standing` meets its contract. The invariant: z is before p, which is at most the place after the slot, and nothing stands from
-- p up to the slot. One more place passed: `gap_before`. Assumes nothing.
use mathlib.Core.Path.{◌≡◌}
use Prim.Native.Nat.{◌+◌, ◌-◌}
use native.Mathlib.Omega.{arith}
use Rattle.segments_model.specs.Links.{gaps}
use Rattle.segments_model.proofs.LinksLaws.{gaps_end, gaps_link}
use Rattle.segments_model.proofs.SearchLaws.{gap_before}
use Rattle.right_ends.proofs.latest_standing.Goals as goal

pub loop-p-init : goal.loop-p-init
loop-p-init c = (omega arith, λ i a b. absurd (omega arith))

pub returns-then-cells-p-lt1024 : goal.returns-then-cells-p-lt1024
returns-then-cells-p-lt1024 c =
    let now = c.loop-p in
    let back : now.p - 1 + 1 ≡ now.p = omega arith in
    record {
      from = omega arith;
      before = omega arith;
      stands = λ z<p. omega (arith, gaps_end c.args.cells.now (now.p - 1) (omega arith) (omega arith) (omega arith));
      gap = rw back now.invariant.1;
    }

pub loop-p-preserved : goal.loop-p-preserved
loop-p-preserved c =
    let now = c.loop-p in
    let cells = c.args.cells.now in
    let back : now.p - 1 + 1 ≡ now.p = omega arith in
    let link = gaps_link cells (now.p - 1) (omega arith) (omega arith) (omega arith) in
    (omega arith, gap_before (gaps cells) (now.p - 1) (c.args.slot + 1) (rw back now.invariant.1) link)

pub returns : goal.returns
returns c =
    let last : c.loop-p.p ≡ c.args.z + 1 = omega arith in
    record { from = omega arith; before = omega arith; stands = λ z<p. absurd (omega arith); gap = rw last at c.loop-p.invariant.1 }
