-- `standing::standing` meets its contract. The invariant: `count` is the number of right ends up to t, so at most t. One more
-- prefix: `standing_in_more`, `standing_in_same`. Assumes nothing.
use mathlib.Core.Path.{◌≡◌, sym}
use Prim.Native.Nat.{◌+◌}
use native.Mathlib.Omega.{arith}
use lib.Dec.{ltb}
use lib.ListN.{get_or}
use Rattle.domains.specs.Counts.{bit}
use Rattle.segments_model.specs.Links.{gaps}
use Rattle.segments_model.proofs.LinksLaws.{gaps_end, gaps_link}
use Rattle.segments_model.proofs.SumLaws.{up_to_none}
use Rattle.segments_model.proofs.StandingLaws.{standing_in_more, standing_in_same}
use Rattle.standing.proofs.standing.Goals as goal
use Rattle.standing.proofs.standing.Goals.{then-cells-t-lt1024, else-cells-t-lt1024}

pub loop-t-init : goal.loop-t-init
loop-t-init c = (omega arith, omega arith, sym (up_to_none (λ i. bit (ltb 0 (get_or (gaps c.args.cells.now) i 0)))))

pub loop-t-preserved : goal.loop-t-preserved
loop-t-preserved c =
    let now = c.loop-t in
    let cells = c.args.cells.now in
    elim c.if-cells-t-lt1024.branch [
      | then-cells-t-lt1024 w ↦
          let some = gaps_end cells (now.t + 1) (omega arith) (omega arith) (omega arith) in
          (omega arith, omega arith, omega (arith, w, now.invariant.2, standing_in_more (gaps cells) now.t (omega (arith, some))))
      | else-cells-t-lt1024 w ↦
          let none = gaps_link cells (now.t + 1) (omega arith) (omega arith) (omega arith) in
          (omega arith, omega arith, omega (arith, w, now.invariant.2, standing_in_same (gaps cells) now.t none))
    ]

pub returns : goal.returns
returns c =
    let last : c.loop-t.t ≡ c.args.n = omega arith in
    rw last at c.loop-t.invariant.2
