-- `segments::use_up` meets its contract. The invariant: the cells stay, e is after z, and if the links pass no right end there is none after z before e.
-- The measure is what is left up to the slot: a link always leads forward (`links_on`). The returns: `used_join`, `used_spend`. Assumes nothing.
use mathlib.Core.Path.{◌≡◌, ap}
use mathlib.Core.List.{List}
use Prim.Native.Nat.{ℕ}
use native.Mathlib.Omega.{arith}
use lib.ListN.{get_or}
use Rattle.segments.proofs.UsedUpLaws.{links_on, used_join, used_spend}
use Rattle.segments.proofs.use_up.Goals as goal

pub returns-then-c-lt1024 : goal.returns-then-c-lt1024
returns-then-c-lt1024 c =
    let loop = c.loop-e in
    let pre = c.requires in
    let a = c.args in
    used_join a.n a.t a.cells.now loop.cells _ loop.invariant.0 loop.invariant.1 (omega (arith, c.loop-e-test.true)) (omega (arith, pre.1, pre.2, pre.3))
    c.if-c-lt1024.true c.latest_standing-p.ensures c.join.ensures

pub loop-e-preserved : goal.loop-e-preserved
loop-e-preserved c =
    let loop = c.loop-e in
    let pre = c.requires in
    let cells = c.args.cells.now in
    let same : get_or loop.cells loop.e 0 ≡ get_or cells loop.e 0 = ap (λ (l : List ℕ). get_or l loop.e 0) loop.invariant.0 in (
      loop.invariant.0,
      omega (arith, loop.invariant.1),
      rw same
          (links_on cells loop.invariant.1 (omega (arith, pre.1, pre.2, c.loop-e-test.true)) pre.3 (omega (arith, same, c.if-c-lt1024.false)) loop.invariant.2),
    )

pub returns : goal.returns
returns c =
    let loop = c.loop-e in
    let a = c.args in
    used_spend a.n a.t a.cells.now loop.cells _ loop.invariant.0 c.requires.0 (omega (arith, c.loop-e-test.false)) loop.invariant.2 c.spend.ensures
