-- `building::fill` meets its contract. The invariant: t is at most n, the list is as long as it was, the counts stand at t (`Counts`), and the
-- corners after t are done (`DoneAfter`). The measure is t. One turn: `turn_onward` and `done_back`; it ends with `turn_broken` or
-- `built_all`, once the cells before the first right end are pointed at it (`done_point`). Assumes nothing.
use mathlib.Core.Path.{◌≡◌, refl, ◌∙◌}
use native.Mathlib.Nat.{le_refl}
use native.Mathlib.Omega.{arith}
use Rattle.segments_model.proofs.BuildLaws.{done_point}
use Rattle.segments_model.proofs.CountsLaws.{choice_bound}
use Rattle.building.specs.Built.{DoneAfter}
use Rattle.building.proofs.BuiltLaws.{turn_broken, turn_onward, done_back, built_broken, built_all}
use Rattle.building.proofs.fill.Goals as goal

pub loop-t-init : goal.loop-t-init
loop-t-init c = (omega arith, refl, c.requires.5, c.requires.6)

pub visit-requires : goal.visit-requires
visit-requires c =
    let inv = c.loop-t.invariant in
    omega (arith, c.choose-gained.ensures, choice_bound inv.2 c.args.lower, inv.3.laid.filling.first.after, inv.3.laid.filling.first.inside)

pub shape_of-cells-in_default : goal.shape_of-cells-in_default
shape_of-cells-in_default c =
    omega (arith, c.loop-t.invariant.1, c.visit.ensures.size)

pub returns-in_default : goal.returns-in_default
returns-in_default c =
    built_broken _ _ _ _ _ _ _ (omega (arith, c.loop-t.invariant.1, c.visit.ensures.size)) c.loop-t.t
    (turn_broken _ c.loop-t.invariant.2 _ _ _ c.loop-t.invariant.3 c.corner_at-corner.ensures c.choose-gained.ensures
    c.choose-lost.ensures c.visit.ensures c.loop-t.invariant.0 c.in_default.is)

pub previous_corner-s-requires : goal.previous_corner-s-requires
previous_corner-s-requires c =
    omega (arith, c.loop-t-test.true, c.loop-t.invariant.0, c.requires.1, c.requires.4)

pub count_back-before-requires : goal.count_back-before-requires
count_back-before-requires c = (
  omega (arith, c.previous_corner-s.ensures.before),
  omega (arith, c.loop-t.invariant.0, c.requires.1),
  omega (arith, c.loop-t.invariant.0, c.requires.2),
  c.requires.4,
  c.loop-t.invariant.2,
)

pub loop-t-smaller : goal.loop-t-smaller
loop-t-smaller c = omega (arith, c.previous_corner-s.ensures.before)

pub loop-t-preserved : goal.loop-t-preserved
loop-t-preserved c =
    let inv = c.loop-t.invariant in
    let found = c.previous_corner-s.ensures in (
      omega (arith, found.before, inv.0),
      omega (arith, c.loop-t.invariant.1, c.visit.ensures.size),
      c.count_back-before.ensures,
      done_back inv.0 (turn_onward _ inv.2 _ _ _ inv.3 c.corner_at-corner.ensures c.choose-gained.ensures c.choose-lost.ensures c.visit.ensures inv.0
          c.in-Some.is) found,
    )

pub point-requires : goal.point-requires
point-requires c =
    let all = c.loop-t in
    omega (arith, all.invariant.1, all.invariant.3.laid.filling.first.after, all.invariant.3.laid.filling.first.inside, c.requires.0, c.requires.3)

pub shape_of-cells : goal.shape_of-cells
shape_of-cells c = c.point.ensures.size ∙ c.loop-t.invariant.1

pub returns : goal.returns
returns c =
    let all = c.loop-t in
    let pointed = c.point.ensures in
    let none : all.t ≡ 0 = omega (arith, c.loop-t-test.false) in
    let done : DoneAfter c.args.lower c.args.n c.args.rises.now c.args.masks.now c.args.v 0 all.cells all.next =
    rw none at all.invariant.3 in
    built_all _ _ _ _ _ _ _ (pointed.size ∙ all.invariant.1) 0 _ refl
    (done_point done (omega (arith, all.invariant.1, c.requires.0)) _ (le_refl all.next) _ pointed)
