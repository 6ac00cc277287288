-- `bounds::close_table` meets its contract. The invariants: of the sweeps, `SweepsInv`, the table lies within the one at entry and holds every
-- closed table within that; of the loop over the values, `LinesInv`, the lines of the first v values were swept and are uncrossed; of the
-- loop over the prefixes, no entry of the line below t is crossed. The measures: `slack`, which each store lowers, and n + 1 less t.
-- `sweeps_loosest` gives the loosest table after a sweep that stored nothing, `sweeps_crossed` and `sweeps_none` that there is none, and
-- `loosest_closing` and `none_closing` turn that into the model's answer. Assumes nothing.
use mathlib.Core.Path.{◌≡◌, refl, ◌∙◌}
use Prim.Native.Nat.{◌+◌, ◌*◌, ◌≤◌}
use native.Mathlib.Nat.{le_refl, add_assoc}
use native.Mathlib.Omega.{arith}
use Rattle.closing_model.specs.Table.{view}
use Rattle.closing_model.proofs.SweepLaws.{Uncrossed, lines_turn, sweeps_turn, sweep_ran, sweeps_loosest, sweeps_crossed, sweeps_none, uncrossed_more}
use Rattle.closing_model.proofs.ClosingLaws.{loosest_closing, none_closing}
use Rattle.line_tests.proofs.CrossLaws.{cross_some, cross_none}
use Rattle.bounds.proofs.close_table.Goals as goal
use Rattle.bounds.proofs.close_table.Goals.{else-loop-t-test, then-loop-t-test+else-crosses+else-t-end-t-gt64}

pub loop-t-preserved : goal.loop-t-preserved
loop-t-preserved c =
    let T = view c.line-changed.new.lowers c.line-changed.new.uppers in
    let base = c.loop-v.v * (c.args.n + 1) in
    let m = c.min-m.result in
    let next : c.loop-t.t + m ≡ c.loop-t.t + 64 = omega arith in
    let here = cross_none (base + c.loop-t.t) m T c.crosses.ensures c.if-crosses.false in
    let upto : Uncrossed base (c.loop-t.t + m) T = uncrossed_more base c.loop-t.t m T c.loop-t.invariant here in
    rw next at upto

-- the loop over the prefixes ends behind the last one
pub loop-v-preserved : goal.loop-v-preserved
loop-v-preserved c =
    let T = view c.line-changed.new.lowers c.line-changed.new.uppers in
    let base = c.loop-v.v * (c.args.n + 1) in
    let t = c.loop-t.t in
    let next : base + (c.args.n + 1) ≡ (c.loop-v.v + 1) * (c.args.n + 1) = omega arith in
    let uncrossed : Uncrossed base (c.args.n + 1) T =
    elim c.loop-t-test.branch [
      | else-loop-t-test w ↦ (λ i i<. c.loop-t.invariant i (omega (arith, i<, w.loop-t-test)))
      | then-loop-t-test+else-crosses+else-t-end-t-gt64 w ↦
          let last : t + w.min-m.result ≡ c.args.n + 1 = omega arith in
          let upto : Uncrossed base (t + w.min-m.result) T =
          uncrossed_more base t w.min-m.result T c.loop-t.invariant
          (cross_none (base + t) w.min-m.result T w.crosses.ensures w.if-crosses.false) in
          rw last at upto
    ] in
    rw next at (lines_turn c.loop-v-test.true c.loop-v.invariant c.line-changed.ensures uncrossed refl)

pub returns-then-not-changed : goal.returns-then-not-changed
returns-then-not-changed c =
    let first = c.requires in
    let swept = sweep_ran c.loop-v-test.false c.loop-v.invariant c.in-Ok.ensures refl in
    let last = sweeps_turn c.sweeps.invariant swept in
    loosest_closing _ _ _ _ first.lowers first.uppers _ _ (last.size_l ∙ first.lowers) (last.size_u ∙ first.uppers)
    (sweeps_loosest c.sweeps.invariant swept c.if-not-changed.true)

pub sweeps-smaller : goal.sweeps-smaller
sweeps-smaller c =
    let swept = sweep_ran c.loop-v-test.false c.loop-v.invariant c.in-Ok.ensures refl in
    (swept.swept _ (le_refl _)).moved c.if-not-changed.false

pub sweeps-preserved : goal.sweeps-preserved
sweeps-preserved c = sweeps_turn c.sweeps.invariant (sweep_ran c.loop-v-test.false c.loop-v.invariant c.in-Ok.ensures refl)

pub returns-then-crosses : goal.returns-then-crosses
returns-then-crosses c =
    let first = c.requires in
    let T = view c.line-changed.new.lowers c.line-changed.new.uppers in
    let base = c.loop-v.v * (c.args.n + 1) in
    let found = cross_some (base + c.loop-t.t) c.min-m.result T c.crosses.ensures c.if-crosses.true in
    let inside : c.loop-t.t + found.offset ≤ c.args.n = omega (arith, found.inside) in
    none_closing _ _ _ _ first.lowers first.uppers
    (sweeps_crossed c.sweeps.invariant (c.loop-t.t + found.offset) c.loop-v-test.true inside c.loop-v.invariant c.line-changed.ensures
    (rw (add_assoc _ _ _) at found.crossed))

pub returns-in_default : goal.returns-in_default
returns-in_default c =
    let first = c.requires in
    none_closing _ _ _ _ first.lowers first.uppers (sweeps_none c.sweeps.invariant c.loop-v.invariant c.in_default.ensures)
