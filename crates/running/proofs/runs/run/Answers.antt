-- `running::runs::run` meets its contract. The invariant: the first i calls were run as the machine runs them (`Runs`), and no length changed. The
-- measure is what is left of the calls. One call more: `runs_more`. Assumes nothing.
use mathlib.Core.Path.{◌≡◌, refl, ◌∙◌}
use Prim.Native.Nat.{◌/◌}
use native.Mathlib.Omega.{arith}
use lib.ListN.{length}
use Rattle.running_model.proofs.RunsLaws.{runs_start, runs_running, runs_more}
use Rattle.running.proofs.runs.run.Goals as goal

pub loop-i-init : goal.loop-i-init
loop-i-init c = (omega arith, refl, record { masks = refl; cells = refl; trail = refl; heights = refl; answers = refl }, runs_start c.args.calls.now)

pub step-stepped-requires : goal.step-stepped-requires
step-stepped-requires c = runs_running c.loop-i.invariant.3 c.requires.running

pub loop-i-preserved : goal.loop-i-preserved
loop-i-preserved c =
    let stepped = c.step-stepped in
    let lengths = c.loop-i.invariant.2 in (
      omega (arith, c.loop-i-test.true),
      c.loop-i.invariant.1,
      record {
        masks = stepped.auto.masks ∙ lengths.masks;
        cells = stepped.auto.cells ∙ lengths.cells;
        trail = stepped.auto.trail ∙ lengths.trail;
        heights = stepped.auto.heights ∙ lengths.heights;
        answers = c.write_words.auto.answers ∙ lengths.answers;
      },
      runs_more c.args.calls.now c.loop-i.i c.call_at-call.ensures (omega (arith, c.loop-i-test.true, c.loop-i.invariant.1, c.requires.room))
          c.loop-i.invariant.3 stepped.ensures c.write_words.ensures,
    )

pub returns : goal.returns
returns c =
    let last : c.loop-i.i ≡ length c.args.calls.now / 4 = omega (arith, c.loop-i-test.false, c.loop-i.invariant.0, c.loop-i.invariant.1) in
    rw last at c.loop-i.invariant.3
