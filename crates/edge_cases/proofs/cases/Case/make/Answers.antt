-- `edge_cases::Case::make` meets its contract: where no byte is left there is no step, since a step makes what is left shorter. Assumes nothing.
use Rattle.std.proofs.Common.{refl, arith, ap, ◌∙◌, length}
use Rattle.edge_cases.proofs.cases.Case.make.Goals as goal

pub loop-step-init : goal.loop-step-init
loop-step-init c = λ empty. (ap (λ s. length s.rest.now) c.into_iter-step-iterator.ensures.into_iter_gives ∙ ap length c.steps-step-items.ensures ∙ empty, refl)

pub loop-step-preserved : goal.loop-step-preserved
loop-step-preserved c = λ empty. absurd (omega (arith, (c.in-Some.ensures.goes.on cc).2, (c.loop-step.invariant empty).0))

pub returns : goal.returns
returns c = λ empty. (c.loop-step.invariant empty).1
