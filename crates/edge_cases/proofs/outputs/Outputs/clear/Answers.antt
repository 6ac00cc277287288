-- `edge_cases::Outputs::clear` meets its contract: a clone of a number is that number. Assumes nothing.
use Rattle.std.proofs.Common.{arith, ap, ◌∙◌, replicate}
use Rattle.edge_cases.proofs.outputs.Outputs.clear.Goals as goal

pub returns-clause-bounds : goal.returns-clause-bounds
returns-clause-bounds c = (
  c.fill.ensures.after (λ _ same. same) ∙ ap (λ n. replicate n 9999) {y = 8225} (omega arith),
  c.fill-2.ensures.after (λ _ same. same) ∙ ap (λ n. replicate n 9999) {y = 8225} (omega arith),
)

pub returns-clause-others : goal.returns-clause-others
returns-clause-others c = (
  c.fill-3.ensures.after (λ _ same. same) ∙ ap (λ n. replicate n 9999) {y = 8194} (omega arith),
  c.fill-4.ensures.after (λ _ same. same) ∙ ap (λ n. replicate n 9999) {y = 257} (omega arith),
)
