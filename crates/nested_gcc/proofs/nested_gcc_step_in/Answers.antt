-- `nested_gcc::nested_gcc_step_in` meets its contract: the answer as a word. Assumes nothing.
use Rattle.nested_gcc.proofs.nested_gcc_step_in.Goals as goal

pub returns : goal.returns
returns c = rw c.word.ensures c.step.ensures
