-- `nested_gcc::nested_gcc_probe` meets its contract: the limits are document 01's, and the word is that of the typed answer. Assumes nothing.
use Rattle.nested_gcc.proofs.nested_gcc_probe.Goals as goal

pub returns : goal.returns
returns c = rw c.word.ensures c.probe.ensures
