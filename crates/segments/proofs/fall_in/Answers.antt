-- `segments::fall_in` meets its contract: the part that was lent to `fall` came back into its place (`lent`). Assumes nothing.
use native.Mathlib.Omega.{arith}
use Rattle.segments_model.proofs.PartLaws.{lent}
use Rattle.segments.proofs.fall_in.Goals as goal

pub returns : goal.returns
returns c = lent _ _ _ _ _ (omega arith) c.fall.ensures.size c.fall.ensures
