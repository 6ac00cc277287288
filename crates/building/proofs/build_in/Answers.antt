-- `building::build_in` meets its contract: the part that was lent to `build` came back into its place (`lent`). Assumes nothing.
use native.Mathlib.Omega.{arith}
use Rattle.segments_model.proofs.PartLaws.{lent}
use Rattle.building.proofs.build_in.Goals as goal

pub returns : goal.returns
returns c = lent _ _ _ _ _ (omega arith) c.build.ensures.size c.build.ensures
