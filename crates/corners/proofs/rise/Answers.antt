-- `corners::rise` meets its contract: a bit is 1 where the mask has the value, else 0 (`from_bool_bit`, `bit_test_bit`). Assumes nothing.
use mathlib.Core.Path.{ap, ◌∙◌}
use mir.Val.{bool_byte as from_bool}
use Rattle.corners.proofs.MaskTestLaws.{bit_test_bit, from_bool_bit}
use Rattle.corners.proofs.rise.Goals as goal

pub returns : goal.returns
returns c = c.from.ensures ∙ ap from_bool c.has.ensures ∙ from_bool_bit _ ∙ bit_test_bit _ _
