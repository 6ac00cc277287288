-- `corners::tick` meets its contract: the two kinds are the two clauses of `tick` of segments_model. Assumes nothing.
use mathlib.Core.Path.{ap, ◌∙◌}
use Prim.Native.Nat.{ℕ}
use lib.Dec.{eqb}
use lib.ListN.{get_or}
use mir.Val.{bool_byte as from_bool}
use Rattle.domains.specs.Counts.{bit}
use Rattle.corners.proofs.MaskTestLaws.{bit_test_bit, bit_only, from_bool_bit}
use Rattle.corners.proofs.tick.Goals as goal

pub returns-then-lower : goal.returns-then-lower
returns-then-lower c = rw c.if-lower.true (c.from.ensures ∙ ap from_bool c.has.ensures ∙ from_bool_bit _ ∙ bit_test_bit _ _)

pub returns : goal.returns
returns c =
    let m = get_or c.args.masks.now c.args.slot 0 in
    rw c.if-lower.false (c.from-2.ensures ∙ from_bool_bit _ ∙ ap (λ (x : ℕ). bit (eqb m x)) c.only.ensures ∙ bit_only _ _)
