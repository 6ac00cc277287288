-- `rises::note_value` meets its contract. The loop's invariant: the masks up to t have the values up to v, and the rest is as lent (`Filled`). The laws
-- that do the work: `marks_rest` (the mask that is read), `rise_mask_turn` (one value more) and filling's `filled_more` (one store more).
-- Assumes nothing.
use mathlib.Core.Path.{◌≡◌, ap, ◌∙◌}
use Prim.Native.Nat.{ℕ, ◌+◌}
use native.Mathlib.Omega.{arith}
use native.Mathlib.Nat.{le_refl}
use lib.ListN.{get_or, length-set}
use Rattle.domains.specs.Mask.{test_bit}
use Rattle.filling.proofs.FillLaws.{filled_more}
use Rattle.rises.specs.Rises.{rise_mask}
use Rattle.rises.proofs.RisesLaws.{marks_rest, rise_mask_turn, test_bit_rise_mask_high, rises_start}
use Rattle.rises.proofs.note_value.Goals as goal
use Rattle.rises.proofs.note_value.Goals.{After-differs}

pub loop-t-init : goal.loop-t-init
loop-t-init c = rises_start _ _ _ c.args.rises.now (omega arith)

-- the mask that is read has the values below v
mark : (c : After-differs) → get_or c.loop-t.rises (c.loop-t.t + 1) 0 ≡ rise_mask c.args.n c.args.table.now c.args.v (c.loop-t.t + 1)
mark c = marks_rest _ _ _ _ _ _ c.requires.1 c.loop-t.invariant c.loop-t-test.true

pub noted-requires : goal.noted-requires
noted-requires c =
    let v = c.args.v in
    let here = (goal.at.noted-requires c).After-differs in
    (omega arith, ap (λ (x : ℕ). test_bit x v) (mark here) ∙ test_bit_rise_mask_high _ _ v _ v (le_refl v))

pub loop-t-preserved : goal.loop-t-preserved
loop-t-preserved c =
    let here = (goal.at.loop-t-preserved c).After-differs in
    filled_more _ c.noted.result (rise_mask_turn _ _ _ (c.loop-t.t + 1) (omega arith) (mark here) c.differs.ensures c.noted.ensures)
    (omega (arith, length-set c.args.rises.now 0 0)) c.loop-t.invariant
