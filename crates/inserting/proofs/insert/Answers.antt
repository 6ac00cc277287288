-- `inserting::insert` meets its contract: each of its five returns is one law of `InsertLaws` of segments_model. Assumes nothing.
use native.Mathlib.Omega.{arith}
use Rattle.segments_model.proofs.InsertLaws.{inserted_spent, inserted_behind, inserted_zero, inserted_alone, inserted_before}
use Rattle.inserting.proofs.insert.Goals as goal

pub returns-then-cells-ne0 : goal.returns-then-cells-ne0
returns-then-cells-ne0 c = inserted_spent _ _ _ _ _ (omega arith) (omega arith) (omega arith) (omega arith)

pub returns-then-x-eq0 : goal.returns-then-x-eq0
returns-then-x-eq0 c = inserted_zero _ _ _ _ _ (omega arith) (omega arith) (omega arith) (omega arith) (omega arith)

pub returns-then-n-next : goal.returns-then-n-next
returns-then-n-next c =
    inserted_alone _ _ _ _ _ (omega arith) (omega arith) (omega arith) (omega arith) (omega arith) (omega arith) (omega arith) _ c.point.ensures

pub returns-then-y-x : goal.returns-then-y-x
returns-then-y-x c = inserted_behind _ _ _ _ _ (omega arith) (omega arith) (omega arith) (omega arith) (omega arith)

pub returns : goal.returns
returns c =
    inserted_before _ _ _ _ _ (omega arith) (omega arith) (omega arith) (omega arith) (omega arith) (omega arith) (omega arith) (omega arith) _
    c.point-2.ensures
