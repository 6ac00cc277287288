-- `probe::fault::check_call` meets its contract: each test decides its number. Assumes nothing.
use Rattle.probe_model.proofs.FaultLaws.{call_fault_kind, call_fault_slot, call_fault_value, call_fault_none}
use Rattle.probe.proofs.fault.check_call.Goals as goal

pub returns-then-kind-ne1 : goal.returns-then-kind-ne1
returns-then-kind-ne1 c = call_fault_kind _ _ _ _ _ c.if-kind-ne1.true

pub returns-then-n-slot : goal.returns-then-n-slot
returns-then-n-slot c = call_fault_slot _ _ _ _ _ c.if-kind-ne1.false c.if-n-slot.true

pub returns-then-k-v : goal.returns-then-k-v
returns-then-k-v c = call_fault_value _ _ _ _ _ c.if-kind-ne1.false c.if-n-slot.false c.if-k-v.true

pub returns : goal.returns
returns c = call_fault_none _ _ _ _ _ c.if-kind-ne1.false c.if-n-slot.false c.if-k-v.false
