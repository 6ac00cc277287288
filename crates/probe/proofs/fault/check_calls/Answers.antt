-- `probe::fault::check_calls` meets its contract. The invariant: no call below i is refused. The measure is what is left. A turn is `first_more` or
-- `first_at`. Assumes nothing.
use mathlib.Core.Path.{◌≡◌, refl, sym}
use native.Mathlib.Omega.{arith}
use Rattle.std.proofs.Common.{rules}
use Rattle.answer.specs.Answer.{number_of}
use Rattle.book.specs.Refusal.{first_of}
use Rattle.book.proofs.RefusalLaws.{first_more, first_at, some_number}
use Rattle.probe_model.specs.Probe.{call_fault_at}
use Rattle.probe.proofs.fault.check_calls.Goals as goal

pub loop-i-init : goal.loop-i-init
unfolding first_of
loop-i-init c = (refl, omega arith)

pub returns-in_err-check_call : goal.returns-in_err-check_call
returns-in_err-check_call c =
    let e = c.in_err-check_call.field-0.0 in
    let told = first_at c.args.count (call_fault_at c.args.n c.args.k c.args.calls.now) c.loop-i.i (number_of e) c.loop-i.invariant.0
    c.loop-i-test.true (rw (c.kind_in.ensures, c.value_in.ensures.0, c.slot_in.ensures) at c.in_err-check_call.ensures) (some_number e) in
    search (rules, told)

pub loop-i-preserved : goal.loop-i-preserved
loop-i-preserved c = (
  first_more (call_fault_at c.args.n c.args.k c.args.calls.now) c.loop-i.i c.loop-i.invariant.0
      (rw (c.kind_in.ensures, c.value_in.ensures.0, c.slot_in.ensures) at (sym c.in_ok-check_call.ensures)),
  omega arith,
)

pub returns : goal.returns
returns c =
    let last : c.loop-i.i ≡ c.args.count = omega arith in
    rw last at (sym c.loop-i.invariant.0)
