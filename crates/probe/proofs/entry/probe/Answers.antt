-- `probe::entry::probe` meets its contract: refused before anything is lent on (`probe_refused`), else what `probe_exactly` does (`probe_good_lem`).
-- Assumes nothing.
use mathlib.Core.Path.{◌≡◌, sym, ◌∙◌}
use mathlib.Core.List.{List}
use Prim.Native.Nat.{ℕ, ◌≤◌}
use native.Mathlib.Nat.{le_trans}
use lib.Seq.{length-take-le}
use Rattle.std.proofs.Common.{rules}
use Rattle.answer.specs.Answer.{number_of}
use Rattle.book.specs.declared.Limits.{Limits}
use Rattle.book.specs.Layout.{slots}
use Rattle.book.specs.GoodFacts.{GoodFacts}
use Rattle.book.proofs.RefusalLaws.{some_number}
use Rattle.settle_fault.specs.Ready.{Capacity}
use Rattle.settle_fault.proofs.SettleLaws.{fit_of}
use Rattle.probe_model.specs.Probe.{probe_fault}
use Rattle.probe_model.proofs.FaultLaws.{probe_fault_good, probe_fault_each, probe_fault_enough, probe_refused, probe_good_lem}
use Rattle.probe.proofs.entry.probe.Goals as goal

-- a book that no number refuses, and room for its n slots
module _ (limits : Limits) (b calls : List ℕ) (room : ℕ) (none : 0 ≡ probe_fault limits b calls room) where
  good : GoodFacts limits b
  good = probe_fault_good limits b calls room (sym none)

  slots_fit : (n : ℕ) → Capacity limits → n ≡ slots b → n ≤ 256
  slots_fit n capacity is = rw is (le_trans good.header.slots_most capacity.slots)

pub returns-in_err-check : goal.returns-in_err-check
returns-in_err-check c =
    let e = c.in_err-check.field-0.0 in
    let told = probe_refused c.args.limits c.args.book.now c.args.calls.now c.args.dead.now (number_of e) c.in_err-check.ensures (some_number e) in
    search (rules, told)

pub slots-n-requires : goal.slots-n-requires
slots-n-requires c = (good _ _ _ _ c.in_ok-check.ensures).header.header_inside

pub slice_bounds-masks-end : goal.slice_bounds-masks-end
slice_bounds-masks-end c = slots_fit _ _ _ _ c.in_ok-check.ensures _ c.requires c.slots-n.ensures.0

pub slice_bounds-probe_exactly-end : goal.slice_bounds-probe_exactly-end
slice_bounds-probe_exactly-end c = sym (length-take-le _ _ (slots_fit _ _ _ _ c.in_ok-check.ensures _ c.requires c.slots-n.ensures.0))

pub probe_exactly-requires : goal.probe_exactly-requires
probe_exactly-requires c =
    let unrefused = sym c.in_ok-check.ensures in
    record {
      ready =
          record {
            book = fit_of c.requires (probe_fault_good _ _ _ _ unrefused);
            masks = length-take-le _ _ (slots_fit _ _ _ _ c.in_ok-check.ensures _ c.requires c.slots-n.ensures.0) ∙ c.slots-n.ensures.0;
          };
      room = probe_fault_enough _ _ _ _ unrefused;
      each = probe_fault_each _ _ _ _ unrefused;
    }

pub returns : goal.returns
returns c = probe_good_lem _ _ _ _ (sym c.in_ok-check.ensures) c.probe_exactly.ensures
