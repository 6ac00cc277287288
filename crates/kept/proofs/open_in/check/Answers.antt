-- `kept::open_in::check` meets its contract: the reader's refusal, else 9 where a size is another (`open_fault_book`, `open_fault_fits`).
-- Assumes nothing.
use mathlib.Core.Path.{sym, ap, ◌∙◌}
use mathlib.Core.Bool.{not}
use Rattle.std.proofs.Common.{rules}
use Rattle.book.specs.Refusal.{fault}
use Rattle.book.proofs.RefusalLaws.{some_number}
use Rattle.kept_model.proofs.EntriesLaws.{open_fault_book, open_fault_fits}
use Rattle.kept.proofs.open_in.check.Goals as goal

pub returns-in_err-read : goal.returns-in_err-read
returns-in_err-read c =
    let e = c.in_err-read.field-0.0 in
    let told = c.in_err-read.ensures ∙ sym (open_fault_book c.args.book.now c.args.fits (λ none. some_number e (c.in_err-read.ensures ∙ none))) in
    search (rules, told)

pub returns-then-fits : goal.returns-then-fits
returns-then-fits c = sym (open_fault_fits _ _ (sym c.in_ok-read.ensures) ∙ ap (λ b. fault 9 (not b)) c.if-fits.true)

pub returns : goal.returns
returns c = sym (open_fault_fits _ _ (sym c.in_ok-read.ensures) ∙ ap (λ b. fault 9 (not b)) c.if-fits.false)
