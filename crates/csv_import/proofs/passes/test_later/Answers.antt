-- `csv_import::passes::test_later` meets its contract. The loop's invariant: what the records from here say is what all say (`Testing`). The measure is how
-- many bytes are left. Assumes nothing.
use mathlib.Core.Path.{ap, ◌∙◌}
use Prim.Native.Nat.{ℕ}
use native.Mathlib.Omega.{arith}
use Rattle.std.proofs.Common.{rules}
use Rattle.book.specs.Refusal.{number_of, ◌or_else◌}
use Rattle.csv_import.proofs.PassLaws.{testing_refused, testing_more, testing_all, next_further}
use Rattle.csv_import.proofs.passes.test_later.Goals as goal

pub returns-in_err-read : goal.returns-in_err-read
returns-in_err-read c =
    let told = testing_refused c.loop-at.invariant c.loop-at-test.true c.in_err-read.field-0.0 c.in_err-read.ensures in
    search (rules, told)

pub loop-at-smaller : goal.loop-at-smaller
loop-at-smaller c = omega (arith, next_further c.loop-at-test.true c.in_ok-read.ensures.0, c.in_ok-read.ensures.0.inside)

pub loop-at-preserved : goal.loop-at-preserved
loop-at-preserved c =
    testing_more c.loop-at.invariant c.loop-at-test.true c.in_ok-read.ensures
    (c.first_of-refused.ensures ∙ ap (λ (y : ℕ). number_of c.loop-at.refused or_else y) c.check_row.ensures)

pub returns : goal.returns
returns c = testing_all (omega arith) c.loop-at.invariant
