-- `book_items::check_row` meets its contract: each test decides one of the numbers 6 to 8, in the order of the definition.
-- `value_good` and `end_good` say what is known past the first two. Assumes nothing.
use mathlib.Core.Path.{◌≡◌}
use mathlib.Core.Logic.{⊎_elim, inl, inr}
use mathlib.Core.Bool.{true, false, not, ◌||◌}
use native.Mathlib.Omega.{arith}
use lib.Dec.{eqb, leb}
use borrow.Author.Tests.{lt-ltb, le-ltb, le-leb, lt-leb, ltb-false}
use Rattle.std.proofs.lemmas.Bool.{ne_eqb}
use Rattle.book.specs.Refusal.{within, row_fault}
use Rattle.book.proofs.RefusalLaws.{within_out, within_in}
use Rattle.book_items.proofs.check_row.Goals as goal
use Rattle.book_items.proofs.check_row.Goals.{Else-n-row, Else-row-ne0}

value_good : (c : Else-row-ne0)
    → (leb c.before.before.before.before.args.k c.before.before.before.before.args.row.value || not (eqb c.before.before.before.before.args.row.reserved 0)) ≡ false
value_good c =
    let s = c.before.before.before.before in
    simp (lt-leb s.args.k s.args.row.value c.before.before.if-k-row.false, c.if-row-ne0.false-raw)

end_good : (c : Else-n-row)
    → within c.before.before.before.before.before.before.before.before.args.n c.before.before.before.before.before.before.before.before.args.row.end ≡ true
end_good c =
    let s = c.before.before.before.before.before.before.before.before in
    within_in s.args.n s.args.row.end (omega arith) (omega (arith, ltb-false))

pub returns-then-k-row : goal.returns-then-k-row
unfolding row_fault
returns-then-k-row c =
    let row = c.args.row in
    ⊎_elim (λ w. simp (le-leb c.args.k row.value w)) (λ w. simp (lt-leb c.args.k row.value w.0, ne_eqb row.reserved 0 w.1)) c.then-k-row.either

pub returns-then-row-eq0 : goal.returns-then-row-eq0
unfolding row_fault
returns-then-row-eq0 c =
    let s = c.before.before.before.before.before.before in
    simp (
      value_good c.before.before,
      within_out s.args.n s.args.row.end
          (⊎_elim (λ w. inl w) (λ w. inr w.1) c.then-row-eq0.either),
    )

pub returns-then-row-gt-MOST_BOUND : goal.returns-then-row-gt-MOST_BOUND
unfolding row_fault
returns-then-row-gt-MOST_BOUND c =
    let row = c.before.before.before.before.before.before.before.before.before.before.args.row in
    simp (value_good c.before.before.before.before.before.before, end_good c.before.before, lt-ltb 256 row.lower c.if-row-gt-MOST_BOUND.true)

pub returns-then-row-ne-NO_UPPER : goal.returns-then-row-ne-NO_UPPER
unfolding row_fault
returns-then-row-ne-NO_UPPER c =
    let row = c.before.before.before.before.before.before.before.before.before.before.before.before.before.before.args.row in
    simp (
      value_good c.before.before.before.before.before.before.before.before.before.before,
      end_good c.before.before.before.before.before.before,
      le-ltb 256 row.lower c.before.before.before.before.if-row-gt-MOST_BOUND.false,
      lt-ltb 256 row.upper c.before.before.if-row-gt-MOST_BOUND-2.true,
      c.if-row-ne-NO_UPPER.true-raw,
    )

pub returns : goal.returns
unfolding row_fault
returns c =
    let row = c.before.before.before.before.before.before.before.before.before.before.before.before.args.row in
    let value = value_good c.before.before.before.before.before.before.before.before in
    let end = end_good c.before.before.before.before in
    let lower = le-ltb 256 row.lower c.before.before.if-row-gt-MOST_BOUND.false in
    ⊎_elim (λ w. simp (value, end, lower, w.1)) (λ w. simp (value, end, lower, le-ltb 256 row.upper w))
    c.else-row-gt-MOST_BOUND-2.either
