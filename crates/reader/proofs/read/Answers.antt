-- `reader::read` meets its contract: what refuses a book is its header, else its first bad mask, else its first bad row (`header_refuses`,
-- `masks_refuse`, `refusal_rows`). Past the header's test `header_good` gives the facts that the later readings require. Assumes nothing.
use mathlib.Core.Path.{◌≡◌, sym, ap, ◌∙◌}
use mathlib.Core.List.{List}
use Prim.Native.Nat.{ℕ}
use native.Mathlib.Omega.{arith}
use lib.ListN.{length}
use Rattle.std.proofs.Common.{rules}
use Rattle.book.specs.declared.Limits.{Limits}
use Rattle.book.specs.Refusal.{header_fault}
use Rattle.book.specs.GoodFacts.{HeaderFacts}
use Rattle.book.proofs.RefusalLaws.{header_refuses, masks_refuse, refusal_rows}
use Rattle.book.proofs.BookLaws.{header_facts, rows_inside, rows_part_long}
use Rattle.reader.proofs.read.Goals as goal

header_good : (limits : Limits) (b : List ℕ) → 0 ≡ header_fault limits b → HeaderFacts limits b
header_good limits b none = header_facts limits b (sym none)

pub returns-in_err-check_header : goal.returns-in_err-check_header
returns-in_err-check_header c = search (rules, header_refuses)

pub slots-n-requires : goal.slots-n-requires
slots-n-requires c = (header_good _ _ c.in_ok-check_header.ensures).header_inside

pub values-k-requires : goal.values-k-requires
values-k-requires c = (header_good _ _ c.in_ok-check_header.ensures).header_inside

pub check_masks-requires : goal.check_masks-requires
check_masks-requires c = omega (arith, rows_inside (header_good _ _ c.in_ok-check_header.ensures))

pub returns-in_err-check_masks : goal.returns-in_err-check_masks
returns-in_err-check_masks c =
    let told = masks_refuse c.args.limits c.args.book.now c.in_err-check_masks.field-0.0 (sym c.in_ok-check_header.ensures)
    (rw (c.slots-n.ensures.0, c.values-k.ensures.0) at c.in_err-check_masks.ensures) in
    search (rules, told)

pub rows-requires : goal.rows-requires
rows-requires c = rows_inside (header_good _ _ c.in_ok-check_header.ensures)

pub row_count-requires : goal.row_count-requires
row_count-requires c = (header_good _ _ c.in_ok-check_header.ensures).header_inside

pub check_rows-requires : goal.check_rows-requires
check_rows-requires c =
    omega (arith, ap length c.rows.ensures, rows_part_long (header_good _ _ c.in_ok-check_header.ensures))

pub returns : goal.returns
returns c =
    let n = c.slots-n.ensures.0 in
    let k = c.values-k.ensures.0 in
    rw (c.rows.ensures, c.row_count.ensures.0, n, k) at c.check_rows.ensures
    ∙ refusal_rows c.args.limits c.args.book.now (sym c.in_ok-check_header.ensures) (sym (rw (n, k) at c.in_ok-check_masks.ensures))
