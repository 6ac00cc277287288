-- `canonical::archive_table` meets its contract: 19, then 9, then the book (`archive_many`, `archive_short`, `archive_live`). Assumes nothing.
use mathlib.Core.Path.{◌≡◌}
use mathlib.Core.List.{List}
use Prim.Native.Nat.{ℕ, ◌+◌, ◌*◌, ◌≤◌}
use native.Mathlib.Omega.{arith}
use lib.ListN.{length}
use Rattle.book.specs.Layout.{slots, values}
use Rattle.closing_model.specs.Table.{view}
use Rattle.canonical_model.specs.Canonical.{book_rows, canonical_book}
use Rattle.canonical_model.specs.CornerRows.{canonical_rows}
use Rattle.canonical_model.proofs.OutcomeLaws.{archive_many, archive_short, archive_live}
use Rattle.canonical.proofs.ArchiveLaws.{closed_lines, rows_are, book_length_lem, canonises_refused, canonises_written}
use Rattle.canonical.proofs.archive_table.Goals as goal

-- the rows that were counted are those of the canonical book, and give its length
module _ (b L U : List ℕ) {n k r : ℕ} (n_is : n ≡ slots b) (k_is : k ≡ values b) (counted : r ≡ length (canonical_rows n k (view L U))) where
  count : length (book_rows b (view L U)) ≡ r
  count = omega (arith, rows_are b L U n_is k_is counted)

  long : length (canonical_book b (view L U)) ≡ 12 + 4 * n + 8 * r
  long = omega (arith, book_length_lem b L U, count, n_is)

pub count_rows-r-requires : goal.count_rows-r-requires
count_rows-r-requires c = closed_lines c.requires.1 c.slots-n.ensures.0 c.values-k.ensures.0

pub returns-then-limits-r : goal.returns-then-limits-r
returns-then-limits-r c =
    let rows = count c.args.book.now c.args.lowers.now c.args.uppers.now c.slots-n.ensures.0 c.values-k.ensures.0 c.count_rows-r.ensures in
    canonises_refused 19 _ (archive_many _ _ _ _ _ (omega (arith, rows, c.if-limits-r.true)))

pub returns-then-out-n : goal.returns-then-out-n
returns-then-out-n c =
    let rows = count c.args.book.now c.args.lowers.now c.args.uppers.now c.slots-n.ensures.0 c.values-k.ensures.0 c.count_rows-r.ensures in
    let bytes = long c.args.book.now c.args.lowers.now c.args.uppers.now c.slots-n.ensures.0 c.values-k.ensures.0 c.count_rows-r.ensures in
    canonises_refused 9 _ (archive_short _ _ _ _ _ (omega (arith, rows, c.if-limits-r.false)) (omega (arith, c.if-out-n.true, bytes)))

pub write_book-requires : goal.write_book-requires
write_book-requires c = (
  c.requires.1,
  record {
    count = rows_are c.args.book.now c.args.lowers.now c.args.uppers.now c.slots-n.ensures.0 c.values-k.ensures.0 c.count_rows-r.ensures;
    few = omega (arith, c.if-limits-r.false, c.requires.0.rows);
    room = omega (arith, c.if-out-n.false, c.slots-n.ensures.0);
  },
)

pub returns : goal.returns
returns c =
    let rows = count c.args.book.now c.args.lowers.now c.args.uppers.now c.slots-n.ensures.0 c.values-k.ensures.0 c.count_rows-r.ensures in
    let bytes = long c.args.book.now c.args.lowers.now c.args.uppers.now c.slots-n.ensures.0 c.values-k.ensures.0 c.count_rows-r.ensures in
    let book : List ℕ = canonical_book c.args.book.now (view c.args.lowers.now c.args.uppers.now) in
    let fits : length book ≤ length c.args.out.now = omega (arith, c.if-out-n.false, bytes) in
    canonises_written _ _ (archive_live _ _ _ _ _ (omega (arith, rows, c.if-limits-r.false)) fits) fits c.write_book.ensures
