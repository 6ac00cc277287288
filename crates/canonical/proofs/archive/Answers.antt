-- `canonical::archive` meets its contract: the book's own refusal, else a good book, whose table fits the arrays. Assumes nothing.
use mathlib.Core.Path.{◌≡◌, refl, sym, ◌∙◌}
use mathlib.Core.List.{List}
use Prim.Native.Nat.{ℕ, ◌≤◌}
use native.Mathlib.Omega.{arith}
use lib.ListN.{length}
use lib.Seq.{length-take-le}
use Rattle.std.proofs.Common.{rules}
use Rattle.answer.specs.Answer.{number_of}
use Rattle.book.specs.declared.Limits.{Limits}
use Rattle.book.specs.Refusal.{refusal}
use Rattle.book.proofs.BookLaws.{good_facts}
use Rattle.book.proofs.RefusalLaws.{some_number}
use Rattle.book_bytes.specs.BookBytes.{LimitsFit}
use Rattle.closing_model.specs.Start.{entries}
use Rattle.settling_model.specs.Book.{closed_book}
use Rattle.canonical_model.proofs.OutcomeLaws.{canonical_good_of}
use Rattle.settle_fault.proofs.ClosedLaws.{entries_most}
use Rattle.settle_fault.proofs.SettleLaws.{fit_of}
use Rattle.canonical.proofs.ArchiveLaws.{canonises_refused, entry_refused, good_room}
use Rattle.canonical.proofs.archive.Goals as goal

-- the table of a good book, of m entries, fits an array of 8,224
module _ (limits : Limits) (b : List ℕ) (m : ℕ) (small : LimitsFit limits) (none : 0 ≡ refusal limits b) (size : m ≡ entries b) where
  size_most : m ≤ 8224
  size_most = rw size (entries_most (fit_of (record { slots = small.slots; values = small.values }) (good_facts limits b (sym none))))

pub returns-in_err-read : goal.returns-in_err-read
returns-in_err-read c =
    let e = c.in_err-read.field-0.0 in
    let refused = entry_refused c.args.limits c.args.book.now (length c.args.out.now) (number_of e) c.in_err-read.ensures (some_number e) in
    let told = canonises_refused (number_of e) c.args.out.now refused in
    search (rules, told)

pub table_size-m-requires : goal.table_size-m-requires
table_size-m-requires c = omega (arith, (good_facts _ _ (sym c.in_ok-read.ensures)).header.header_inside)

pub slice_bounds-lowers-end : goal.slice_bounds-lowers-end
slice_bounds-lowers-end c = size_most _ _ _ c.requires c.in_ok-read.ensures c.table_size-m.ensures

pub slice_bounds-close_and_archive-end : goal.slice_bounds-close_and_archive-end
slice_bounds-close_and_archive-end c = sym (length-take-le _ _ (size_most _ _ _ c.requires c.in_ok-read.ensures c.table_size-m.ensures))

pub slice_bounds-uppers-end : goal.slice_bounds-uppers-end
slice_bounds-uppers-end c = size_most _ _ _ c.requires c.in_ok-read.ensures c.table_size-m.ensures

pub slice_bounds-close_and_archive-end-2 : goal.slice_bounds-close_and_archive-end-2
slice_bounds-close_and_archive-end-2 c = sym (length-take-le _ _ (size_most _ _ _ c.requires c.in_ok-read.ensures c.table_size-m.ensures))

pub close_and_archive-requires : goal.close_and_archive-requires
close_and_archive-requires c =
    let long = length-take-le _ _ (size_most _ _ _ c.requires c.in_ok-read.ensures c.table_size-m.ensures) ∙ c.table_size-m.ensures in
    (c.requires, good_room c.args.limits c.args.book.now c.requires (sym c.in_ok-read.ensures) long long)

pub returns : goal.returns
returns c =
    rw (canonical_good_of c.args.limits c.args.book.now (length c.args.out.now) (sym c.in_ok-read.ensures) (closed_book c.args.book.now) refl)
    c.close_and_archive.ensures
