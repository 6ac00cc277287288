-- What a good book gives: the laws of `specs/GoodFacts.antt`, in its order. No contract cites this file. The ones that matter most:
-- `good_facts` and `facts_good` (no refusal, and the facts one by one), and under 'what the accessors require' that such a book has it.
-- Assumes nothing.
use mathlib.Core.Path.{◌≡◌, ◌∙◌}
use mathlib.Core.Logic.{◌⊎◌, ⊎_elim, inl, inr, dite}
use mathlib.Core.Bool.{false, not, ◌&&◌, ◌||◌}
use mathlib.Core.List.{List}
use Prim.Native.Nat.{ℕ, ◌+◌, ◌*◌, ◌^◌, ◌≤◌, ◌<◌}
use native.Mathlib.Omega.{arith}
use native.Mathlib.Decide.{dec_le}
use lib.Dec.{eqb, ltb, leb, lit<}
use lib.ListN.{length}
use borrow.Author.Tests.{lt-ltb, le-ltb, le-leb, lt-leb, eq-eqb, ne_eqb, leb-true, leb-false, ltb-false, eqb-true, eqb-false, not-false}
use Rattle.book.specs.declared.Limits.{Limits}
use Rattle.book.specs.declared.Row.{Row}
use Rattle.book.specs.Layout.{slots, values, idle, row_count, masks_offset, rows_offset, book_length, mask_at, rows_part, row_at}
use Rattle.book.specs.Refusal.{◌or_else◌, within, out_of_range, misplaced, header_fault, mask_fault, row_fault, refusal, GoodBook}
use Rattle.book.specs.GoodFacts.{HeaderFacts, MaskFacts, RowFacts, GoodFacts}
use Rattle.book.proofs.LayoutLaws.{length_rows_part}
use Rattle.book.proofs.RefusalLaws.{none_of_or, both_of_and, fault_none, or_else_none, none_of_or_else, first_none, none_first}
use Rattle.book.proofs.RefusalLaws.{mask_fault_at, mask_faults, row_fault_at, row_faults}

-- ---- HeaderFacts
range_facts : (most x : ℕ) → not (within most x) ≡ false → (1 ≤ x) × (x ≤ most)
range_facts most x in_range =
    let both = both_of_and (leb 1 x) (leb x most) (not-false _ in_range) in
    (leb-true 1 x both.0, leb-true x most both.1)

same : (x y : ℕ) → not (eqb x y) ≡ false → x ≡ y
same x y equal = eqb-true x y (not-false _ equal)

pub header_facts : (limits : Limits) (b : List ℕ) → header_fault limits b ≡ 0 → HeaderFacts limits b
unfolding header_fault
header_facts limits b none =
    let from_1 = none_of_or_else _ _ none in
    let from_2 = none_of_or_else _ _ from_1.1 in
    let from_3 = none_of_or_else _ _ from_2.1 in
    let rows_in = none_of_or _ _ (fault_none 2 (out_of_range limits b) (lit< tt) from_2.0) in
    let values_in = none_of_or _ _ rows_in.0 in
    let lent = none_of_or _ _ (fault_none 4 (misplaced b) (lit< tt) from_3.1) in
    let given = none_of_or _ _ lent.0 in
    let offsets = none_of_or _ _ given.0 in
    let n = range_facts limits.slots (slots b) values_in.0 in
    let k = range_facts limits.values (values b) values_in.1 in
    record {
      header_inside = ltb-false (length b) 12 (fault_none 1 (ltb (length b) 12) (lit< tt) from_1.0);
      slots_least = n.0;
      slots_most = n.1;
      values_least = k.0;
      values_most = k.1;
      rows_most = leb-true (row_count b) limits.rows (not-false _ rows_in.1);
      idle_known = ltb-false (values b) (idle b) (fault_none 3 (ltb (values b) (idle b)) (lit< tt) from_3.0);
      masks_offset_is = same (masks_offset b) 12 offsets.0;
      rows_offset_is = same (rows_offset b) (12 + 4 * slots b) offsets.1;
      given_length = same (book_length b) (12 + 4 * slots b + 8 * row_count b) given.1;
      lent_length = same (length b) (12 + 4 * slots b + 8 * row_count b) lent.1;
    }

pub facts_header : (limits : Limits) (b : List ℕ) → HeaderFacts limits b → header_fault limits b ≡ 0
unfolding header_fault
facts_header limits b h =
    simp (
      le-ltb (length b) 12 h.header_inside,
      le-leb 1 (slots b) h.slots_least,
      le-leb (slots b) limits.slots h.slots_most,
      le-leb 1 (values b) h.values_least,
      le-leb (values b) limits.values h.values_most,
      le-leb (row_count b) limits.rows h.rows_most,
      le-ltb (values b) (idle b) h.idle_known,
      eq-eqb (masks_offset b) 12 h.masks_offset_is,
      eq-eqb (rows_offset b) (12 + 4 * slots b) h.rows_offset_is,
      eq-eqb (book_length b) (12 + 4 * slots b + 8 * row_count b) h.given_length,
      eq-eqb (length b) (12 + 4 * slots b + 8 * row_count b) h.lent_length,
    )

-- ---- MaskFacts
pub mask_facts : (k m : ℕ) → mask_fault k m ≡ 0 → MaskFacts k m
unfolding mask_fault
mask_facts k m none =
    let both = none_of_or (eqb m 0) (leb (2 ^ k) m) (fault_none 5 _ (lit< tt) none) in
    record { nonempty = eqb-false m 0 both.0; below = leb-false (2 ^ k) m both.1 }

pub facts_mask : (k m : ℕ) → MaskFacts k m → mask_fault k m ≡ 0
unfolding mask_fault
facts_mask k m h = simp (ne_eqb m 0 h.nonempty, lt-leb (2 ^ k) m h.below)

-- ---- RowFacts
upper_facts : (x : ℕ) → (ltb 256 x && not (eqb x 65535)) ≡ false → (x ≤ 256) ⊎ (x ≡ 65535)
upper_facts x bounded =
    dite (dec_le x 256) (λ small. inl small) (λ large. inr (same x 65535 (simp (lt-ltb 256 x (omega arith)) at bounded)))

facts_upper : (x : ℕ) → (x ≤ 256) ⊎ (x ≡ 65535) → (ltb 256 x && not (eqb x 65535)) ≡ false
facts_upper x = ⊎_elim (λ small. simp (le-ltb 256 x small)) (λ none. simp (lt-ltb 256 x (omega arith), eq-eqb x 65535 none))

pub row_facts : (n k : ℕ) (row : Row) → row_fault n k row ≡ 0 → RowFacts n k row
unfolding row_fault
row_facts n k row none =
    let from_6 = none_of_or_else _ _ none in
    let from_7 = none_of_or_else _ _ from_6.1 in
    let value = none_of_or _ _ (fault_none 6 (leb k row.value || not (eqb row.reserved 0)) (lit< tt) from_6.0) in
    let end = range_facts n row.end (fault_none 7 (not (within n row.end)) (lit< tt) from_7.0) in
    let bounds = none_of_or _ _ (fault_none 8 (ltb 256 row.lower || (ltb 256 row.upper && not (eqb row.upper 65535))) (lit< tt) from_7.1) in
    record {
      value_below = leb-false k row.value value.0;
      reserved_zero = same row.reserved 0 value.1;
      end_least = end.0;
      end_most = end.1;
      lower_most = ltb-false 256 row.lower bounds.0;
      upper_most = upper_facts row.upper bounds.1;
    }

pub facts_row : (n k : ℕ) (row : Row) → RowFacts n k row → row_fault n k row ≡ 0
unfolding row_fault
facts_row n k row h =
    simp (
      lt-leb k row.value h.value_below,
      eq-eqb row.reserved 0 h.reserved_zero,
      le-leb 1 row.end h.end_least,
      le-leb row.end n h.end_most,
      le-ltb 256 row.lower h.lower_most,
      facts_upper row.upper h.upper_most,
    )

-- ---- GoodFacts
-- no refusal: every fact; both directions
pub good_facts : (limits : Limits) (b : List ℕ) → GoodBook limits b → GoodFacts limits b
unfolding refusal
good_facts limits b good =
    let header = none_of_or_else (header_fault limits b) (mask_faults b or_else row_faults b) good in
    let parts = none_of_or_else (mask_faults b) (row_faults b) header.1 in
    record {
      header = header_facts limits b header.0;
      mask = λ s s<n. mask_facts (values b) (mask_at b s) (first_none (slots b) (mask_fault_at b) parts.0 s s<n);
      row = λ i i<r. row_facts (slots b) (values b) (row_at (rows_part b) i) (first_none (row_count b) (row_fault_at b) parts.1 i i<r);
    }

pub facts_good : (limits : Limits) (b : List ℕ) → GoodFacts limits b → GoodBook limits b
unfolding refusal
facts_good limits b facts =
    or_else_none (header_fault limits b) _ (facts_header limits b facts.header)
    ∙ or_else_none (mask_faults b) _
    (none_first (slots b) (mask_fault_at b) (λ s s<n. facts_mask (values b) (mask_at b s) (facts.mask s s<n)))
    ∙ none_first (row_count b) (row_fault_at b) (λ i i<r. facts_row (slots b) (values b) (row_at (rows_part b) i) (facts.row i i<r))

-- ---- what the accessors require
-- that of `slots`, `values` and `row_count` is `header_inside`; here `mask_at`, `rows` and `row_at`
pub mask_inside : {limits : Limits} {b : List ℕ} → HeaderFacts limits b → (s : ℕ) → s < slots b → 12 + 4 * s + 4 ≤ length b
mask_inside h s s<n = omega (arith, h.lent_length)

pub rows_inside : {limits : Limits} {b : List ℕ} → HeaderFacts limits b → 12 + 4 * slots b ≤ length b
rows_inside h = omega (arith, h.lent_length)

pub rows_part_long : {limits : Limits} {b : List ℕ} → HeaderFacts limits b → length (rows_part b) ≡ 8 * row_count b
rows_part_long {b} h = length_rows_part b h.lent_length

pub row_inside : {limits : Limits} {b : List ℕ} → HeaderFacts limits b → (i : ℕ) → i < row_count b → 8 * i + 8 ≤ length (rows_part b)
row_inside h i i<r = omega (arith, rows_part_long h)
