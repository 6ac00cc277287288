-- The laws of `specs/Import.antt`. No contract cites this file. The ones that matter most: `csv_accepted` (no number: every test passed), `book_good`,
-- `slots_is`, `masks_is`, `rows_is` (the book of orders that pass every test is good, and reads back to them), `csv_numbers_lem`.
-- Assumes nothing.
use mathlib.Core.Path.{◌≡◌, refl, sym, ◌∙◌}
use mathlib.Core.Bool.{Bool, true, false, not, ◌&&◌, ◌||◌}
use mathlib.Core.List.{List, [], ◌∷◌}
use Prim.Native.Nat.{ℕ, zero, suc, ◌+◌, ◌*◌, ◌-◌, ◌^◌, ◌≤◌, zero-le}
use native.Mathlib.Omega.{arith}
use lib.Dec.{eqb, ltb, leb, lit<}
use lib.Pow.{pow_mono, pow-sub-lt}
use lib.ListN.{length, drop, length-replicate, get_or-replicate}
use borrow.Author.Tests.{leb-true, ltb-false, not-false}
use Rattle.book.specs.declared.Limits.{Limits}
use Rattle.book.specs.declared.Row.{Row}
use Rattle.book.specs.Layout.{slots, book_length, masks, rows}
use Rattle.book.specs.Refusal.{beyond, fault, ◌or_else◌, within, row_fault, GoodBook}
use Rattle.book.specs.GoodFacts.{MaskFacts, RowFacts}
use Rattle.book.proofs.RefusalLaws.{none_of_or, both_of_and, fault_none, none_of_or_else}
use Rattle.book.proofs.BookLaws.{row_facts}
use Rattle.book.specs.Lists.{All}
use Rattle.book_bytes.specs.BookBytes.{order_row, book_bytes, RowFits, BookFits, full_masks, LimitsFit}
use Rattle.book_bytes.proofs.BookBytesLaws.{slots_of_lem, book_length_of_lem, masks_of_lem, rows_of_lem, length_of}
use Rattle.book_bytes.proofs.GoodPartsLaws.{GoodParts, rows_fit, parts_fit, parts_good}
use Rattle.csv_model.specs.Csv.{Record, records}
use Rattle.csv_model.specs.Ordered.{range_fault, rows_fault}
use Rattle.csv_model.specs.Import.{bad_fields, record_fault, records_fault, slots_of, values_of, row_of, rows_of_all, rows_of}
use Rattle.csv_model.specs.Ordered.{orders_fault}
use Rattle.csv_model.specs.Import.{book_length_of, records_refusal, csv_fault, book_of}
use Rattle.csv_model.specs.Meaning.{is_any, csv_numbers}

-- ---- records_refusal
range_facts : (most x : ℕ) → not (within most x) ≡ false → (1 ≤ x) × (x ≤ most)
range_facts most x in_range =
    let both = both_of_and (leb 1 x) (leb x most) (not-false _ in_range) in
    (leb-true 1 x both.0, leb-true x most both.1)

-- what lies in range
pub range_in : (limits : Limits) (n k r : ℕ) → beyond limits n k r ≡ false
    → (1 ≤ n) × (n ≤ limits.slots) × (1 ≤ k) × (k ≤ limits.values) × (r ≤ limits.rows)
range_in limits n k r none =
    let rows_in = none_of_or (not (within limits.slots n) || not (within limits.values k)) (not (leb r limits.rows)) none in
    let values_in = none_of_or (not (within limits.slots n)) (not (within limits.values k)) rows_in.0 in
    let n_in = range_facts limits.slots n values_in.0 in
    let k_in = range_facts limits.values k values_in.1 in
    (n_in.0, n_in.1, k_in.0, k_in.1, leb-true r limits.rows (not-false _ rows_in.1))

-- slots, types and rows pass every test
pub record Orderly (limits : Limits) (n k : ℕ) (rs : List Row) : Type 0 where
  pub slots_least : 1 ≤ n
  pub slots_most : n ≤ limits.slots
  pub values_least : 1 ≤ k
  pub values_most : k ≤ limits.values
  pub rows_most : length rs ≤ limits.rows
  pub rows_good : rows_fault n k rs ≡ 0

pub orders_accepted : (limits : Limits) (n k : ℕ) (rs : List Row) (len : ℕ) → orders_fault limits n k rs len ≡ 0
    → Orderly limits n k rs × (12 + 4 * n + 8 * length rs ≤ len)
orders_accepted limits n k rs len none =
    let from_2 = none_of_or_else _ _ none in
    let from_6 = none_of_or_else _ _ from_2.1 in
    let range = range_in limits n k (length rs) (fault_none 2 _ (lit< tt) from_2.0) in (
      record {
        slots_least = range.0;
        slots_most = range.1;
        values_least = range.2;
        values_most = range.3;
        rows_most = range.4;
        rows_good = from_6.0;
      },
      ltb-false len (12 + 4 * n + 8 * length rs) (fault_none 9 _ (lit< tt) from_6.1),
    )

-- the records pass every test, with an output of len bytes
pub record Accepted (limits : Limits) (rs : List Record) (len : ℕ) : Type 0 where
  pub sound : records_fault 2 rs ≡ 0
  pub orderly : Orderly limits (slots_of rs) (values_of rs) (rows_of rs)
  pub room : book_length_of rs ≤ len

pub csv_accepted : (limits : Limits) (rs : List Record) (len : ℕ) → records_refusal limits rs len ≡ 0 → Accepted limits rs len
unfolding records_refusal
csv_accepted limits rs len none =
    let from_17 = none_of_or_else _ _ none in
    let orders = orders_accepted limits (slots_of rs) (values_of rs) (rows_of rs) len from_17.1 in
    record { sound = from_17.0; orderly = orders.0; room = orders.1 }

-- ---- rows_fault
rows_facts : (n k : ℕ) (rs : List Row) → rows_fault n k rs ≡ 0 → All (RowFacts n k) rs
unfolding rows_fault
rows_facts n k [] none = tt
rows_facts n k (r ∷ rs) none =
    let both = none_of_or_else (row_fault n k r) (rows_fault n k rs) none in
    (row_facts n k r both.0, rows_facts n k rs both.1)

pub rows_said_fit : (n k : ℕ) (rs : List Row) → n ≤ 256 → k ≤ 32 → rows_fault n k rs ≡ 0 → All RowFits rs
rows_said_fit n k rs small few none = rows_fit n k rs small few (rows_facts n k rs none)

-- ---- the book
module _ (limits : Limits) (n k : ℕ) (rs : List Row) (small : LimitsFit limits) (ok : Orderly limits n k rs) where
  full_mask : MaskFacts k (2 ^ k - 1)
  full_mask =
      let two : 2 ^ 1 ≤ 2 ^ k = pow_mono ok.values_least in
      record { nonempty = λ none. omega arith; below = pow-sub-lt k (omega arith) }

  parts : GoodParts limits n k 0 (full_masks n k) rs
  parts =
      record {
        slots_least = ok.slots_least;
        slots_most = ok.slots_most;
        values_least = ok.values_least;
        values_most = ok.values_most;
        rows_most = ok.rows_most;
        idle_known = zero-le;
        masks_long = length-replicate n (2 ^ k - 1);
        mask = λ s s<n. rw (get_or-replicate n s (2 ^ k - 1) 0 s<n) full_mask;
        row = rows_facts n k rs ok.rows_good;
      }

  fits : BookFits n (full_masks n k) rs
  fits = parts_fit limits small n k 0 (full_masks n k) rs parts

  abbrev b : List ℕ
  b = book_bytes n k 0 (full_masks n k) rs

  pub slots_is : slots b ≡ n
  slots_is = slots_of_lem n k 0 (full_masks n k) rs fits

  pub rows_is : rows b ≡ rs
  rows_is = rows_of_lem n k 0 (full_masks n k) rs fits

  pub masks_is : masks b ≡ full_masks n k
  masks_is = masks_of_lem n k 0 (full_masks n k) rs fits

  pub book_length_lem : length b ≡ 12 + 4 * n + 8 * length rs
  book_length_lem = length_of n k 0 (full_masks n k) rs fits

  pub book_good : GoodBook limits b
  book_good = parts_good limits small n k 0 (full_masks n k) rs parts

  pub book_says : book_length b ≡ length b
  book_says = book_length_of_lem n k 0 (full_masks n k) rs fits ∙ sym book_length_lem

-- the length of an accepted text's book
pub length_book_of : (limits : Limits) (s : List ℕ) (len : ℕ) → LimitsFit limits → Accepted limits (records s) len
    → length (book_of s) ≡ book_length_of (records s)
unfolding book_of
length_book_of limits s len small ok = book_length_lem limits (slots_of (records s)) (values_of (records s)) (rows_of (records s)) small ok.orderly

-- ---- the numbers
abbrev Known : ℕ → Type 0
Known x = is_any x csv_numbers ≡ true

known_or_else : (x y : ℕ) → Known x → Known y → Known (x or_else y)
known_or_else zero y x_known y_known = y_known
known_or_else (suc x) y x_known y_known = x_known

known_fault : (x : ℕ) (bad : Bool) → Known x → Known 0 → Known (fault x bad)
known_fault x true known none = known
known_fault x false known none = none

known_record : (w : ℕ) (r : Record) → Known (record_fault w r)
unfolding record_fault is_any
known_record w r =
    known_or_else (fault 17 (not r.whole)) _ (known_fault 17 (not r.whole) refl refl)
    (known_fault 18 (not (eqb (length r.fields) w) || bad_fields 0 r.fields) refl refl)

known_records : (w : ℕ) (rs : List Record) → Known (records_fault w rs)
unfolding records_fault is_any
known_records w [] = refl
known_records w (r ∷ rs) = known_or_else (record_fault w r) (records_fault 4 rs) (known_record w r) (known_records 4 rs)

-- an imported row's second byte is 0
known_row : (n k v e l u : ℕ) → Known (row_fault n k (order_row v e l u))
unfolding row_fault is_any
known_row n k v e l u =
    known_or_else (fault 6 (leb k v || false)) _ (known_fault 6 (leb k v || false) refl refl)
    (known_or_else (fault 7 (not (within n e))) _ (known_fault 7 (not (within n e)) refl refl)
    (known_fault 8 (ltb 256 l || (ltb 256 u && not (eqb u 65535))) refl refl))

known_rows : (n k : ℕ) (rs : List Record) → Known (rows_fault n k (rows_of_all rs))
unfolding rows_fault rows_of_all is_any
known_rows n k [] = refl
known_rows n k (r ∷ rs) = known_or_else (row_fault n k (row_of r.fields)) (rows_fault n k (rows_of_all rs)) (known_row n k _ _ _ _) (known_rows n k rs)

-- every text is accepted, or refused by one of the numbers
pub csv_numbers_lem : (limits : Limits) (s : List ℕ) (len : ℕ) → is_any (csv_fault limits s len) csv_numbers ≡ true
unfolding records_refusal is_any
csv_numbers_lem limits s len =
    let rs = records s in
    known_or_else (records_fault 2 rs) _ (known_records 2 rs)
    (known_or_else (range_fault limits (slots_of rs) (values_of rs) (length (rows_of rs))) _
    (known_fault 2 (beyond limits (slots_of rs) (values_of rs) (length (rows_of rs))) refl refl)
    (known_or_else (rows_fault (slots_of rs) (values_of rs) (rows_of rs)) _ (known_rows (slots_of rs) (values_of rs) (drop 1 rs))
    (known_fault 9 (ltb len (book_length_of rs)) refl refl)))
