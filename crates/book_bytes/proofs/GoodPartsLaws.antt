-- A book of good parts is a good book: `parts_good`. Its numbers fit their bytes: `parts_fit`, `row_fits`. No contract cites this file. Assumes nothing.
--   GoodParts limits n k idle ms rs   slots, types and the number of rows are in range, idle names a type or none, and each mask and each row is good
use mathlib.Core.Path.{◌≡◌, sym, ap, ◌∙◌}
use mathlib.Core.Logic.{⊎_elim}
use mathlib.Core.List.{List, [], ◌∷◌}
use Prim.Native.Nat.{ℕ, zero, suc, ◌^◌, ◌≤◌, ◌<◌}
use native.Mathlib.Nat.{le_trans, lt_of_lt_of_le}
use native.Mathlib.Omega.{arith}
use lib.Pow.{pow_mono}
use lib.ListN.{length, get_or}
use Rattle.book.specs.declared.Limits.{Limits}
use Rattle.book.specs.declared.Row.{Row}
use Rattle.book.specs.Layout.{slots, row_count, mask_at, rows_part, row_at}
use Rattle.book.specs.Lists.{All}
use Rattle.book.specs.Refusal.{GoodBook}
use Rattle.book.specs.GoodFacts.{HeaderFacts, MaskFacts, RowFacts}
use Rattle.book.proofs.LayoutLaws.{get_d_masks, get_d_rows}
use Rattle.book.proofs.BookLaws.{facts_good}
use Rattle.book_bytes.specs.BookBytes.{book_bytes, RowFits, BookFits, LimitsFit}
use Rattle.book_bytes.proofs.BookBytesLaws.{slots_of_lem, row_count_of, masks_offset_of, rows_offset_of}
use Rattle.book_bytes.proofs.BookBytesLaws.{book_length_of_lem, masks_of_lem, rows_of_lem, length_of}

pub record GoodParts (limits : Limits) (n k idle : ℕ) (ms : List ℕ) (rs : List Row) : Type 0 where
  pub slots_least : 1 ≤ n
  pub slots_most : n ≤ limits.slots
  pub values_least : 1 ≤ k
  pub values_most : k ≤ limits.values
  pub rows_most : length rs ≤ limits.rows
  pub idle_known : idle ≤ k
  pub masks_long : length ms ≡ n
  pub mask : (s : ℕ) → s < n → MaskFacts k (get_or ms s 0)
  pub row : All (RowFacts n k) rs

-- ---- rows
pub row_fits : (n k : ℕ) (r : Row) → n ≤ 256 → k ≤ 32 → RowFacts n k r → RowFits r
row_fits n k r small few facts =
    record {
      value = let h = facts.value_below in omega arith;
      reserved = let h = facts.reserved_zero in omega arith;
      end = let h = facts.end_most in omega arith;
      lower = let h = facts.lower_most in omega arith;
      upper = ⊎_elim (λ bounded. omega arith) (λ none. omega arith) facts.upper_most;
    }

pub rows_fit : (n k : ℕ) (rs : List Row) → n ≤ 256 → k ≤ 32 → All (RowFacts n k) rs → All RowFits rs
rows_fit n k [] small few facts = tt
rows_fit n k (r ∷ rs) small few facts = (row_fits n k r small few facts.0, rows_fit n k rs small few facts.1)

all_at : (C : Row → Type 0) (rs : List Row) (d : Row) → All C rs → (i : ℕ) → i < length rs → C (get_or rs i d)
all_at C [] d all i inside = absurd (omega arith)
all_at C (r ∷ rs) d all zero inside = all.0
all_at C (r ∷ rs) d all (suc i) inside = all_at C rs d all.1 i (omega arith)

-- ---- the book
module _ (limits : Limits) (small : LimitsFit limits) (n k idle : ℕ) (ms : List ℕ) (rs : List Row) (parts : GoodParts limits n k idle ms rs) where
  pub parts_fit : BookFits n ms rs
  parts_fit =
      record {
        slots = parts.masks_long;
        length = omega (arith, parts.slots_most, parts.rows_most, small.slots, small.rows);
        masks = λ s s<n.
            let most : 2 ^ k ≤ 2 ^ 32 = pow_mono (le_trans parts.values_most small.values) in
            lt_of_lt_of_le (parts.mask s s<n).below most;
        rows = rows_fit n k rs (le_trans parts.slots_most small.slots) (le_trans parts.values_most small.values) parts.row;
      }

  abbrev book : List ℕ
  book = book_bytes n k idle ms rs

  n_is : slots book ≡ n
  n_is = slots_of_lem n k idle ms rs parts_fit

  r_is : row_count book ≡ length rs
  r_is = row_count_of n k idle ms rs parts_fit

  header : HeaderFacts limits book
  header =
      let count = r_is in
      let slots = n_is in
      record {
        header_inside = omega (arith, length_of n k idle ms rs parts_fit);
        slots_least = rw n_is parts.slots_least;
        slots_most = rw n_is parts.slots_most;
        values_least = parts.values_least;
        values_most = parts.values_most;
        rows_most = rw r_is parts.rows_most;
        idle_known = parts.idle_known;
        masks_offset_is = masks_offset_of n k idle ms rs parts_fit;
        rows_offset_is = omega (arith, rows_offset_of n k idle ms rs parts_fit);
        given_length = omega (arith, book_length_of_lem n k idle ms rs parts_fit);
        lent_length = omega (arith, length_of n k idle ms rs parts_fit);
      }

  pub parts_good : GoodBook limits book
  parts_good =
      facts_good limits book
      (record {
        header = header;
        mask = λ s s<c.
            let s<n : s < n = omega (arith, n_is) in
            let is : mask_at book s ≡ get_or ms s 0 =
            sym (get_d_masks book s s<c) ∙ ap (λ (xs : List ℕ). get_or xs s 0) (masks_of_lem n k idle ms rs parts_fit) in
            rw is (parts.mask s s<n);
        row = λ i i<c.
            let i<r : i < length rs = omega (arith, r_is) in
            let is : row_at (rows_part book) i ≡ get_or rs i (row_at [] 0) =
            sym (get_d_rows book i (row_at [] 0) i<c) ∙ ap (λ (xs : List Row). get_or xs i (row_at [] 0)) (rows_of_lem n k idle ms rs parts_fit)
            in
            rw (is, n_is) (all_at (RowFacts n k) rs (row_at [] 0) parts.row i i<r);
      })
