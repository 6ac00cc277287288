-- The laws of `specs/BookBytes.antt`: the reader finds in the bytes what was written. `slots_of_lem`, `values_of`, `idle_of`, `row_count_of`,
-- `masks_of_lem`, `rows_of_lem`; `masks_offset_of`, `rows_offset_of`, `book_length_of_lem` for the numbers that follow from these, and `length_of`.
-- No contract cites this file. Assumes nothing.
use mathlib.Core.Path.{◌≡◌, refl, sym, ap, ◌∙◌}
use mathlib.Core.List.{List, [], ◌∷◌, ◌++◌, append_assoc}
use Prim.Native.Nat.{ℕ, zero, suc, ◌+◌, ◌*◌, ◌/◌, ◌%◌, ◌<◌}
use native.Mathlib.Omega.{arith}
use lib.ListN.{length, get_or, drop, length-append}
use lib.Seq.{ext_get_or, get_or-append-add, drop_at}
use Rattle.elements.specs.Elements.{digits, bytes_of}
use Rattle.elements.proofs.ElementsLaws.{length_bytes_of}
use Rattle.book.specs.declared.Row.{Row}
use Rattle.book.specs.Layout as Layout
use Rattle.book.specs.Layout.{word16, word32, slots, values, row_count, masks_offset, rows_offset, book_length}
use Rattle.book.specs.Layout.{mask_at, rows_part, row_at, list_of, masks, rows}
use Rattle.book.proofs.LayoutLaws.{length_list_of, get_d_list_of}
use Rattle.book.specs.Lists.{All}
use Rattle.book_bytes.specs.BookBytes.{header_bytes, row_bytes, rows_bytes, book_bytes, RowFits, BookFits}

-- ---- digits
word_digits : (x : ℕ) → x < 65536 → x % 256 + 256 * (x / 256 % 256) ≡ x
word_digits x small = omega arith

wide_digits : (x : ℕ) → x < 4294967296 → x % 256 + 256 * (x / 256 % 256) + 65536 * (x / 256 / 256 % 256 + 256 * (x / 256 / 256 / 256 % 256)) ≡ x
wide_digits x small = omega arith

-- ---- the header
module _ (n k idle : ℕ) (ms : List ℕ) (rs : List Row) (fits : BookFits n ms rs) where
  abbrev book : List ℕ
  book = book_bytes n k idle ms rs

  pub slots_of_lem : slots book ≡ n
  slots_of_lem = word_digits n (omega (arith, fits.length))

  pub values_of : values book ≡ k
  values_of = refl

  pub idle_of : Layout.idle book ≡ idle
  idle_of = refl

  pub row_count_of : row_count book ≡ length rs
  row_count_of = word_digits (length rs) (omega (arith, fits.length))

  pub masks_offset_of : masks_offset book ≡ 12
  masks_offset_of = refl

  pub rows_offset_of : rows_offset book ≡ 12 + 4 * n
  rows_offset_of = word_digits (12 + 4 * n) (omega (arith, fits.length))

  pub book_length_of_lem : book_length book ≡ 12 + 4 * n + 8 * length rs
  book_length_of_lem = word_digits (12 + 4 * n + 8 * length rs) fits.length

-- ---- the masks
append_at : (xs ys : List ℕ) (i : ℕ) {j : ℕ} → j ≡ length xs + i → get_or (xs ++ ys) j 0 ≡ get_or ys i 0
append_at xs ys i is = ap (λ (j : ℕ). get_or (xs ++ ys) j 0) is ∙ get_or-append-add xs ys i 0

word32_append : (xs ys : List ℕ) (i : ℕ) → word32 (xs ++ ys) (length xs + i) ≡ word32 ys i
word32_append xs ys i =
    let at0 = get_or-append-add xs ys i 0 in
    let at1 : get_or (xs ++ ys) (length xs + i + 1) 0 ≡ get_or ys (i + 1) 0 = append_at xs ys (i + 1) (omega arith) in
    let at2 : get_or (xs ++ ys) (length xs + i + 2) 0 ≡ get_or ys (i + 2) 0 = append_at xs ys (i + 2) (omega arith) in
    let at3 : get_or (xs ++ ys) (length xs + i + 2 + 1) 0 ≡ get_or ys (i + 2 + 1) 0 = append_at xs ys (i + 2 + 1) (omega arith) in
    omega arith

mask_bytes : (ms : List ℕ) (rest : List ℕ) → ((s : ℕ) → s < length ms → get_or ms s 0 < 4294967296) → (s : ℕ) → s < length ms
    → word32 (bytes_of 4 ms ++ rest) (4 * s) ≡ get_or ms s 0
unfolding bytes_of
mask_bytes [] rest small s inside = absurd (omega arith)
mask_bytes (m ∷ ms) rest small zero inside = wide_digits m (small 0 (omega arith))
mask_bytes (m ∷ ms) rest small (suc s) inside =
    let index : 4 * suc s ≡ 4 + 4 * s = omega arith in
    ap (word32 (digits 4 m ++ (bytes_of 4 ms ++ rest))) index
    ∙ word32_append (digits 4 m) (bytes_of 4 ms ++ rest) (4 * s)
    ∙ mask_bytes ms rest (λ s inside. small (suc s) (omega arith)) s (omega arith)

-- ---- the rows
pub rows_bytes_length : (rs : List Row) → length (rows_bytes rs) ≡ 8 * length rs
unfolding rows_bytes
rows_bytes_length [] = refl
rows_bytes_length (r ∷ rs) = length-append (row_bytes r) (rows_bytes rs) ∙ omega (arith, rows_bytes_length rs)

row_here : (r : Row) (p : List ℕ) → RowFits r → row_at (row_bytes r ++ p) 0 ≡ r
row_here r p fits i =
    record {
      value = r.value;
      reserved = r.reserved;
      end = word_digits r.end fits.end i;
      lower = word_digits r.lower fits.lower i;
      upper = word_digits r.upper fits.upper i;
    }

module _ (r : Row) (p : List ℕ) (s : ℕ) where
  later : (j : ℕ) → get_or (row_bytes r ++ p) (8 * suc s + j) 0 ≡ get_or p (8 * s + j) 0
  later j =
      let index : 8 * suc s + j ≡ 8 + (8 * s + j) = omega arith in
      append_at (row_bytes r) p (8 * s + j) index

  later_next : (j : ℕ) → get_or (row_bytes r ++ p) (8 * suc s + j + 1) 0 ≡ get_or p (8 * s + j + 1) 0
  later_next j =
      let index : 8 * suc s + j + 1 ≡ 8 * suc s + (j + 1) = omega arith in
      let index' : 8 * s + (j + 1) ≡ 8 * s + j + 1 = omega arith in
      ap (λ (x : ℕ). get_or (row_bytes r ++ p) x 0) index ∙ later (j + 1) ∙ ap (λ (x : ℕ). get_or p x 0) index'

  later_word : (j : ℕ) → word16 (row_bytes r ++ p) (8 * suc s + j) ≡ word16 p (8 * s + j)
  later_word j = omega (arith, later j, later_next j)

  row_later : row_at (row_bytes r ++ p) (suc s) ≡ row_at p s
  row_later i =
      let index : 8 * suc s ≡ 8 * suc s + 0 = omega arith in
      let index' : 8 * s + 0 ≡ 8 * s = omega arith in
      let first : get_or (row_bytes r ++ p) (8 * suc s) 0 ≡ get_or p (8 * s) 0 =
      ap (λ (x : ℕ). get_or (row_bytes r ++ p) x 0) index ∙ later 0 ∙ ap (λ (x : ℕ). get_or p x 0) index'
      in
      record {
        value = first i;
        reserved = later 1 i;
        end = later_word 2 i;
        lower = later_word 4 i;
        upper = later_word 6 i;
      }

row_bytes_lem : (rs : List Row) → All RowFits rs → (d : Row) (s : ℕ) → s < length rs → row_at (rows_bytes rs) s ≡ get_or rs s d
unfolding rows_bytes
row_bytes_lem [] fits d s inside = absurd (omega arith)
row_bytes_lem (r ∷ rs) fits d zero inside = row_here r (rows_bytes rs) fits.0
row_bytes_lem (r ∷ rs) fits d (suc s) inside = row_later r (rows_bytes rs) s ∙ row_bytes_lem rs fits.1 d s (omega arith)

-- ---- a whole book
module _ (n k idle : ℕ) (ms : List ℕ) (rs : List Row) (fits : BookFits n ms rs) where
  pub masks_of_lem : masks (book_bytes n k idle ms rs) ≡ ms
  masks_of_lem =
      let b = book_bytes n k idle ms rs in
      let n_is = slots_of_lem n k idle ms rs fits in
      ext_get_or 0 (masks b) ms (length_list_of (slots b) (mask_at b) ∙ n_is ∙ sym fits.slots)
      (λ s inside.
      let s<n : s < slots b = omega (arith, length_list_of (slots b) (mask_at b)) in
      get_d_list_of (slots b) (mask_at b) s 0 s<n
      ∙ word32_append (header_bytes n k idle (length rs)) (bytes_of 4 ms ++ rows_bytes rs) (4 * s)
      ∙ mask_bytes ms (rows_bytes rs) (λ e e<. fits.masks e (omega (arith, fits.slots))) s (omega (arith, fits.slots)))

  rows_part_of : rows_part (book_bytes n k idle ms rs) ≡ rows_bytes rs
  rows_part_of =
      rw (slots_of_lem n k idle ms rs fits)
      (ap (drop (12 + 4 * n)) (sym (append_assoc (header_bytes n k idle (length rs)) (bytes_of 4 ms) (rows_bytes rs)))
      ∙ drop_at (header_bytes n k idle (length rs) ++ bytes_of 4 ms) (rows_bytes rs) (12 + 4 * n)
      (length-append (header_bytes n k idle (length rs)) (bytes_of 4 ms) ∙ omega (arith, length_bytes_of 4 ms, fits.slots)))

  pub rows_of_lem : rows (book_bytes n k idle ms rs) ≡ rs
  rows_of_lem =
      rw (rows_part_of, row_count_of n k idle ms rs fits)
      (ext_get_or none (list_of (length rs) (row_at (rows_bytes rs))) rs (length_list_of (length rs) (row_at (rows_bytes rs)))
      (λ s inside.
      let s<r : s < length rs = omega (arith, length_list_of (length rs) (row_at (rows_bytes rs))) in
      get_d_list_of (length rs) (row_at (rows_bytes rs)) s none s<r ∙ row_bytes_lem rs fits.rows none s s<r))
    where
      none : Row
      none = record { value = 0; reserved = 0; end = 0; lower = 0; upper = 0 }

  pub length_of : length (book_bytes n k idle ms rs) ≡ 12 + 4 * n + 8 * length rs
  length_of =
      length-append (header_bytes n k idle (length rs)) (bytes_of 4 ms ++ rows_bytes rs)
      ∙ ap (λ (x : ℕ). 12 + x) (length-append (bytes_of 4 ms) (rows_bytes rs)) ∙ omega (arith, length_bytes_of 4 ms, rows_bytes_length rs, fits.slots)
