-- Where the parts of a book stand among its bytes (document 01, 'The book'). Numbers are little-endian; past the end of a list stands 0.
--   word16 s i, word32 s i   the number of 2 or of 4 bytes at place i
--   slots, values            n and k of the header
--   idle                     byte 3: 0 for no idle value, else that value plus 1
--   row_count                 r
--   masks_offset, rows_offset, book_length   the offsets and the length that the header gives
--   mask_at b s               the mask of slot s
--   rows_part b               the bytes from the rows' offset, 12 + 4n, to the end
--   row_at p i                row i of such a part
--   list_of m f               the list of f 0, f 1, .., f (m - 1)
--   masks b, rows b          all masks by slot, and all rows in order
-- Assumes nothing.
use Rattle.std.specs.Prelude.{List, [], ◌∷◌, ◌++◌, ℕ, zero, suc, ◌+◌, ◌*◌, get_or, drop}
use Rattle.book.specs.declared.Row.{Row}

abbrev pub word16 : List ℕ → ℕ → ℕ
word16 s i = get_or s i 0 + 256 * get_or s (i + 1) 0

abbrev pub word32 : List ℕ → ℕ → ℕ
word32 s i = word16 s i + 65536 * word16 s (i + 2)

-- ---- the header
abbrev pub slots : List ℕ → ℕ
slots b = word16 b 0

abbrev pub values : List ℕ → ℕ
values b = get_or b 2 0

abbrev pub idle : List ℕ → ℕ
idle b = get_or b 3 0

abbrev pub row_count : List ℕ → ℕ
row_count b = word16 b 4

abbrev pub masks_offset : List ℕ → ℕ
masks_offset b = word16 b 6

abbrev pub rows_offset : List ℕ → ℕ
rows_offset b = word16 b 8

abbrev pub book_length : List ℕ → ℕ
book_length b = word16 b 10

-- ---- the masks, 4 bytes each
abbrev pub mask_at : List ℕ → ℕ → ℕ
mask_at b s = word32 b (12 + 4 * s)

-- ---- the rows, 8 bytes each
abbrev pub rows_part : List ℕ → List ℕ
rows_part b = drop (12 + 4 * slots b) b

abbrev pub row_at : List ℕ → ℕ → Row
row_at p i =
    record {
      value = get_or p (8 * i) 0;
      reserved = get_or p (8 * i + 1) 0;
      end = word16 p (8 * i + 2);
      lower = word16 p (8 * i + 4);
      upper = word16 p (8 * i + 6);
    }

-- ---- both as lists
unfoldable pub list_of {ℓ} : {A : Type ℓ} → ℕ → (ℕ → A) → List A
list_of zero f = []
list_of (suc m) f = list_of m f ++ (f m ∷ [])

abbrev pub masks : List ℕ → List ℕ
masks b = list_of (slots b) (mask_at b)

abbrev pub rows : List ℕ → List Row
rows b = list_of (row_count b) (row_at (rows_part b))
