-- The bytes of a book (document 01, 'The book') from its parts: the reverse of `specs/Layout.antt` of the crate book.
--   header_bytes n k idle r      the 12 bytes of the header, with r rows
--   full_masks n k               n masks, each with every type below k
--   order_row v e l u            the row that orders type v by end e, from l to u
--   row_bytes r, rows_bytes rs    8 bytes for each row
--   book_bytes n k idle ms rs    header, masks and rows
--   RowFits r                   each number of r fits its bytes
--   BookFits n ms rs            so do those of the masks and the book's length, and ms has n masks
--   LimitsFit limits            every number of a book within the limits fits its bytes
-- Assumes nothing.
use Rattle.std.specs.Prelude.{◌≡◌, List, [], ◌∷◌, ◌++◌, ℕ, ◌+◌, ◌-◌, ◌*◌, ◌^◌, ◌≤◌, ◌<◌, length, get_or, replicate}
use Rattle.elements.specs.Elements.{digits, bytes_of}
use Rattle.book.specs.declared.Limits.{Limits}
use Rattle.book.specs.declared.Row.{Row}
use Rattle.book.specs.Lists.{All}

abbrev pub header_bytes : ℕ → ℕ → ℕ → ℕ → List ℕ
header_bytes n k idle r = digits 2 n ++ (k ∷ idle ∷ []) ++ digits 2 r ++ digits 2 12 ++ digits 2 (12 + 4 * n) ++ digits 2 (12 + 4 * n + 8 * r)

abbrev pub order_row : ℕ → ℕ → ℕ → ℕ → Row
order_row v e l u = record { value = v; reserved = 0; end = e; lower = l; upper = u }

abbrev pub row_bytes : Row → List ℕ
row_bytes r = (r.value ∷ r.reserved ∷ []) ++ digits 2 r.end ++ digits 2 r.lower ++ digits 2 r.upper

-- every type below k
abbrev pub full_masks : ℕ → ℕ → List ℕ
full_masks n k = replicate n (2 ^ k - 1)

unfoldable pub rows_bytes : List Row → List ℕ
rows_bytes [] = []
rows_bytes (r ∷ rs) = row_bytes r ++ rows_bytes rs

abbrev pub book_bytes : ℕ → ℕ → ℕ → List ℕ → List Row → List ℕ
book_bytes n k idle ms rs = header_bytes n k idle (length rs) ++ (bytes_of 4 ms ++ rows_bytes rs)

pub record RowFits (r : Row) : Type 0 where
  pub value : r.value < 256
  pub reserved : r.reserved < 256
  pub end : r.end < 65536
  pub lower : r.lower < 65536
  pub upper : r.upper < 65536

pub record BookFits (n : ℕ) (ms : List ℕ) (rs : List Row) : Type 0 where
  pub slots : length ms ≡ n
  pub length : 12 + 4 * n + 8 * length rs < 65536
  pub masks : (s : ℕ) → s < n → get_or ms s 0 < 4294967296
  pub rows : All RowFits rs

-- 32 bits of a mask, and 65,535 bytes of a book
pub record LimitsFit (limits : Limits) : Type 0 where
  pub slots : limits.slots ≤ 256
  pub values : limits.values ≤ 32
  pub rows : limits.rows ≤ 1024
