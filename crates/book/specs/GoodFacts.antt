-- What a good book is, in the words of document 01 ('The book'), fact by fact.
--   HeaderFacts limits b   the header's numbers are in range, and its offsets and both lengths agree
--   MaskFacts k m          m has a value, and none from k up
--   RowFacts n k row       a row's value, end, lower and upper are in range
--   GoodFacts limits b     all of these, at every slot and every row
-- `good_facts` and `facts_good` of `proofs/BookLaws.antt` say that these are the books with no refusal.
-- Assumes nothing.
use Rattle.std.specs.Prelude.{◌≡◌, ◌⊎◌, List, ℕ, ◌+◌, ◌*◌, ◌^◌, ◌≤◌, ◌<◌, length}
use Rattle.book.specs.declared.Limits.{Limits}
use Rattle.book.specs.declared.Row.{Row}
use Rattle.book.specs.Layout.{slots, values, idle, row_count, masks_offset, rows_offset, book_length, mask_at, rows_part, row_at}

pub record HeaderFacts (limits : Limits) (b : List ℕ) : Type 0 where
  pub header_inside : 12 ≤ length b
  pub slots_least : 1 ≤ slots b
  pub slots_most : slots b ≤ limits.slots
  pub values_least : 1 ≤ values b
  pub values_most : values b ≤ limits.values
  pub rows_most : row_count b ≤ limits.rows
  pub idle_known : idle b ≤ values b
  pub masks_offset_is : masks_offset b ≡ 12
  pub rows_offset_is : rows_offset b ≡ 12 + 4 * slots b
  pub given_length : book_length b ≡ 12 + 4 * slots b + 8 * row_count b
  pub lent_length : length b ≡ 12 + 4 * slots b + 8 * row_count b

pub record MaskFacts (k m : ℕ) : Type 0 where
  pub nonempty : m ≡ 0 → ⊥
  pub below : m < 2 ^ k

pub record RowFacts (n k : ℕ) (row : Row) : Type 0 where
  pub value_below : row.value < k
  pub reserved_zero : row.reserved ≡ 0
  pub end_least : 1 ≤ row.end
  pub end_most : row.end ≤ n
  pub lower_most : row.lower ≤ 256
  pub upper_most : (row.upper ≤ 256) ⊎ (row.upper ≡ 65535)

pub record GoodFacts (limits : Limits) (b : List ℕ) : Type 0 where
  pub header : HeaderFacts limits b
  pub mask : (s : ℕ) → s < slots b → MaskFacts (values b) (mask_at b s)
  pub row : (i : ℕ) → i < row_count b → RowFacts (slots b) (values b) (row_at (rows_part b) i)
