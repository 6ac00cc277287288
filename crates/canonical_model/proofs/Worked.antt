-- The canonical rows and books of small books, computed (`worked`, `worked_books`), with answers from document 02's rules by hand. The rows of document 01's
-- M2, M3 and M4: a row of another type, which the closing adds, is beside the given one; in M4 the rows of types 1 and 2 get a second side, and type 0 gets an
-- upper. `crossing`: by type, then end, is not by end, then type. Then a whole book, from bytes to bytes, with byte 3 as 1; the same book with just as many
-- rows allowed as it needs, with too little room, with too few rows allowed and no room, and with a row that leaves it dead and no room.
-- No contract cites this file. Assumes nothing.
use mathlib.Core.Path.{◌≡◌, refl}
use mathlib.Core.List.{List, [], ◌∷◌, ◌++◌}
use mathlib.Core.Option.{Option, some, map}
use Prim.Native.Nat.{ℕ}
use Rattle.book.specs.declared.Limits.{Limits}
use Rattle.book.specs.declared.Row.{Row}
use Rattle.book.specs.Layout.{list_of}
use Rattle.book.specs.Refusal.{first_of, header_fault, mask_fault, row_fault, refusal}
use Rattle.elements.specs.Elements.{bytes_of}
use Rattle.closing_model.specs.Table.{view, others}
use Rattle.closing_model.specs.Start.{low_of, high_of, start_lowers, start_uppers}
use Rattle.closing_model.specs.Closing.{new_lower, new_upper, step_lowers, step_uppers, crossed, same, closing_within, list_sum, closing}
use Rattle.closing.specs.Close.{refused, dead, live}
use Rattle.book_bytes.specs.BookBytes.{order_row, rows_bytes}
use Rattle.canonical_model.specs.CornerRows.{corner_rows, line_rows, canonical_rows}
use Rattle.canonical_model.specs.Canonical.{archive_fault, archive_of, canonical_of}

rows_of : ℕ → ℕ → List Row → Option (List Row)
rows_of n k rs = map (λ T. canonical_rows n k (view T.0 T.1)) (closing n k (start_lowers n k rs) (start_uppers n k rs))

-- n = 6, k = 3. The lowers of type 0 are 0 0 1 1 1 2 2, the uppers of type 1 are 0 1 1 1 2 2 2, and so those of type 2 are 0 1 1 2 3 3 4
abbrev crossing : List Row
crossing = order_row 0 2 1 65535 ∷ order_row 1 3 0 1 ∷ order_row 0 5 2 65535 ∷ order_row 1 6 0 2 ∷ []

worked : (rows_of 5 2 (order_row 0 4 2 65535 ∷ []) ≡ some (order_row 0 4 2 65535 ∷ order_row 1 4 0 2 ∷ []))
    × (rows_of 5 2 (order_row 0 4 0 2 ∷ []) ≡ some (order_row 0 4 0 2 ∷ order_row 1 4 2 65535 ∷ []))
    × (rows_of 5 3 (order_row 1 5 2 65535 ∷ order_row 2 5 1 65535 ∷ []) ≡ some (order_row 0 5 0 2 ∷ order_row 1 5 2 4 ∷ order_row 2 5 1 3 ∷ []))
    × (rows_of 6 3 crossing
    ≡ some
    (order_row 0 2 1 65535 ∷ order_row 0 5 2 65535 ∷ order_row 1 3 0 1 ∷ order_row 1 6 0 2 ∷ order_row 2 2 0 1 ∷ order_row 2 5 0 3 ∷ []))
unfolding rows_of list_of others low_of high_of start_lowers start_uppers new_lower new_upper step_lowers step_uppers crossed same closing_within list_sum closing
    corner_rows line_rows canonical_rows
worked = (refl, refl, refl, refl)

-- ---- from bytes to bytes
abbrev limits_of : ℕ → Limits
limits_of most = record { slots = 256; values = 32; rows = most }

-- n = 2, k = 2, byte 3 is 1, the masks are 3 and 2; by end 2 type 0 at most once. So by end 2 type 1 at least once
abbrev small : List ℕ
small = (2 ∷ 0 ∷ 2 ∷ 1 ∷ 1 ∷ 0 ∷ 12 ∷ 0 ∷ 20 ∷ 0 ∷ 28 ∷ 0 ∷ []) ++ (3 ∷ 0 ∷ 0 ∷ 0 ∷ 2 ∷ 0 ∷ 0 ∷ 0 ∷ []) ++ (0 ∷ 0 ∷ 2 ∷ 0 ∷ 0 ∷ 0 ∷ 1 ∷ 0 ∷ [])

abbrev archive : List ℕ
archive =
    (2 ∷ 0 ∷ 2 ∷ 1 ∷ 2 ∷ 0 ∷ 12 ∷ 0 ∷ 20 ∷ 0 ∷ 36 ∷ 0 ∷ []) ++ (3 ∷ 0 ∷ 0 ∷ 0 ∷ 2 ∷ 0 ∷ 0 ∷ 0 ∷ [])
    ++ (0 ∷ 0 ∷ 2 ∷ 0 ∷ 0 ∷ 0 ∷ 1 ∷ 0 ∷ []) ++ (1 ∷ 0 ∷ 2 ∷ 0 ∷ 1 ∷ 0 ∷ 255 ∷ 255 ∷ [])

-- the same with type 0 at least three times by end 2
abbrev over : List ℕ
over = (2 ∷ 0 ∷ 2 ∷ 1 ∷ 1 ∷ 0 ∷ 12 ∷ 0 ∷ 20 ∷ 0 ∷ 28 ∷ 0 ∷ []) ++ (3 ∷ 0 ∷ 0 ∷ 0 ∷ 2 ∷ 0 ∷ 0 ∷ 0 ∷ []) ++ (0 ∷ 0 ∷ 2 ∷ 0 ∷ 3 ∷ 0 ∷ 255 ∷ 255 ∷ [])

worked_books : (canonical_of (limits_of 1024) small 36 ≡ live archive [])
    × (canonical_of (limits_of 2) small 36 ≡ live archive [])
    × (canonical_of (limits_of 1024) small 35 ≡ refused 9)
    × (canonical_of (limits_of 1) small 0 ≡ refused 19)
    × (canonical_of (limits_of 1) over 0 ≡ dead 0)
unfolding list_of first_of header_fault mask_fault row_fault refusal bytes_of others low_of high_of start_lowers start_uppers new_lower new_upper step_lowers step_uppers
    crossed same closing_within list_sum closing rows_bytes corner_rows line_rows canonical_rows archive_fault archive_of canonical_of
worked_books = (refl, refl, refl, refl, refl)
