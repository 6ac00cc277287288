-- Which books are refused, by document 01's numbers 1 to 8 and in its order ('Entries and their numbers').
--   fault number bad        the number where the condition holds, else 0
--   _orElse_                the first of two numbers that is not 0
--   first_of m f             the first of f 0, f 1, .., f (m - 1) that is not 0; 0 where there is none
--   within most x           x is from 1 to most
--   beyond limits n k r     n, k or r is out of range
--   out_of_range, misplaced   the conditions of the numbers 2 and 4
--   header_fault, mask_fault, row_fault   the numbers 1 to 4, 5, and 6 to 8
--   refusal limits b        the number that refuses b, 0 for a good book
--   GoodBook limits b       b is a good book
--   number_of                what a test says, as a number: 0 where it refuses nothing, else that of the refusal
-- The limits (document 01: 256 slots, 32 types, 1024 rows) are a parameter.
-- Assumes nothing.
use Rattle.std.specs.Prelude.{◌≡◌, Bool, true, false, not, ◌&&◌, ◌||◌, List, ℕ, zero, suc, ◌+◌, ◌*◌, ◌^◌, eqb, ltb, leb, length, Result, Ok, Err}
use Rattle.answer.specs.Answer as Answer
use Rattle.answer.specs.declared.Refusal.{Refusal}
use Rattle.book.specs.declared.Limits.{Limits}
use Rattle.book.specs.declared.Row.{Row}
use Rattle.book.specs.Layout.{slots, values, idle, row_count, masks_offset, rows_offset, book_length, mask_at, rows_part, row_at}

infixr 20 ◌or_else◌
abbrev pub fault : ℕ → Bool → ℕ
fault number true = number
fault number false = 0

abbrev pub ◌or_else◌ : ℕ → ℕ → ℕ
zero or_else y = y
suc x or_else y = suc x

unfoldable pub first_of : ℕ → (ℕ → ℕ) → ℕ
first_of zero f = 0
first_of (suc m) f = first_of m f or_else f m

abbrev pub within : ℕ → ℕ → Bool
within most x = leb 1 x && leb x most

abbrev pub beyond : Limits → ℕ → ℕ → ℕ → Bool
beyond limits n k r = not (within limits.slots n) || not (within limits.values k) || not (leb r limits.rows)

abbrev pub out_of_range : Limits → List ℕ → Bool
out_of_range limits b = beyond limits (slots b) (values b) (row_count b)

-- an offset or length differs from the one that n and r give, or the lent length does
abbrev pub misplaced : List ℕ → Bool
misplaced b =
    not (eqb (masks_offset b) 12) || not (eqb (rows_offset b) (12 + 4 * slots b))
    || not (eqb (book_length b) (12 + 4 * slots b + 8 * row_count b))
    || not (eqb (length b) (12 + 4 * slots b + 8 * row_count b))

-- 1: under 12 bytes; 2: n, k or r out of range; 3: byte 3 above k; 4: an offset or length differs, or the lent length does
unfoldable pub header_fault : Limits → List ℕ → ℕ
header_fault limits b =
    fault 1 (ltb (length b) 12)
    or_else fault 2 (out_of_range limits b)
    or_else fault 3 (ltb (values b) (idle b))
    or_else fault 4 (misplaced b)

-- 5: the mask is 0, or has a bit from k up
unfoldable pub mask_fault : ℕ → ℕ → ℕ
mask_fault k m = fault 5 (eqb m 0 || leb (2 ^ k) m)

-- 6: the type is k or more, or the second byte is not 0; 7: the end is 0 or above n; 8: the lower is above 256, or the upper is and is not 65535
unfoldable pub row_fault : ℕ → ℕ → Row → ℕ
row_fault n k row =
    fault 6 (leb k row.value || not (eqb row.reserved 0))
    or_else fault 7 (not (within n row.end))
    or_else fault 8 (ltb 256 row.lower || (ltb 256 row.upper && not (eqb row.upper 65535)))

-- 1 to 4; masks by slot; rows in order, each 6, 7, 8
unfoldable pub refusal : Limits → List ℕ → ℕ
refusal limits b =
    header_fault limits b
    or_else first_of (slots b) (λ s. mask_fault (values b) (mask_at b s))
    or_else first_of (row_count b) (λ i. row_fault (slots b) (values b) (row_at (rows_part b) i))

abbrev pub GoodBook : Limits → List ℕ → Type 0
GoodBook limits b = refusal limits b ≡ 0

abbrev pub number_of : Result Unit Refusal → ℕ
number_of (Ok _) = 0
number_of (Err refusal) = Answer.number_of refusal
