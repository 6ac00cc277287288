-- Document 01's worked table: its books, calls and figures, typed in from there; and a plan of M8's book, so that there is one.
--   m1 .. m8            the books, as bytes
--   m8_calls, m8_words    M8's calls, as bytes, and the words that they are answered
--   table               its rows, each a book and a claim
--   worked_table         the one computed test
-- `worked_table_lem` computes it, and `worked_says` has what it means. Assumes nothing.
use Rattle.std.specs.Prelude.{Bool, List, [], ◌∷◌, ◌++◌, ℕ}
use Rattle.book_bytes.specs.BookBytes.{full_masks}
use Rattle.worked.specs.Bytes.{at_least, at_most, plain_book, assign, remove, mark, back, show, upper_walls}
use Rattle.worked.specs.Claims.{Claim, closes, dead, settles, no_plan, has_plan, session, lowers, uppers, every}

-- ---- the books. No masks are given for M1 to M6: every type may go in every slot
abbrev pub m1 : List ℕ
m1 = plain_book 1 1 (full_masks 1 1) []

abbrev pub m2 : List ℕ
m2 = plain_book 5 2 (full_masks 5 2) (at_least 0 4 2 ∷ [])

abbrev pub m3 : List ℕ
m3 = plain_book 5 2 (full_masks 5 2) (at_most 0 4 2 ∷ [])

abbrev pub m4 : List ℕ
m4 = plain_book 5 3 (full_masks 5 3) (at_least 1 5 2 ∷ at_least 2 5 1 ∷ [])

abbrev pub m5 : List ℕ
m5 = plain_book 2 2 (full_masks 2 2) (at_least 0 1 2 ∷ [])

abbrev pub m6 : List ℕ
m6 = plain_book 2 2 (full_masks 2 2) (at_least 0 1 1 ∷ at_least 1 1 1 ∷ [])

abbrev pub m7 : List ℕ
m7 = plain_book 4 4 (3 ∷ 3 ∷ 3 ∷ 12 ∷ []) (at_most 0 4 1 ∷ at_most 1 4 1 ∷ [])

abbrev pub m8 : List ℕ
m8 = plain_book 3 2 (3 ∷ 3 ∷ 3 ∷ []) (at_least 0 2 1 ∷ [])

-- ---- M8's run
abbrev pub m8_calls : List ℕ
m8_calls = mark ++ assign 0 1 ++ upper_walls 1 ++ back ++ upper_walls 1 ++ remove 1 0 ++ show 0 ++ assign 0 1 ++ assign 2 0

-- two words a call
abbrev pub m8_words : List ℕ
m8_words =
    3 ∷ 0 ∷
    0 ∷ 2 ∷
    2 ∷ 0 ∷
    3 ∷ 0 ∷
    2 ∷ 1 ∷
    0 ∷ 2 ∷
    2 ∷ 1 ∷
    1 ∷ 0 ∷
    271 ∷ 0 ∷ []

-- ---- the table
abbrev pub table : List (List ℕ × Claim)
table =
    (m1, closes lowers 0 (0 ∷ 1 ∷ []))
    ∷ (m1, closes uppers 0 (0 ∷ 1 ∷ []))
    ∷ (m2, closes lowers 0 (0 ∷ 0 ∷ 0 ∷ 1 ∷ 2 ∷ 2 ∷ []))
    ∷ (m2, closes uppers 1 (0 ∷ 1 ∷ 2 ∷ 2 ∷ 2 ∷ 3 ∷ []))
    ∷ (m3, closes uppers 0 (0 ∷ 1 ∷ 2 ∷ 2 ∷ 2 ∷ 3 ∷ []))
    ∷ (m3, closes lowers 1 (0 ∷ 0 ∷ 0 ∷ 1 ∷ 2 ∷ 2 ∷ []))
    ∷ (m4, closes uppers 0 (0 ∷ 1 ∷ 2 ∷ 2 ∷ 2 ∷ 2 ∷ []))
    ∷ (m5, dead)
    ∷ (m6, dead)
    ∷ (m7, settles (3 ∷ 3 ∷ 3 ∷ 12 ∷ []))
    ∷ (m7, no_plan)
    ∷ (m8, has_plan (0 ∷ 1 ∷ 0 ∷ []))
    ∷ (m8, session m8_calls 0 m8_words (1 ∷ 2 ∷ 3 ∷ []))
    ∷ []

abbrev pub worked_table : Bool
worked_table = every table
