-- M8 with an idle type (document 02, request two): its calls answered as in the worked table but for the struck figures, which leave the idle type out; and
-- one call that strikes the one type alone.
--   m8_idle x            M8's book with byte 3 x: 0 for no idle type, else that type plus 1
--   m8_idle_words         what M8's calls are answered, be type 0 idle or type 1: each of its two decisions strikes one of each
--   idle_table           the rows; passes_idle: the computed test
-- `worked_idle` computes it, and `idle_says` has what it means. Assumes nothing.
use Rattle.std.specs.Prelude.{Bool, List, [], ◌∷◌, ℕ}
use Rattle.book_bytes.specs.BookBytes.{book_bytes}
use Rattle.worked.specs.Bytes.{at_least, assign}
use Rattle.worked.specs.Claims.{Claim, session, every}
use Rattle.worked.specs.WorkedTable.{m8_calls}

abbrev pub m8_idle : ℕ → List ℕ
m8_idle x = book_bytes 3 2 x (3 ∷ 3 ∷ 3 ∷ []) (at_least 0 2 1 ∷ [])

-- two words a call
abbrev pub m8_idle_words : List ℕ
m8_idle_words =
    3 ∷ 0 ∷
    0 ∷ 1 ∷
    2 ∷ 0 ∷
    3 ∷ 0 ∷
    2 ∷ 1 ∷
    0 ∷ 1 ∷
    2 ∷ 1 ∷
    1 ∷ 0 ∷
    271 ∷ 0 ∷ []

-- slot 2 cut to type 0 strikes type 1 alone
abbrev pub idle_table : List (List ℕ × Claim)
idle_table =
    (m8_idle 1, session m8_calls 0 m8_idle_words (1 ∷ 2 ∷ 3 ∷ []))
    ∷ (m8_idle 2, session m8_calls 0 m8_idle_words (1 ∷ 2 ∷ 3 ∷ []))
    ∷ (m8_idle 0, session (assign 2 0) 0 (0 ∷ 1 ∷ []) (3 ∷ 3 ∷ 1 ∷ []))
    ∷ (m8_idle 1, session (assign 2 0) 0 (0 ∷ 1 ∷ []) (3 ∷ 3 ∷ 1 ∷ []))
    ∷ (m8_idle 2, session (assign 2 0) 0 (0 ∷ 0 ∷ []) (3 ∷ 3 ∷ 1 ∷ []))
    ∷ []

abbrev pub passes_idle : Bool
passes_idle = every idle_table
