-- The cells as they are stored: each cell from 1 on is a right end with its gap, or a link on towards the next one; cell 0 is a plain number.
--   gap_of c               a stored cell below 1024 is a right end with the gap c + 1; from 1024 on it is a link, with the gap 0
--   gaps cells            the stored cells with their gaps for them: what `Cells` speaks of
--   target w c            where the link c at w leads: the next place for 1024, always forward
--   Link n cells w c      it leads to n + 1 at most, and past no right end
--   Linked n cells        so does each link at 1 to n
--   Fresh t cells         the cells 1 to t are links to the next place
--   seek, next_of          the first right end after the slot that the links lead to, or a place after n
--   Held n C f cells      the gaps hold the segments, and the links pass none
-- Assumes nothing.
use Rattle.std.specs.Prelude.{◌≡◌, Bool, cond, List, [], ◌∷◌, ℕ, zero, suc, ◌+◌, ◌-◌, ◌≤◌, ◌<◌, ltb, get_or}
use Rattle.segments_model.specs.Cells.{Cells}
use Rattle.segments_model.specs.Search.{Gap}

unfoldable pub gap_of : ℕ → ℕ
gap_of c = cond (ltb c 1024) (c + 1) 0

unfoldable pub gaps_of : List ℕ → List ℕ
gaps_of [] = []
gaps_of (c ∷ cells) = gap_of c ∷ gaps_of cells

unfoldable pub gaps : List ℕ → List ℕ
gaps [] = []
gaps (z ∷ cells) = z ∷ gaps_of cells

abbrev pub target : ℕ → ℕ → ℕ
target w c = w + 1 + (c - 1024)

pub record Link (n : ℕ) (cells : List ℕ) (w c : ℕ) : Type 0 where
  pub inside : target w c ≤ n + 1
  pub gap : Gap (gaps cells) (w + 1) (target w c)

pub record Linked (n : ℕ) (cells : List ℕ) : Type 0 where
  pub each : (w : ℕ) → 0 < w → w ≤ n → 1024 ≤ get_or cells w 0 → Link n cells w (get_or cells w 0)

abbrev pub Fresh : ℕ → List ℕ → Type 0
Fresh t cells = (i : ℕ) → 0 < i → i ≤ t → get_or cells i 0 ≡ 1024

-- from t on, over `left` links at most
unfoldable pub seek : ℕ → ℕ → ℕ → List ℕ → ℕ
seek zero n t cells = t
seek (suc left) n t cells = cond (ltb n t) t (cond (ltb (get_or cells t 0) 1024) t (seek left n (target t (get_or cells t 0)) cells))

abbrev pub next_of : ℕ → ℕ → List ℕ → ℕ
next_of n slot cells = seek (n - slot) n (slot + 1) cells

pub record Held (n : ℕ) (C : ℕ → Bool) (f : ℕ → ℕ) (stored : List ℕ) : Type 0 where
  pub cells : Cells n C f (gaps stored)
  pub linked : Linked n stored
