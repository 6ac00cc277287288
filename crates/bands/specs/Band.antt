-- The rules across the values at eight prefixes side by side.
--   Band n k t         the rules across the values (`Across`) at the prefixes from t to t + 7
--   BandFits           two lists that hold just a table of k values and the prefixes 0 to n, of which t to t + 7 are some
--   SumsUpto n t l v   the sums of the first v values' entries in l at these prefixes, 65535 where a sum is more
--   Rooms              by how much the uppers' sums are above each prefix length, and the lowers' sums below it
--   Narrowed           two lists after one value's gaps at eight places were made no wider than the rooms
--   Answer             what `band` did, by its answer
-- Assumes nothing.
use Rattle.std.specs.Prelude.{◌≡◌, Bool, Result, Ok, Err, List, ℕ, ◌+◌, ◌-◌, ◌≤◌, ◌<◌, min, length, get_or}
use Rattle.closing_model.specs.Table.{Table, size}
use Rattle.closing_model.specs.Sweep.{column_sum, Across, Did}
use Rattle.lanes.specs.declared.Eight.{Eight}
use Rattle.lanes.specs.Lanes.{lane}
use Rattle.bands.specs.declared.Unfit.{Unfit}

abbrev pub Band : ℕ → ℕ → ℕ → Table → Type 0
Band n k t T = (i : ℕ) → i < 8 → Across n k (t + i) T

pub record BandFits (n k t : ℕ) (L U : List ℕ) : Type 0 where
  pub within : t + 7 ≤ n
  pub prefixes : n < 65536
  pub values : k < 65536
  pub lowers : length L ≡ size n k
  pub uppers : length U ≡ size n k

abbrev pub SumsUpto : ℕ → ℕ → List ℕ → ℕ → Eight → Type 0
SumsUpto n t l v e = (i : ℕ) → i < 8 → lane e i ≡ min 65535 (column_sum n v (λ p. get_or l p 0) (t + i))

pub record Rooms (n k t : ℕ) (above below : Eight) (T : Table) : Type 0 where
  pub uppers : (i : ℕ) → i < 8 → column_sum n k T.upper (t + i) ≡ t + i + lane above i
  pub lowers : (i : ℕ) → i < 8 → column_sum n k T.lower (t + i) + lane below i ≡ t + i

-- by how much the gap from a lower to its upper at a place is wider than a room
abbrev pub excess : List ℕ → List ℕ → ℕ → ℕ → ℕ
excess L U q room = get_or U q 0 - get_or L q 0 - room

pub record Narrowed (p : ℕ) (above below : Eight) (L U L' U' : List ℕ) (e : Eight) : Type 0 where
  pub size_l : length L' ≡ length L
  pub size_u : length U' ≡ length U
  pub lowers : (i : ℕ) → i < 8 → get_or L' (p + i) 0 ≡ get_or L (p + i) 0 + excess L U (p + i) (lane above i)
  pub fits : (i : ℕ) → i < 8 → get_or L' (p + i) 0 < 65536
  pub uppers : (i : ℕ) → i < 8 → get_or U' (p + i) 0 ≡ get_or U (p + i) 0 - excess L U (p + i) (lane below i)
  pub before : (q : ℕ) → q < p → (get_or L' q 0 ≡ get_or L q 0) × (get_or U' q 0 ≡ get_or U q 0)
  pub behind : (q : ℕ) → p + 8 ≤ q → (get_or L' q 0 ≡ get_or L q 0) × (get_or U' q 0 ≡ get_or U q 0)
  pub excesses : (i : ℕ) → i < 8 → lane e i ≡ min 65535 (excess L U (p + i) (lane above i) + excess L U (p + i) (lane below i))

abbrev pub Answer : ℕ → ℕ → ℕ → List ℕ → List ℕ → List ℕ → List ℕ → Result Bool Unfit → Type 0
Answer n k t L U L' U' (Ok stored) = Did (size n k) (Band n k t) L U L' U' stored
Answer n k t L U L' U' (Err unfit) = (L' ≡ L) × (U' ≡ U)
