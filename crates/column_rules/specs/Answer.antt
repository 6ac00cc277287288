-- What the functions of this crate are lent and what they answer.
--   Fits n k L U       two lists that hold just a table of k values and the prefixes 0 to n, whose numbers fit
--   SumsMatch          what `column_sums` answers: the sums and the widest gap of a prefix, whose numbers fit
--   Between            the rules across the values at some prefixes in a row
--   Outcome            what a run of rules did, by its answer: nothing, stores, or the finding that no table with the rules lies within
-- Assumes nothing.
use Rattle.std.specs.Prelude.{◌≡◌, Bool, Result, Ok, Err, List, ℕ, ◌*◌, ◌<◌, ◌≤◌, length}
use Rattle.closing_model.specs.Table.{Table, view, size, Within}
use Rattle.closing_model.specs.Sweep.{widest, SumsAre, Across, Did}
use Rattle.column_rules.specs.declared.Sums.{Sums}
use Rattle.column_rules.specs.declared.Crossed.{Crossed}

-- prefix lengths are entries, of 16 bits, and as many values have a sum of entries that fits
pub record Fits (n k : ℕ) (L U : List ℕ) : Type 0 where
  pub prefixes : n < 65536
  pub values : k < 65536
  pub lowers : length L ≡ size n k
  pub uppers : length U ≡ size n k

pub record SumsMatch (n k t : ℕ) (T : Table) (s : Sums) : Type 0 where
  pub sums : SumsAre n k t s.uppers s.lowers T
  pub gap : s.gap ≡ widest n k T t
  pub gap_fits : s.gap < 65536
  pub lowers_fit : s.lowers ≤ 65535 * k

-- the rules across the values at each prefix from t on and below e
abbrev pub Between : ℕ → ℕ → ℕ → ℕ → Table → Type 0
Between n k t e T = (i : ℕ) → t ≤ i → i < e → Across n k i T

abbrev pub Outcome : ℕ → (Table → Type 0) → List ℕ → List ℕ → List ℕ → List ℕ → Result Bool Crossed → Type 0
Outcome edge P L U L' U' (Ok stored) = Did edge P L U L' U' stored
Outcome edge P L U L' U' (Err crossed) = (T : Table) → P T → Within edge (view L U) T → ⊥
