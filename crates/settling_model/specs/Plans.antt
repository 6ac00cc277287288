-- Plans (document 01): one value for each slot, allowed by the masks and keeping the rows at every end.
--   is x v              1 where x is v, else 0
--   occurs p v t        how often v stands among the first t values of p
--   KeepsRow p r        before row r's end, its value stands in p at least lower and at most upper times
--   Plan n k rs M p     p is a plan for n slots, k values, the rows rs and the masks M
--   singles p           p as masks: each slot fixed to its value
--   occurs_table n p     the table whose lowers and uppers are both how often each value occurs in p
-- An upper of 65535 (document 01: no upper bound) asks nothing where no end is above it (`unbounded_keeps`).
-- Assumes nothing.
use Rattle.std.specs.Prelude.{◌≡◌, List, [], ◌∷◌, ℕ, ◌+◌, ◌/◌, ◌%◌, ◌^◌, ◌≤◌, ◌<◌, eqb, length, get_or}
use Rattle.domains.specs.Masks.{HasAt}
use Rattle.domains.specs.Counts.{count, bit}
use Rattle.book.specs.declared.Row.{Row}
use Rattle.closing_model.specs.Table.{Table}
use Rattle.book.specs.Lists.{All}

unfoldable pub is : ℕ → ℕ → ℕ
is x v = bit (eqb x v)

abbrev pub occurs : List ℕ → ℕ → ℕ → ℕ
occurs p v t = count (λ s. is (get_or p s 0) v) t

pub record KeepsRow (p : List ℕ) (r : Row) : Type 0 where
  pub low : r.lower ≤ occurs p r.value r.end
  pub high : occurs p r.value r.end ≤ r.upper

pub record Plan (n k : ℕ) (rs : List Row) (M p : List ℕ) : Type 0 where
  -- one type per slot
  pub slots : length p ≡ n
  pub values : (s : ℕ) → s < n → get_or p s 0 < k
  -- allowed by the masks
  pub allowed : (s : ℕ) → s < n → HasAt M s (get_or p s 0)
  -- keeping the rows at every end
  pub rows : All (KeepsRow p) rs

unfoldable pub singles : List ℕ → List ℕ
singles [] = []
singles (x ∷ xs) = 2 ^ x ∷ singles xs

abbrev pub occurs_table : ℕ → List ℕ → Table
occurs_table n p = record { lower = λ q. occurs p (q / (n + 1)) (q % (n + 1)); upper = λ q. occurs p (q / (n + 1)) (q % (n + 1)) }
