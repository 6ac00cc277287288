-- Stable lists of masks (document 01, 'Settling'): the forward-checking fixpoint, for any list of bounds.
--   Bound              value stands at least `lower` and at most `upper` times before `end`
--   Keeps b M          document 01's conditions on M at the bound b, for its value v and its end t
--   Unbroken M b       the first two of them: P is at least lower and B at most upper
--   Stable bs M        M is stable: no mask is empty, and M keeps every bound of bs
--   Largest bs M N     N is the largest stable list within M
--   Unstable bs M      no stable list lies within M (document 01: dead)
--   bound_at n T v t    the bound that a table has for value v and end t
--   table_bounds n k T  the bounds of a table: for every value below k and every end from 1 to n (`stable_keeps`, `keeps_stable`);
--                      line_bounds n T v e: those of value v alone, for the ends from 1 to e
-- P is `count_has`, B is `count_fixed`. Assumes nothing.
use Rattle.std.specs.Prelude.{◌≡◌, List, [], ◌∷◌, ◌++◌, ℕ, zero, suc, ◌≤◌, ◌<◌}
use Rattle.book.specs.Lists.{All}
use Rattle.domains.specs.Masks.{HasAt, FixedAt, Alive, Subset}
use Rattle.domains.specs.Counts.{count_has, count_fixed}
use Rattle.closing_model.specs.Table.{Table, place}
use Rattle.settling_model.specs.Settled.{LacksAt}

pub record Bound : Type 0 where
  pub value : ℕ
  pub end : ℕ
  pub lower : ℕ
  pub upper : ℕ

pub record Keeps (b : Bound) (M : List ℕ) : Type 0 where
  -- P is at least lower and B at most upper
  pub low : b.lower ≤ count_has M b.value b.end
  pub high : count_fixed M b.value b.end ≤ b.upper
  -- where P = lower, each slot before t that has v is fixed to it
  pub at_low : count_has M b.value b.end ≡ b.lower → (s : ℕ) → s < b.end → HasAt M s b.value → FixedAt M s b.value
  -- where B = upper, each slot before t not fixed to v lacks v
  pub at_high : count_fixed M b.value b.end ≡ b.upper → (s : ℕ) → s < b.end → (FixedAt M s b.value → ⊥) → LacksAt M s b.value

pub record Unbroken (M : List ℕ) (b : Bound) : Type 0 where
  pub low : b.lower ≤ count_has M b.value b.end
  pub high : count_fixed M b.value b.end ≤ b.upper

pub record Stable (bs : List Bound) (M : List ℕ) : Type 0 where
  pub alive : Alive M
  pub keeps : All (λ b. Keeps b M) bs

pub record Largest (bs : List Bound) (M N : List ℕ) : Type 0 where
  pub stable : Stable bs N
  pub within : Subset N M
  pub largest : (N' : List ℕ) → Stable bs N' → Subset N' M → Subset N' N

abbrev pub Unstable : List Bound → List ℕ → Type 0
Unstable bs M = (N : List ℕ) → Stable bs N → Subset N M → ⊥

-- ---- the bounds of a table
abbrev pub bound_at : ℕ → Table → ℕ → ℕ → Bound
bound_at n T v t = record { value = v; end = t; lower = T.lower (place n v t); upper = T.upper (place n v t) }

unfoldable pub line_bounds : ℕ → Table → ℕ → ℕ → List Bound
line_bounds n T v zero = []
line_bounds n T v (suc e) = bound_at n T v (suc e) ∷ line_bounds n T v e

unfoldable pub table_bounds : ℕ → ℕ → Table → List Bound
table_bounds n zero T = []
table_bounds n (suc k) T = line_bounds n T k n ++ table_bounds n k T
