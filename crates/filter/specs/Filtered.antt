-- What the contracts of `fix`, `strike` and their helpers say of an outcome.
--   Held N M r              what an outcome says of a stable list N: Live, it lies within the masks M, Dead, there is none
--   Filtered n k Q G ..     what a call that was asked for the cut Q did: the state moved, and the cells still mirror every table that they mirrored;
--                           Live: progress, G holds of the masks, and every stable list with the cut lies within them; Dead: there is no such list
--   Followed v x a w y b M  after a strike: all from x on before a is settled for v, and all from y on before b for w
-- Assumes nothing.
use Rattle.std.specs.Prelude.{List, ℕ}
use Rattle.domains.specs.Masks.{Subset}
use Rattle.closing_model.specs.Table.{Table}
use Rattle.settling_model.specs.Stable.{Stable, table_bounds}
use Rattle.filter_model.specs.Mirror.{Mirror, SettledFrom, Progress}
use Rattle.filter_model.specs.State.{Moved}
use Rattle.outcomes.specs.Codes.{height_of, Lived}
use Rattle.outcomes.specs.declared.Outcome.{Outcome}
use Rattle.outcomes.specs.declared.Outcome.TheVariants.{Live, Dead}

abbrev pub Held : List ℕ → List ℕ → Outcome → Type 0
Held N M (Live h) = Subset N M
Held N M (Dead h) = ⊥

pub record Filtered (n k : ℕ) (Q G : List ℕ → Type 0) (masks cells trail : List ℕ) (top : ℕ) (masks' cells' trail' : List ℕ)
    (r : Outcome) : Type 0 where
  pub moved : Moved n k masks cells trail top masks' cells' trail' (height_of r)
  pub mirror : (T : Table) → Mirror n k T masks cells → Mirror n k T masks' cells'
  pub progress : Lived r → (T : Table) → Mirror n k T masks cells → Progress n k T masks masks'
  pub keeps : (T : Table) → Mirror n k T masks cells → (N : List ℕ) → Stable (table_bounds n k T) N → Subset N masks → Q N → Held N masks' r
  pub goal : Lived r → G masks'

pub record Followed (v x a w y b : ℕ) (M : List ℕ) : Type 0 where
  pub low : SettledFrom M v x a
  pub high : SettledFrom M w y b
