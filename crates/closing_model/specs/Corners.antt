-- Where a bound's staircase turns, its breakpoints (document 01: corners), for one value, as a function of the prefix length t.
--   UpperCorner n u t   flat into t and, unless t = n, rising out of it
--   LowerCorner n l t   rising into t and, unless t = n, flat out of it
--   Staircase n u       starts at 0 and grows by 0 or 1 at each step up to n
--   line f n v          the line of value v, where f gives the entries by place
--   bound_line kind n T v   the line of value v in the table T: of its lowers (true) or its uppers (false)
-- Assumes nothing.
use Rattle.std.specs.Prelude.{◌≡◌, Bool, true, false, ℕ, suc, ◌+◌, ◌-◌, ◌≤◌, ◌<◌}
use Rattle.closing_model.specs.Table.{Table, place}

pub record UpperCorner (n : ℕ) (u : ℕ → ℕ) (t : ℕ) : Type 0 where
  pub from : 0 < t
  pub upto : t ≤ n
  pub flat : u t ≡ u (t - 1)
  pub rises : t < n → u (t + 1) ≡ u t + 1

pub record LowerCorner (n : ℕ) (l : ℕ → ℕ) (t : ℕ) : Type 0 where
  pub from : 0 < t
  pub upto : t ≤ n
  pub rises : l t ≡ l (t - 1) + 1
  pub flat : t < n → l (t + 1) ≡ l t

pub record Staircase (n : ℕ) (u : ℕ → ℕ) : Type 0 where
  pub start : u 0 ≡ 0
  pub grows : (t : ℕ) → t < n → u t ≤ u (suc t)
  pub slowly : (t : ℕ) → t < n → u (suc t) ≤ u t + 1

abbrev pub line : (ℕ → ℕ) → ℕ → ℕ → ℕ → ℕ
line f n v t = f (place n v t)

abbrev pub bound_line : Bool → ℕ → Table → ℕ → ℕ → ℕ
bound_line true n T v = line T.lower n v
bound_line false n T v = line T.upper n v
