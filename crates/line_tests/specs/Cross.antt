-- Whether one of some entries side by side is crossed.
--   CrossedIn          an entry among the m from place p on whose upper is below its lower
--   CrossAnswer        what `crosses` answers: true, there is one; false, none of the m entries is crossed
-- Assumes nothing.
use Rattle.std.specs.Prelude.{Bool, true, false, ℕ, ◌+◌, ◌<◌, ◌≤◌}
use Rattle.closing_model.specs.Table.{Table}

pub record CrossedIn (p m : ℕ) (T : Table) : Type 0 where
  pub offset : ℕ
  pub inside : offset < m
  pub crossed : T.upper (p + offset) < T.lower (p + offset)

abbrev pub CrossAnswer : ℕ → ℕ → Table → Bool → Type 0
CrossAnswer p m T true = CrossedIn p m T
CrossAnswer p m T false = (i : ℕ) → i < m → T.lower (p + i) ≤ T.upper (p + i)
