-- Eight numbers side by side.
--   lanes e       the list of them
--   lane e i      number i of them, from 0 on
--   Eightfold P   P of 0 to 7
--   total e       their sum
-- Assumes nothing.
use Rattle.std.specs.Prelude.{List, [], ◌∷◌, ℕ, ◌+◌, get_or}
use Rattle.lanes.specs.declared.Eight.{Eight}

abbrev pub lanes : Eight → List ℕ
lanes e = e.e0 ∷ e.e1 ∷ e.e2 ∷ e.e3 ∷ e.e4 ∷ e.e5 ∷ e.e6 ∷ e.e7 ∷ []

abbrev pub lane : Eight → ℕ → ℕ
lane e i = get_or (lanes e) i 0

abbrev pub Eightfold : (ℕ → Type 0) → Type 0
Eightfold P = P 0 × P 1 × P 2 × P 3 × P 4 × P 5 × P 6 × P 7

abbrev pub total : Eight → ℕ
total e = e.e0 + e.e1 + e.e2 + e.e3 + e.e4 + e.e5 + e.e6 + e.e7
