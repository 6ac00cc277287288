-- What the contract of `thin` says of an answer.
--   Thinned    a strike that leaves several values: it cannot be, or v's note is x and its reach a
-- Assumes nothing.
use Rattle.std.specs.Prelude.{Bool, true, false, List, ℕ}
use Rattle.filter_model.specs.State.{Contradicted, Removed}

abbrev pub Thinned : ℕ → ℕ → List ℕ → List ℕ → List ℕ → ℕ → List ℕ → List ℕ → List ℕ → ℕ → ℕ → ℕ → ℕ → Bool → Type 0
Thinned n k masks cells trail top masks' cells' trail' slot v x a true = Contradicted n k masks cells trail masks' cells' trail' slot v
Thinned n k masks cells trail top masks' cells' trail' slot v x a false = Removed n k masks cells trail top masks' cells' trail' slot v x a 0 0 0
