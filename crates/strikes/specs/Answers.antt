-- What the contract of `strike_one` says of an answer.
--   RemovalAnswer          one whole strike, by the answer of `strike_one`
-- Assumes nothing.
use Rattle.std.specs.Prelude.{List, Option, Some, None, ℕ}
use Rattle.filter_model.specs.State.{Contradicted, Removed}
use Rattle.strikes.specs.declared.Struck.{Struck}

abbrev pub RemovalAnswer : ℕ → ℕ → List ℕ → List ℕ → List ℕ → ℕ → List ℕ → List ℕ → List ℕ → ℕ → ℕ → Option Struck → Type 0
RemovalAnswer n k masks cells trail top masks' cells' trail' slot v None = Contradicted n k masks cells trail masks' cells' trail' slot v
RemovalAnswer n k masks cells trail top masks' cells' trail' slot v (Some s) =
    Removed n k masks cells trail top masks' cells' trail' slot v s.low_note s.low_reach s.high_note s.high_reach s.only
