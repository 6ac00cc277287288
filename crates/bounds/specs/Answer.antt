-- What the closing of a table answers.
--   answered r L U     the model's answer that r and the two lists stand for: a table, or none (document 01: dead)
-- Assumes nothing.
use Rattle.std.specs.Prelude.{Bool, true, false, List, ℕ}
use Rattle.std.proofs.Math.Option.{Option, none, some}

abbrev pub answered : Bool → List ℕ → List ℕ → Option (List ℕ × List ℕ)
answered true L U = some (L, U)
answered false L U = none
