-- Settling as a function that computes: the cuts of one bound after another, pass after pass, until a pass changes nothing.
--   pass bs M          M after the cuts of each bound
--   passes fuel bs M   M after passes until one changes nothing, at most as many as the fuel
--   fixpoint bs M      the list that the passes end in
--   none_empty M        no mask is empty
--   none_broken bs M    no bound has P below lower or B above upper
--   settling bs M      the largest stable list within M, or none (`settling_largest`, `settling_unstable`)
-- Assumes nothing.
use Rattle.std.specs.Prelude.{Bool, true, cond, not, ◌&&◌, List, [], ◌∷◌, ℕ, zero, suc, eqb, leb}
use Rattle.std.proofs.Math.Option.{Option, some, none}
use Rattle.domains.specs.Counts.{count_has, count_fixed}
use Rattle.closing_model.specs.Closing.{same, list_sum}
use Rattle.settling_model.specs.Stable.{Bound}
use Rattle.settling_model.specs.Cuts.{cut_low, cut_high}

unfoldable pub pass : List Bound → List ℕ → List ℕ
pass [] M = M
pass (b ∷ bs) M = pass bs (cut_high b (cut_low b M))

unfoldable pub passes : ℕ → List Bound → List ℕ → List ℕ
passes zero bs M = M
passes (suc fuel) bs M =
    let N = pass bs M in
    let more = passes fuel bs N in
    cond (same M N) M more

-- the masks as numbers, together, are fuel enough: a pass that changes something strikes a value
unfoldable pub fixpoint : List Bound → List ℕ → List ℕ
fixpoint bs M = passes (list_sum M) bs M

unfoldable pub none_empty : List ℕ → Bool
none_empty [] = true
none_empty (m ∷ ms) = not (eqb m 0) && none_empty ms

unfoldable pub none_broken : List Bound → List ℕ → Bool
none_broken [] M = true
none_broken (b ∷ bs) M =
    leb b.lower (count_has M b.value b.end) && leb (count_fixed M b.value b.end) b.upper && none_broken bs M

unfoldable pub settling : List Bound → List ℕ → Option (List ℕ)
settling bs M =
    let N = fixpoint bs M in
    cond (none_empty N && none_broken bs N) (some N) none
