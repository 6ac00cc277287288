-- The rules at more prefixes: at some of the loop over all (`columns_more`), at eight in a row (`band_between`). No contract cites this file.
-- Assumes nothing.
use mathlib.Core.Path.{◌≡◌, subst}
use mathlib.Core.Bool.{Bool, ◌||◌}
use mathlib.Core.List.{List}
use mathlib.Core.Logic.{dite}
use Prim.Native.Nat.{ℕ, ◌+◌, ◌-◌, ◌≤◌}
use native.Mathlib.Decide.{dec_lt}
use native.Mathlib.Nat.{le_refl}
use native.Mathlib.Omega.{arith}
use Rattle.closing_model.specs.Table.{size}
use Rattle.closing_model.specs.Sweep.{Across, Columns, Ran, Did}
use Rattle.closing_model.proofs.RanLaws.{ran_more, ran_weaken}
use Rattle.bands.specs.Band.{Band}
use Rattle.column_rules.specs.Answer.{Between}

-- some prefixes more, of the loop over all prefixes
pub columns_more : (n k t e : ℕ) {L U L' U' L'' U'' : List ℕ} {r s b : Bool} → e ≤ n + 1
    → Ran (size n k) (Columns n k (n + 1)) (Columns n k t) L U L' U' r → Did (size n k) (Between n k t e) L' U' L'' U'' s → b ≡ (r || s)
    → Ran (size n k) (Columns n k (n + 1)) (Columns n k e) L U L'' U'' b
columns_more n k t e e≤n+1 ran did flag =
    ran_more ran did (le_refl _) (λ T rules i t≤i i<e. rules i (omega arith))
    (λ T upto rule i i<e. dite (dec_lt i t) (λ i<t. upto i i<t) (λ i≥t. rule i (omega arith) i<e)) flag

-- eight prefixes in a row
pub band_between : (n k t : ℕ) {L U L' U' : List ℕ} {r : Bool} (end : ℕ) → t + 8 ≡ end → Did (size n k) (Band n k t) L U L' U' r
    → Did (size n k) (Between n k t end) L U L' U' r
band_between n k t end end_is did =
    ran_weaken (λ T rules i i<8. rules (t + i) (omega arith) (omega arith))
    (λ T rules i t≤i i<end. let at : t + (i - t) ≡ i = omega arith in subst (λ (j : ℕ). Across n k j T) at (rules (i - t) (omega arith))) did
