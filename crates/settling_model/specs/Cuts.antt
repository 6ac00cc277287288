-- What a bound that is met takes from the masks.
--   fix_to v m           m fixed to v where it has v, else m
--   strike_unfixed v m   m without v, unless m is fixed to v
--   map_before t f M     M with f applied to each slot before t
--   cut_if met t f M     the same where a bound is met, else M
--   cut_low b M          where P = lower, each slot before the end that has the value is fixed to it
--   cut_high b M         where B = upper, the value is struck from each slot before the end that is not fixed to it
-- Assumes nothing.
use Rattle.std.specs.Prelude.{Bool, cond, List, [], ◌∷◌, ℕ, zero, suc, ◌^◌, eqb}
use Rattle.domains.specs.Mask.{test_bit, clear_bit}
use Rattle.domains.specs.Counts.{count_has, count_fixed}
use Rattle.settling_model.specs.Stable.{Bound}

unfoldable pub fix_to : ℕ → ℕ → ℕ
fix_to v m = cond (eqb (test_bit m v) 1) (2 ^ v) m

unfoldable pub strike_unfixed : ℕ → ℕ → ℕ
strike_unfixed v m = cond (eqb m (2 ^ v)) m (clear_bit m v)

unfoldable pub map_before : ℕ → (ℕ → ℕ) → List ℕ → List ℕ
map_before zero f M = M
map_before (suc t) f [] = []
map_before (suc t) f (m ∷ ms) = f m ∷ map_before t f ms

unfoldable pub cut_if : Bool → ℕ → (ℕ → ℕ) → List ℕ → List ℕ
cut_if met t f M = cond met (map_before t f M) M

unfoldable pub cut_low : Bound → List ℕ → List ℕ
cut_low b M = cut_if (eqb (count_has M b.value b.end) b.lower) b.end (fix_to b.value) M

unfoldable pub cut_high : Bound → List ℕ → List ℕ
cut_high b M = cut_if (eqb (count_fixed M b.value b.end) b.upper) b.end (strike_unfixed b.value) M
