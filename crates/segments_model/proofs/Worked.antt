-- The number of upper segments on worked cases, computed: type 1 in document 01's M8, as it opens (1) and with slot 0 cut to type 1 (0); and
-- type 0 where a later corner has no slack, n = 4, masks 3 3 1 1, at most 1 up to end 2 and 2 up to end 4 (0).
-- No contract cites this file. Assumes nothing.
use mathlib.Core.Path.{◌≡◌, refl}
use mathlib.Core.Bool.{false}
use mathlib.Core.List.{List, [], ◌∷◌}
use Prim.Native.Nat.{ℕ}
use lib.ListN.{get_or}
use Rattle.domains.specs.Mask.{test_bit}
use Rattle.domains.specs.Counts.{count, only}
use Rattle.segments_model.specs.Cells.{stands_at, standing}
use Rattle.segments_model.specs.Lines.{corner_of, slack_of}

-- the upper line is a list, entry t the bound at t
abbrev upper_segments : ℕ → List ℕ → List ℕ → ℕ → ℕ
upper_segments n line M v = standing n (corner_of false n (λ t. get_or line t 0)) (slack_of false (λ t. get_or line t 0) M v)

pub worked : (upper_segments 3 (0 ∷ 1 ∷ 1 ∷ 2 ∷ []) (3 ∷ 3 ∷ 3 ∷ []) 1 ≡ 1)
    × (upper_segments 3 (0 ∷ 1 ∷ 1 ∷ 2 ∷ []) (2 ∷ 1 ∷ 3 ∷ []) 1 ≡ 0)
    × (upper_segments 4 (0 ∷ 1 ∷ 1 ∷ 2 ∷ 2 ∷ []) (3 ∷ 3 ∷ 1 ∷ 1 ∷ []) 0 ≡ 0)
unfolding count only test_bit stands_at
worked = (refl, refl, refl)
