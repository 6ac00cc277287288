-- Settling on small books, computed from their bytes (`worked`), with answers from document 01's rules by hand. The rows are those of its worked
-- table's M4, M7 and M8, the masks are others. A side that a row does not name is lower 0 or upper 65535. Assumes nothing.
use mathlib.Core.Path.{◌≡◌, refl}
use mathlib.Core.List.{List, [], ◌∷◌, ◌++◌}
use mathlib.Core.Option.{some, none, bind}
use Prim.Native.Nat.{ℕ, ◌+◌, ◌*◌}
use Rattle.domains.specs.Mask.{test_bit, clear_bit}
use Rattle.domains.specs.Counts.{count, only}
use Rattle.book.specs.Layout.{list_of}
use Rattle.closing_model.specs.Table.{others}
use Rattle.closing_model.specs.Start.{low_of, high_of, start_lowers, start_uppers}
use Rattle.closing_model.specs.Closing.{new_lower, new_upper, step_lowers, step_uppers, crossed, same, closing_within, list_sum, closing}
use Rattle.settling_model.specs.Stable.{line_bounds, table_bounds}
use Rattle.settling_model.specs.Cuts.{fix_to, strike_unfixed, map_before, cut_if, cut_low, cut_high}
use Rattle.settling_model.specs.Settling.{pass, passes, fixpoint, none_empty, none_broken, settling}
use Rattle.settling_model.specs.Book.{settled_book}

-- ---- bytes of small books
abbrev header : ℕ → ℕ → ℕ → List ℕ
header n k r = n ∷ 0 ∷ k ∷ 0 ∷ r ∷ 0 ∷ 12 ∷ 0 ∷ (12 + 4 * n) ∷ 0 ∷ (12 + 4 * n + 8 * r) ∷ 0 ∷ []

abbrev masks_of : List ℕ → List ℕ
masks_of [] = []
masks_of (m ∷ ms) = m ∷ 0 ∷ 0 ∷ 0 ∷ masks_of ms

abbrev row_lower : ℕ → ℕ → ℕ → List ℕ
row_lower v e lower = v ∷ 0 ∷ e ∷ 0 ∷ lower ∷ 0 ∷ 255 ∷ 255 ∷ []

abbrev row_upper : ℕ → ℕ → ℕ → List ℕ
row_upper v e upper = v ∷ 0 ∷ e ∷ 0 ∷ 0 ∷ 0 ∷ upper ∷ 0 ∷ []

-- ---- the books of M4, M7 and M8, for any masks
abbrev m4 : List ℕ → List ℕ
m4 ms = header 5 3 2 ++ masks_of ms ++ row_lower 1 5 2 ++ row_lower 2 5 1

abbrev m7 : List ℕ → List ℕ
m7 ms = header 4 4 2 ++ masks_of ms ++ row_upper 0 4 1 ++ row_upper 1 4 1

abbrev m8 : List ℕ → List ℕ
m8 ms = header 3 2 1 ++ masks_of ms ++ row_lower 0 2 1

-- one slot that has all of 32 values, and value 31 must stand there
abbrev wide : List ℕ
wide = header 1 32 1 ++ (255 ∷ 255 ∷ 255 ∷ 255 ∷ []) ++ row_lower 31 1 1

-- M7's rows: two slots fixed to 0 break its upper, so it is dead. M8's row: without 0 at slot 1, slot 0 is fixed to 0. M4's rows, where 0 stands
-- twice and may not stand again: struck from the other slots, and not from those fixed to it. A mask of 32 bits.
worked : (settled_book (m7 (1 ∷ 1 ∷ 3 ∷ 12 ∷ [])) ≡ none)
    × (settled_book (m8 (3 ∷ 2 ∷ 3 ∷ [])) ≡ some (1 ∷ 2 ∷ 3 ∷ []))
    × (settled_book (m4 (1 ∷ 1 ∷ 7 ∷ 7 ∷ 7 ∷ [])) ≡ some (1 ∷ 1 ∷ 6 ∷ 6 ∷ 6 ∷ []))
    × (settled_book wide ≡ some (2147483648 ∷ []))
unfolding test_bit clear_bit count only list_of others low_of high_of start_lowers start_uppers new_lower new_upper step_lowers step_uppers crossed same closing_within list_sum closing line_bounds table_bounds fix_to strike_unfixed map_before cut_if cut_low cut_high pass passes fixpoint none_empty none_broken settling bind settled_book
worked = (refl, refl, refl, refl)
