-- Whether a list is a plan of a book, and whether a small book has one, by trying every list of types.
--   all_below k f     f is true of 0, 1, .., k - 1
--   no_list k m f     f is false of every list of m numbers below k
--   keeps_row p r     the list p keeps the row r; keeps_rows: every row of a list
--   is_plan M rs p    p is allowed by the masks M and keeps the rows rs
--   plan_of b p       p has one type of the book b per slot, and is a plan of b
--   planless b       no list of one type per slot is a plan of the book b
-- `plan_of_plan` and `planless_no_plan` tie them to `BookPlan`. Assumes nothing.
use Rattle.std.specs.Prelude.{Bool, true, not, ◌&&◌, List, [], ◌∷◌, ℕ, zero, suc, eqb, leb, ltb, length, get_or}
use Rattle.domains.specs.Mask.{test_bit}
use Rattle.book.specs.declared.Row.{Row}
use Rattle.book.specs.Layout.{slots, values, masks, rows}
use Rattle.settling_model.specs.Plans.{occurs}

unfoldable pub all_below : ℕ → (ℕ → Bool) → Bool
all_below zero f = true
all_below (suc k) f = all_below k f && f k

unfoldable pub no_list : ℕ → ℕ → (List ℕ → Bool) → Bool
no_list k zero f = not (f [])
no_list k (suc m) f = all_below k (λ v. no_list k m (λ p. f (v ∷ p)))

unfoldable pub keeps_row : List ℕ → Row → Bool
keeps_row p r = leb r.lower (occurs p r.value r.end) && leb (occurs p r.value r.end) r.upper

unfoldable pub keeps_rows : List ℕ → List Row → Bool
keeps_rows p [] = true
keeps_rows p (r ∷ rs) = keeps_row p r && keeps_rows p rs

unfoldable pub is_plan : List ℕ → List Row → List ℕ → Bool
is_plan M rs p = all_below (length p) (λ s. eqb (test_bit (get_or M s 0) (get_or p s 0)) 1) && keeps_rows p rs

unfoldable pub plan_of : List ℕ → List ℕ → Bool
plan_of b p = eqb (length p) (slots b) && (all_below (slots b) (λ s. ltb (get_or p s 0) (values b)) && is_plan (masks b) (rows b) p)

unfoldable pub planless : List ℕ → Bool
planless b = no_list (values b) (slots b) (is_plan (masks b) (rows b))
