-- The model of closing (document 01, 'Closing'): computed on lists, naive, written to be read.
--   new_lower, new_upper         what the rules ask of the lower, and of the upper, at (v, t), given the table as it stands
--   step_lowers, step_uppers     the lists with every rule applied once at every entry, all at the same time
--   crossed L U                some lower is above its upper
--   same xs ys, list_sum xs     the lists have the same entries; the sum of the entries
--   closing n k L U            such steps are repeated till one changes nothing, and left with none at a crossed entry
--   closing_within fuel n k L U   the same in at most so many steps
-- `closing_loosest`, `loosest_closing`, `closing_none` and `none_closing` tie it to `Loosest` and `NoneClosed`.
-- Assumes nothing.
use Rattle.std.specs.Prelude.{Bool, true, false, cond, ◌&&◌, ◌||◌, List, [], ◌∷◌, ℕ, zero, suc, ◌+◌, ◌-◌, ◌/◌, ◌%◌, min, max, eqb, ltb}
use Rattle.std.proofs.Math.Option.{Option, none, some}
use Rattle.book.specs.Layout.{list_of}
use Rattle.closing_model.specs.Table.{Table, view, size, place, others}

-- the greatest of what stands there, lower(t-1), lower(t+1) - 1, and t minus the other values' uppers. A difference below 0 asks nothing.
unfoldable pub new_lower : ℕ → ℕ → Table → ℕ → ℕ → ℕ
new_lower n k T v t =
    max (T.lower (place n v t))
    (max (cond (ltb 0 t) (T.lower (place n v (t - 1))) 0)
    (max (cond (ltb t n) (T.lower (place n v (t + 1)) - 1) 0) (t - others n k T.upper v t)))

-- the least of what stands there, upper(t-1) + 1, upper(t+1), and t minus the other values' lowers. A difference below 0 counts as 0: the
-- lowers at t then sum up to more than t, and each value with a lower above 0 gets an upper below it, so the next table is crossed.
unfoldable pub new_upper : ℕ → ℕ → Table → ℕ → ℕ → ℕ
new_upper n k T v t =
    min (T.upper (place n v t))
    (min (cond (ltb 0 t) (T.upper (place n v (t - 1)) + 1) (T.upper (place n v t)))
    (min (cond (ltb t n) (T.upper (place n v (t + 1))) (T.upper (place n v t))) (t - others n k T.lower v t)))

unfoldable pub step_lowers : ℕ → ℕ → Table → List ℕ
step_lowers n k T = list_of (size n k) (λ p. new_lower n k T (p / (n + 1)) (p % (n + 1)))

unfoldable pub step_uppers : ℕ → ℕ → Table → List ℕ
step_uppers n k T = list_of (size n k) (λ p. new_upper n k T (p / (n + 1)) (p % (n + 1)))

unfoldable pub crossed : List ℕ → List ℕ → Bool
crossed [] U = false
crossed (l ∷ L) [] = false
crossed (l ∷ L) (u ∷ U) = ltb u l || crossed L U

unfoldable pub same : List ℕ → List ℕ → Bool
same [] [] = true
same [] (y ∷ ys) = false
same (x ∷ xs) [] = false
same (x ∷ xs) (y ∷ ys) = eqb x y && same xs ys

-- at most as many steps as the fuel
unfoldable pub closing_within : ℕ → ℕ → ℕ → List ℕ → List ℕ → Option (List ℕ × List ℕ)
closing_within zero n k L U = none
closing_within (suc fuel) n k L U =
    let L' = step_lowers n k (view L U) in
    let U' = step_uppers n k (view L U) in
    elim (crossed L U) [ true ↦ none | false ↦ elim (same L L' && same U U') [ true ↦ some (L, U) | false ↦ closing_within fuel n k L' U' ] ]

unfoldable pub list_sum : List ℕ → ℕ
list_sum [] = 0
list_sum (x ∷ xs) = x + list_sum xs

-- while no entry is crossed, each step that changes something makes the sum of the uppers less that of the lowers fall: this fuel suffices
unfoldable pub closing : ℕ → ℕ → List ℕ → List ℕ → Option (List ℕ × List ℕ)
closing n k L U = closing_within (suc (list_sum U)) n k L U
