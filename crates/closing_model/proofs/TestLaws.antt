-- The laws of `crossed`, `same` and `list_sum` of `specs/Closing.antt`. No contract cites this file. `crossed_false`, `false_crossed`: the test
-- says what it should, both ways; `same_true`, `true_same` likewise; `equal_list_sum`: no more in any entry and no less in all is the same list.
-- Assumes nothing.
use mathlib.Core.Path.{◌≡◌, refl, sym}
use mathlib.Core.Bool.{Bool, true, false, ◌&&◌, ◌||◌, true≢false}
use mathlib.Core.List.{List, [], ◌∷◌}
use Prim.Native.Nat.{ℕ, zero, suc, ◌≤◌, ◌<◌}
use native.Mathlib.Nat.{le_refl}
use native.Mathlib.Omega.{arith}
use lib.Dec.{eqb, ltb}
use lib.ListN.{length, get_or}
use borrow.Author.Tests.{ltb-false, le-ltb, eqb-true, eq-eqb}
use Rattle.closing_model.specs.Closing.{crossed, same, list_sum}

-- ---- crossed
pub crossed_false : (L U : List ℕ) → length L ≡ length U → crossed L U ≡ false → (p : ℕ) → p < length L → get_or L p 0 ≤ get_or U p 0
unfolding crossed
crossed_false [] U long clear p inside = absurd (omega arith)
crossed_false (l ∷ L) [] long clear p inside = absurd (omega arith)
crossed_false (l ∷ L) (u ∷ U) long clear p inside = go (ltb u l) refl clear p inside (crossed_false L U (omega arith))
  where
    go : (b : Bool) → ltb u l ≡ b → (b || crossed L U) ≡ false → (p : ℕ) → p < suc (length L)
        → (crossed L U ≡ false → (q : ℕ) → q < length L → get_or L q 0 ≤ get_or U q 0) → get_or (l ∷ L) p 0 ≤ get_or (u ∷ U) p 0
    go true e clear p inside rest = absurd (true≢false clear)
    go false e clear zero inside rest = ltb-false u l e
    go false e clear (suc p) inside rest = rest clear p (omega arith)

pub false_crossed : (L U : List ℕ) → length L ≡ length U → ((p : ℕ) → p < length L → get_or L p 0 ≤ get_or U p 0) → crossed L U ≡ false
unfolding crossed
false_crossed [] U long uncrossed = refl
false_crossed (l ∷ L) [] long uncrossed = refl
false_crossed (l ∷ L) (u ∷ U) long uncrossed = rw (le-ltb u l (uncrossed 0 (omega arith))) (false_crossed L U (omega arith) (λ p inside. uncrossed (suc p) (omega arith)))

-- ---- same
pub same_true : (xs ys : List ℕ) → same xs ys ≡ true → xs ≡ ys
unfolding same
same_true [] [] e = refl
same_true [] (y ∷ ys) e = absurd (true≢false (sym e))
same_true (x ∷ xs) [] e = absurd (true≢false (sym e))
same_true (x ∷ xs) (y ∷ ys) e = go (eqb x y) refl e (same_true xs ys)
  where
    go : (b : Bool) → eqb x y ≡ b → (b && same xs ys) ≡ true → (same xs ys ≡ true → xs ≡ ys) → x ∷ xs ≡ y ∷ ys
    go true heads tails rest = rw (eqb-true x y heads, rest tails)
    go false heads tails rest = absurd (true≢false (sym tails))

same_refl : (xs : List ℕ) → same xs xs ≡ true
unfolding same
same_refl [] = refl
same_refl (x ∷ xs) = rw (eq-eqb x x refl) (same_refl xs)

pub true_same : (xs ys : List ℕ) → xs ≡ ys → same xs ys ≡ true
true_same xs ys e = rw (← e) (same_refl xs)

-- ---- list_sum
pub list_sum_mono : (xs ys : List ℕ) → length xs ≡ length ys → ((p : ℕ) → p < length xs → get_or xs p 0 ≤ get_or ys p 0) → list_sum xs ≤ list_sum ys
unfolding list_sum
list_sum_mono [] [] long xs≤ys = le_refl _
list_sum_mono [] (y ∷ ys) long xs≤ys = absurd (omega arith)
list_sum_mono (x ∷ xs) [] long xs≤ys = absurd (omega arith)
list_sum_mono (x ∷ xs) (y ∷ ys) long xs≤ys = omega (arith, xs≤ys 0 (omega arith), list_sum_mono xs ys (omega arith) (λ p inside. xs≤ys (suc p) (omega arith)))

-- no more in any entry, and no less in all: the same
pub equal_list_sum : (xs ys : List ℕ) → length xs ≡ length ys → ((p : ℕ) → p < length xs → get_or xs p 0 ≤ get_or ys p 0) → list_sum ys ≤ list_sum xs
    → xs ≡ ys
unfolding list_sum
equal_list_sum [] [] long xs≤ys ys≤xs = refl
equal_list_sum [] (y ∷ ys) long xs≤ys ys≤xs = absurd (omega arith)
equal_list_sum (x ∷ xs) [] long xs≤ys ys≤xs = absurd (omega arith)
equal_list_sum (x ∷ xs) (y ∷ ys) long xs≤ys ys≤xs =
    let first = xs≤ys 0 (omega arith) in
    let rest : (p : ℕ) → p < length xs → get_or xs p 0 ≤ get_or ys p 0 = λ p inside. xs≤ys (suc p) (omega arith) in
    let sums = list_sum_mono xs ys (omega arith) rest in
    let heads : x ≡ y = omega arith in
    rw (heads, equal_list_sum xs ys (omega arith) rest (omega arith))
