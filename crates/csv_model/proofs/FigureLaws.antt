-- What a figure says of its content: `digits_number` (one to five digits: how many they are, and their number) and `number_digits` (a figure that is a number
-- has such a content), `empty_content`. No contract cites this file. Assumes nothing.
use mathlib.Core.Path.{◌≡◌, refl, ap, ◌∙◌}
use mathlib.Core.Logic.{◌⊎◌, inl, inr, ⊎_elim}
use mathlib.Core.Bool.{Bool, true, ◌&&◌, cond}
use mathlib.Core.List.{List, [], ◌∷◌}
use Prim.Native.Nat.{ℕ, ◌+◌, ◌*◌, ◌-◌, ◌≤◌, ◌<◌}
use native.Mathlib.Omega.{arith}
use lib.Dec.{ltb, leb}
use lib.ListN.{length}
use borrow.Author.Tests.{lt-ltb, ltb-true, leb-true, le-leb}
use Rattle.book.proofs.RefusalLaws.{both_of_and}
use Rattle.book.specs.Lists.{All}
use Rattle.csv_model.specs.declared.Figure.{Figure}
use Rattle.csv_model.specs.Rfc.{is_digit}
use Rattle.csv_model.specs.Csv.{nothing, no_number, more, figure_from, figure_of}
use Rattle.csv_model.specs.Meaning.{decimal_from, decimal, IsNumber}
use Rattle.csv_model.specs.Import.{is_number}
use Rattle.csv_model.proofs.GrammarLaws.{bool_cases}

abbrev Digits : List ℕ → Type 0
Digits c = All (λ b. is_digit b ≡ true) c

-- ---- more
abbrev grown : Figure → ℕ → Figure
grown f b = record { count = f.count + 1; value = 10 * f.value + (b - 48) }

more_digit : (f : Figure) (b : ℕ) → is_digit b ≡ true → f.count < 5 → more f b ≡ grown f b
unfolding more
more_digit f b digit few =
    ap (λ (t : Bool). cond (t && ltb f.count 5) (grown f b) no_number) digit ∙ ap (λ (t : Bool). cond t (grown f b) no_number) (lt-ltb f.count 5 few)

-- a digit more, or no number
more_cases : (f : Figure) (b : ℕ) → ((is_digit b ≡ true) × (f.count < 5)) ⊎ (more f b ≡ no_number)
unfolding more
more_cases f b =
    ⊎_elim (λ yes_digit. let both = both_of_and (is_digit b) (ltb f.count 5) yes_digit in inl (both.0, ltb-true f.count 5 both.1))
    (λ none. inr (ap (λ (t : Bool). cond t (grown f b) no_number) none)) (bool_cases (is_digit b && ltb f.count 5))

more_none : (b : ℕ) → more no_number b ≡ no_number
more_none b = ⊎_elim (λ both. absurd (omega (arith, both.1))) (λ none. none) (more_cases no_number b)

-- ---- figure_from
from_none : (c : List ℕ) → figure_from no_number c ≡ no_number
unfolding figure_from
from_none [] = refl
from_none (b ∷ c) = ap (λ (f : Figure). figure_from f c) (more_none b) ∙ from_none c

from_digits : (f : Figure) (c : List ℕ) → Digits c → f.count + length c ≤ 5
    → figure_from f c ≡ record { count = f.count + length c; value = decimal_from f.value c }
unfolding figure_from decimal_from
from_digits f [] digits few = let all : f.count ≡ f.count + 0 = omega arith in ap (λ (j : ℕ). record { count = j; value = f.value }) all
from_digits f (b ∷ c) digits few =
    let count : f.count + 1 + length c ≡ f.count + length (b ∷ c) = omega arith in
    ap (λ (g : Figure). figure_from g c) (more_digit f b digits.0 (omega arith)) ∙ from_digits (grown f b) c digits.1 (omega arith)
    ∙ ap (λ (j : ℕ). record { count = j; value = decimal_from (10 * f.value + (b - 48)) c }) count

from_number : (f : Figure) (c : List ℕ) → f.count ≤ 5 → (figure_from f c).count ≤ 5 → Digits c × (f.count + length c ≤ 5)
unfolding figure_from
from_number f [] so_far few = (tt, omega arith)
from_number f (b ∷ c) so_far few =
    ⊎_elim
    (λ both.
    let is = more_digit f b both.0 both.1 in
    let small = both.1 in
    let rest = from_number (grown f b) c (omega arith) (omega (arith, ap (λ (g : Figure). (figure_from g c).count) is)) in
    ((both.0, rest.0), omega (arith, rest.1)))
    (λ none. absurd (omega (arith, ap (λ (g : Figure). (figure_from g c).count) none, ap (λ (g : Figure). g.count) (from_none c))))
    (more_cases f b)

-- ---- figure_of
pub digits_number : (c : List ℕ) → Digits c → length c ≤ 5 → figure_of c ≡ record { count = length c; value = decimal c }
digits_number c digits few =
    let count : 0 + length c ≡ length c = omega arith in
    from_digits nothing c digits (omega arith) ∙ ap (λ (j : ℕ). record { count = j; value = decimal c }) count

pub number_digits : (c : List ℕ) → is_number (figure_of c) ≡ true → IsNumber c
number_digits c number =
    let both = both_of_and (leb 1 (figure_of c).count) (leb (figure_of c).count 5) number in
    let few = leb-true (figure_of c).count 5 both.1 in
    let some = leb-true 1 (figure_of c).count both.0 in
    let all = from_number nothing c (omega arith) few in
    let is = digits_number c all.0 (omega (arith, all.1)) in
    record { digits = all.0; some = omega (arith, ap (λ (g : Figure). g.count) is); few = omega (arith, all.1) }

pub digits_counted : (c : List ℕ) → IsNumber c → is_number (figure_of c) ≡ true
digits_counted c number =
    let is = digits_number c number.digits number.few in
    let some = number.some in
    let few = number.few in
    ap is_number is ∙ simp (le-leb 1 (length c) some, le-leb (length c) 5 few)

-- only the empty content has no digit and no other byte
pub empty_content : (c : List ℕ) → (figure_of c).count ≡ 0 → c ≡ []
empty_content c none =
    let all = from_number nothing c (omega arith) (omega (arith, none)) in
    let is = digits_number c all.0 (omega (arith, all.1)) in
    no_elements c (omega (arith, none, ap (λ (g : Figure). g.count) is))
  where
    no_elements : (c : List ℕ) → length c ≡ 0 → c ≡ []
    no_elements [] none = refl
    no_elements (b ∷ c) none = absurd (omega arith)
