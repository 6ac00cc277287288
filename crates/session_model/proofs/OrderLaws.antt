-- The laws of `order` and `refusal` of `specs/Refusal.antt` that hold in whatever order the numbers are asked: no call is refused exactly
-- where no number applies (`none_applies_not`, `applies_not_none`). No contract cites this file. Assumes nothing.
use mathlib.Core.Path.{◌≡◌, refl, sym, ap, ◌∙◌}
use mathlib.Core.Bool.{Bool, true, false, cond, true≢false}
use mathlib.Core.List.{List, [], ◌∷◌}
use mathlib.Core.Option.{none, some, some-ne-none}
use Prim.Native.Nat.{ℕ}
use lib.Dec.{eqb}
use borrow.Author.Tests.{eqb-true}
use Rattle.session_model.specs.Calls.{Call}
use Rattle.session_model.specs.State.{Rules, State}
use Rattle.session_model.specs.Refusal.{Refusal, unknown_kind, slot_out, value_out, no_mark, while_dead, marks_full, number, order, applies, first, refusal}

-- ---- first
abbrev Clear : (Refusal → Bool) → List Refusal → Type 0
Clear f [] = Unit {0}
Clear f (r ∷ rs) = (f r ≡ false) × Clear f rs

module _ (f : Refusal → Bool) where
  none_clear : (rs : List Refusal) → first f rs ≡ none → Clear f rs
  unfolding first
  none_clear [] e = tt
  none_clear (r ∷ rs) e = go (f r) refl e (none_clear rs)
    where
      go : (found : Bool) → f r ≡ found → cond found (some r) (first f rs) ≡ none → (first f rs ≡ none → Clear f rs) → (f r ≡ false) × Clear f rs
      go true here e' ih = absurd (some-ne-none r e')
      go false here e' ih = (here, ih e')

  clear_none : (rs : List Refusal) → Clear f rs → first f rs ≡ none
  unfolding first
  clear_none [] clear = refl
  clear_none (r ∷ rs) clear = rw (clear.0, first) (clear_none rs clear.1)

  all_clear : (rs : List Refusal) → ((r : Refusal) → f r ≡ false) → Clear f rs
  all_clear [] each = tt
  all_clear (r ∷ rs) each = (each r, all_clear rs each)

-- ---- order: each refusal is in it, found by its number
of_number : ℕ → Refusal
of_number x =
    cond (eqb x 11) unknown_kind (cond (eqb x 12) slot_out (cond (eqb x 13) value_out (cond (eqb x 14) no_mark (cond (eqb x 15) while_dead marks_full))))

of_number_number : (r : Refusal) → of_number (number r) ≡ r
unfolding of_number
of_number_number unknown_kind = refl
of_number_number slot_out = refl
of_number_number value_out = refl
of_number_number no_mark = refl
of_number_number while_dead = refl
of_number_number marks_full = refl

among : Refusal → List Refusal → Bool
among r [] = false
among r (x ∷ xs) = cond (eqb (number r) (number x)) true (among r xs)

clear_among : (f : Refusal → Bool) (rs : List Refusal) → Clear f rs → (r : Refusal) → among r rs ≡ true → f r ≡ false
unfolding among
clear_among f [] clear r e = absurd (true≢false (sym e))
clear_among f (x ∷ xs) clear r e = go (eqb (number r) (number x)) refl e (clear_among f xs clear.1 r)
  where
    go : (same : Bool) → eqb (number r) (number x) ≡ same → cond same true (among r xs) ≡ true → (among r xs ≡ true → f r ≡ false) → f r ≡ false
    go true is e' ih = ap f (sym (of_number_number r) ∙ ap of_number (eqb-true (number r) (number x) is) ∙ of_number_number x) ∙ clear.0
    go false is e' ih = ih e'

among_order : (r : Refusal) → among r order ≡ true
unfolding among
among_order unknown_kind = refl
among_order slot_out = refl
among_order value_out = refl
among_order no_mark = refl
among_order while_dead = refl
among_order marks_full = refl

-- ---- refusal
module _ (R : Rules) (S : State) (c : Call) where
  pub none_applies_not : refusal R S c ≡ none → (r : Refusal) → applies R S c r ≡ false
  unfolding refusal
  none_applies_not unrefused r = clear_among (applies R S c) order (none_clear (applies R S c) order unrefused) r (among_order r)

  pub applies_not_none : ((r : Refusal) → applies R S c r ≡ false) → refusal R S c ≡ none
  unfolding refusal
  applies_not_none each = clear_none (applies R S c) order (all_clear (applies R S c) order each)
