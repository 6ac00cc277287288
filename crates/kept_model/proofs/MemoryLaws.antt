-- The laws of `specs/Memory.antt`, in its order: the sizes (`sizes_masks` .. `sizes_numbers`, `sized_is`), a standing in numbers and back
-- (`standing_by_number_number`), a session in numbers and back (`session_in_numbers`). No contract cites this file. Assumes nothing.
use mathlib.Core.Path.{◌≡◌, refl, sym, ap, ◌∙◌}
use mathlib.Core.Bool.{Bool, true, false, true≢false, ◌&&◌}
use mathlib.Core.List.{List, [], ◌∷◌}
use Prim.Native.Nat.{ℕ, ◌+◌, ◌*◌, ◌/◌, ◌%◌, ◌<◌}
use native.Mathlib.Nat.{mod-eq_of_lt}
use native.Mathlib.Omega.{arith}
use borrow.Author.Tests.{eqb-true, ne_eqb}
use lib.Arith.{digits_div, digits_mod}
use lib.Dec.{eqb}
use lib.ListN.{length, set}
use Rattle.acts.specs.declared.Session.{Session}
use Rattle.acts.specs.declared.Standing.{Standing}
use Rattle.acts.specs.declared.Standing.TheVariants.{OpenedDead, Live, Dead}
use Rattle.kept_model.specs.Memory.{Memory, Sized, sizes, sized, standing_number, dead_call, standing_by_number, numbers_of, session_in}

-- ---- sizes, sized
and_none_second : (a b : Bool) → b ≡ false → a && b ≡ false
and_none_second true b is = is
and_none_second false b is = refl

module _ (masks cells trail heights numbers : ℕ) where
  pub sizes_masks : (masks ≡ 256 → ⊥) → sizes masks cells trail heights numbers ≡ false
  unfolding sizes
  sizes_masks other = rw (ne_eqb masks 256 other) refl

  pub sizes_cells : (cells ≡ 16528 → ⊥) → sizes masks cells trail heights numbers ≡ false
  unfolding sizes
  sizes_cells other = and_none_second (eqb masks 256) _ (rw (ne_eqb cells 16528 other) refl)

  pub sizes_trail : (trail ≡ 25088 → ⊥) → sizes masks cells trail heights numbers ≡ false
  unfolding sizes
  sizes_trail other = and_none_second (eqb masks 256) _ (and_none_second (eqb cells 16528) _ (rw (ne_eqb trail 25088 other) refl))

  pub sizes_heights : (heights ≡ 256 → ⊥) → sizes masks cells trail heights numbers ≡ false
  unfolding sizes
  sizes_heights other =
      and_none_second (eqb masks 256) _ (and_none_second (eqb cells 16528) _ (and_none_second (eqb trail 25088) _ (rw (ne_eqb heights 256 other) refl)))

  pub sizes_numbers : masks ≡ 256 → cells ≡ 16528 → trail ≡ 25088 → heights ≡ 256 → sizes masks cells trail heights numbers ≡ eqb numbers 7
  unfolding sizes
  sizes_numbers m c t h = rw (m, c, t, h) refl

and_first : (a b : Bool) → a && b ≡ true → a ≡ true
and_first true b is = refl
and_first false b is = is

and_second : (a b : Bool) → a && b ≡ true → b ≡ true
and_second true b is = is
and_second false b is = absurd (true≢false (sym is))

pub sized_is : (at : Memory) → sized at ≡ true → Sized at
unfolding sizes
sized_is at is =
    let cells = and_second (eqb (length at.masks) 256) _ is in
    let trail = and_second (eqb (length at.cells) 16528) _ cells in
    let heights = and_second (eqb (length at.trail) 25088) _ trail in
    record {
      masks = eqb-true _ 256 (and_first (eqb (length at.masks) 256) _ is);
      cells = eqb-true _ 16528 (and_first (eqb (length at.cells) 16528) _ cells);
      trail = eqb-true _ 25088 (and_first (eqb (length at.trail) 25088) _ trail);
      heights = eqb-true _ 256 (and_first (eqb (length at.heights) 256) _ heights);
      numbers = eqb-true _ 7 (and_second (eqb (length at.heights) 256) _ heights);
    }

-- ---- standing_by_number, session_in
pub standing_by_number_live : (number call : ℕ) → number ≡ 0 → standing_by_number number call ≡ Live
unfolding standing_by_number
standing_by_number_live number call is = rw is refl

pub standing_by_number_dead : (number call : ℕ) → number ≡ 1 → standing_by_number number call ≡ Dead call
unfolding standing_by_number
standing_by_number_dead number call is = rw is refl

pub standing_by_number_shut : (number call : ℕ) → (number ≡ 0 → ⊥) → (number ≡ 1 → ⊥) → standing_by_number number call ≡ OpenedDead
unfolding standing_by_number
standing_by_number_shut number call not_0 not_1 = rw (ne_eqb number 0 not_0, ne_eqb number 1 not_1) refl

pub standing_by_number_number : (standing : Standing) → standing_by_number (standing_number standing) (dead_call standing) ≡ standing
unfolding standing_by_number
standing_by_number_number Live = refl
standing_by_number_number (Dead call) = refl
standing_by_number_number OpenedDead = refl

pub session_in_numbers : (n k made : ℕ) (session : Session) → session.top < 65536 → session.idle < 256 → session_in (numbers_of n k made session) ≡ session
session_in_numbers n k made session fits byte =
    let number = session.idle * 65536 + session.top in
    ap (λ (standing : Standing). record { standing = standing; top = number % 65536; marks = session.marks; idle = number / 65536 % 256 })
    (standing_by_number_number session.standing)
    ∙ ap (λ (x : ℕ). record { standing = session.standing; top = x; marks = session.marks; idle = number / 65536 % 256 })
    (digits_mod session.idle fits)
    ∙ ap (λ (x : ℕ). record { standing = session.standing; top = session.top; marks = session.marks; idle = x })
    (ap (λ (x : ℕ). x % 256) (digits_div session.idle fits) ∙ mod-eq_of_lt byte)

-- seven stores write the numbers
pub numbers_stored : (ns : List ℕ) (n k made number call marks top : ℕ) → length ns ≡ 7
    → set (set (set (set (set (set (set ns 6 top) 0 n) 1 k) 2 made) 3 number) 4 call) 5 marks ≡ n ∷ k ∷ made ∷ number ∷ call ∷ marks ∷ top ∷ []
numbers_stored [] n k made number call marks top long = absurd (omega (arith, long))
numbers_stored (x₀ ∷ []) n k made number call marks top long = absurd (omega (arith, long))
numbers_stored (x₀ ∷ x₁ ∷ []) n k made number call marks top long = absurd (omega (arith, long))
numbers_stored (x₀ ∷ x₁ ∷ x₂ ∷ []) n k made number call marks top long = absurd (omega (arith, long))
numbers_stored (x₀ ∷ x₁ ∷ x₂ ∷ x₃ ∷ []) n k made number call marks top long = absurd (omega (arith, long))
numbers_stored (x₀ ∷ x₁ ∷ x₂ ∷ x₃ ∷ x₄ ∷ []) n k made number call marks top long = absurd (omega (arith, long))
numbers_stored (x₀ ∷ x₁ ∷ x₂ ∷ x₃ ∷ x₄ ∷ x₅ ∷ []) n k made number call marks top long = absurd (omega (arith, long))
numbers_stored (x₀ ∷ x₁ ∷ x₂ ∷ x₃ ∷ x₄ ∷ x₅ ∷ x₆ ∷ []) n k made number call marks top long = refl
numbers_stored (x₀ ∷ x₁ ∷ x₂ ∷ x₃ ∷ x₄ ∷ x₅ ∷ x₆ ∷ x₇ ∷ ns) n k made number call marks top long = absurd (omega (arith, long))
