-- The laws of `specs/Codes.antt`: the flag and the height of a number (`code_flag`, `code_height`), the number of an outcome (`code_live`,
-- `code_dead`), and what is known of an outcome by its flag (`live_is`, `dead_not_lived`). No contract cites this file. Assumes nothing.
use mathlib.Core.Path.{◌≡◌, refl, sym, ◌∙◌, ap}
use mathlib.Core.Bool.{Bool, true, false, true≢false, cond}
use Prim.Native.Nat.{ℕ, ◌+◌, ◌*◌, ◌/◌, ◌%◌}
use native.Mathlib.Omega.{arith}
use lib.Dec.{eqb}
use borrow.Author.Tests.{eq-eqb, ne_eqb}
use Rattle.outcomes.specs.Codes.{height_of, is_dead, Lived, outcome_of}
use Rattle.outcomes.specs.declared.Outcome.{Outcome}
use Rattle.outcomes.specs.declared.Outcome.TheVariants.{Live, Dead}

-- ---- outcome_of
pub code_flag : (code : ℕ) → eqb (code % 2) 1 ≡ is_dead (outcome_of code)
unfolding outcome_of
code_flag code = go (eqb (code % 2) 1)
  where
    go : (odd : Bool) → odd ≡ is_dead (cond odd (Dead (code / 2)) (Live (code / 2)))
    go true = refl
    go false = refl

pub code_height : (code : ℕ) → code / 2 ≡ height_of (outcome_of code)
unfolding outcome_of
code_height code = go (eqb (code % 2) 1)
  where
    go : (odd : Bool) → code / 2 ≡ height_of (cond odd (Dead (code / 2)) (Live (code / 2)))
    go true = refl
    go false = refl

pub code_is : (code : ℕ) (odd : Bool) → eqb (code % 2) 1 ≡ odd → outcome_of code ≡ cond odd (Dead (code / 2)) (Live (code / 2))
unfolding outcome_of
code_is code odd is = ap (λ (b : Bool). cond b (Dead (code / 2)) (Live (code / 2))) is

pub code_live : (h : ℕ) → outcome_of (2 * h) ≡ Live h
code_live h =
    let half : 2 * h / 2 ≡ h = omega arith in
    code_is (2 * h) false (ne_eqb (2 * h % 2) 1 (λ odd. absurd (omega (arith, odd)))) ∙ ap Live half

pub code_dead : (h : ℕ) → outcome_of (2 * h + 1) ≡ Dead h
code_dead h =
    let half : (2 * h + 1) / 2 ≡ h = omega arith in
    let odd : (2 * h + 1) % 2 ≡ 1 = omega arith in
    code_is (2 * h + 1) true (eq-eqb ((2 * h + 1) % 2) 1 odd) ∙ ap Dead half

-- ---- is_dead
pub live_is : (o : Outcome) → is_dead o ≡ false → o ≡ Live (height_of o)
live_is (Live h) live = refl
live_is (Dead h) live = absurd (true≢false live)

pub dead_not_lived : (o : Outcome) → is_dead o ≡ true → Lived o → ⊥
dead_not_lived (Live h) dead lived = absurd (true≢false (sym dead))
dead_not_lived (Dead h) dead lived = lived
