-- Outcomes of calls, and the numbers that stand for them.
--   height_of, is_dead, Lived   the trail's height after a call; whether it is Dead; that it is Live
--   outcome_of code            the outcome that a number stands for: the height is half of it, and an odd one is Dead
-- Assumes nothing.
use Rattle.std.specs.Prelude.{Bool, true, false, cond, ℕ, ◌/◌, ◌%◌, eqb}
use Rattle.outcomes.specs.declared.Outcome.{Outcome}
use Rattle.outcomes.specs.declared.Outcome.TheVariants.{Live, Dead}

abbrev pub height_of : Outcome → ℕ
height_of (Live h) = h
height_of (Dead h) = h

abbrev pub is_dead : Outcome → Bool
is_dead (Live h) = false
is_dead (Dead h) = true

abbrev pub Lived : Outcome → Type 0
Lived (Live h) = Unit {0}
Lived (Dead h) = ⊥

unfoldable pub outcome_of : ℕ → Outcome
outcome_of code = cond (eqb (code % 2) 1) (Dead (code / 2)) (Live (code / 2))
