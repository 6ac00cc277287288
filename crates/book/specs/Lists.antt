-- What holds of the elements of a list.
--   All C xs    C holds of each element of xs
--   Any C xs    C holds of some element of xs
-- Assumes nothing.
use Rattle.std.specs.Prelude.{◌⊎◌, List, [], ◌∷◌}

abbrev pub All : {A : Type 0} → (A → Type 0) → List A → Type 0
All C [] = Unit {0}
All C (x ∷ xs) = C x × All C xs

abbrev pub Any : {A : Type 0} → (A → Type 0) → List A → Type 0
Any C [] = ⊥
Any C (x ∷ xs) = C x ⊎ Any C xs
