-- The laws of `specs/Told.antt`: what it says where the answer is known. No contract cites this file. Assumes nothing.
use mathlib.Core.Path.{◌≡◌, subst}
use mathlib.Core.Bool.{Bool, true, false}
use mathlib.Core.List.{List}
use Prim.Native.Nat.{ℕ, ◌≤◌, ◌<◌}
use Rattle.descents.specs.Told.{Told}

module _ (slot z : ℕ) (c c' : List ℕ) {clash : Bool} (told : Told slot z c c' clash) where
  pub told_clash : clash ≡ true → (slot < z) × (c' ≡ c)
  told_clash is = subst (λ (b : Bool). Told slot z c c' b) is told

  pub told_free : clash ≡ false → z ≤ slot
  told_free is = subst (λ (b : Bool). Told slot z c c' b) is told
