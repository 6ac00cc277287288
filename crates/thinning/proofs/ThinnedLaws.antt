-- The laws of `specs/Thinned.antt`: what each answer says where it is known (`thinned_clash`, `thinned_made`).
-- No contract cites this file. Assumes nothing.
use mathlib.Core.Path.{◌≡◌, subst}
use mathlib.Core.Bool.{Bool, true, false}
use mathlib.Core.List.{List}
use Prim.Native.Nat.{ℕ}
use Rattle.filter_model.specs.State.{Contradicted, Removed}
use Rattle.thinning.specs.Thinned.{Thinned}

module _ (n k : ℕ) (m c t : List ℕ) (top : ℕ) (m' c' t' : List ℕ) (slot v x a : ℕ) {clash : Bool}
    (thinned : Thinned n k m c t top m' c' t' slot v x a clash) where
  pub thinned_clash : clash ≡ true → Contradicted n k m c t m' c' t' slot v
  thinned_clash is = subst (λ (b : Bool). Thinned n k m c t top m' c' t' slot v x a b) is thinned

  pub thinned_made : clash ≡ false → Removed n k m c t top m' c' t' slot v x a 0 0 0
  thinned_made is = subst (λ (b : Bool). Thinned n k m c t top m' c' t' slot v x a b) is thinned
