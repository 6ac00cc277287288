-- The laws of `Free` of `specs/Values.antt`: what it says where the answer is known (`free_no`, `free_yes`), and that a mask which has v is free where
-- it is not single (`free_single`). No contract cites this file. Assumes nothing.
use mathlib.Core.Path.{◌≡◌, sym, subst}
use mathlib.Core.Bool.{Bool, true, false, not}
use Prim.Native.Nat.{ℕ}
use borrow.Author.Tests.{eqb-true, eqb-false}
use lib.Dec.{eqb}
use lib.Count.{ones}
use Rattle.domains.specs.Mask.{Has, Fixed}
use Rattle.filter_model.proofs.StoreLaws.{single_has_fixed, many_free}
use Rattle.slots.specs.Values.{Free}

pub free_no : (m v : ℕ) {r : Bool} → r ≡ false → Free m v r → Has m v → Fixed m v
free_no m v is free = subst (λ (b : Bool). Free m v b) is free

pub free_yes : (m v : ℕ) {r : Bool} → r ≡ true → Free m v r → Has m v × (Fixed m v → ⊥)
free_yes m v is free = subst (λ (b : Bool). Free m v b) is free

-- what has v is free where it is not single
pub free_single : (m v : ℕ) (b : Bool) → Has m v → b ≡ eqb (ones m) 1 → Free m v (not b)
free_single m v true has single = λ _. single_has_fixed m v (eqb-true _ _ (sym single)) has
free_single m v false has many = (has, many_free m (eqb-false _ _ (sym many)) v)
