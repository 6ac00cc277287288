-- The laws of `raised`, `lowered`, `weigh` and `slack` of `specs/Sweep.antt`: what a store does to a list. No contract cites this file.
-- Both stores are `cond b (set l q x) l` with a test b, and each `stored-` law speaks of that. `set_tightens`, `set_keeps`: where the bounds
-- get tighter, by an order that is ≤ for lowers and ≥ for uppers. `weigh_set` is the measure's law.
-- Assumes nothing.
use mathlib.Core.Path.{◌≡◌, refl, sym, subst, subst⁻¹}
use mathlib.Core.Bool.{Bool, true, false, cond}
use mathlib.Core.List.{List, [], ◌∷◌}
use Prim.Native.Nat.{ℕ, zero, suc, ◌+◌, ◌<◌, min, max}
use native.Mathlib.Nat.{le_of_suc-le-suc, not-suc-le-zero}
use native.Mathlib.Decide.{ℕ_discrete}
use native.Mathlib.Omega.{arith}
use lib.Dec.{ltb}
use lib.ListN.{length, get_or, set, length-set}
use lib.Seq.{get_or-set_same, get_or-set_other, set-get_or}
use borrow.Author.Tests.{ltb-true, ltb-false}
use Rattle.closing_model.specs.Sweep.{raised, lowered, weigh}

-- ---- a store
pub stored_length : (b : Bool) (l : List ℕ) (q x : ℕ) → length (cond b (set l q x) l) ≡ length l
stored_length true l q x = length-set l q x
stored_length false l q x = refl

pub stored_same : (b : Bool) (l : List ℕ) (q x : ℕ) → q < length l → get_or (cond b (set l q x) l) q 0 ≡ cond b x (get_or l q 0)
stored_same true l q x inside = get_or-set_same l q x 0 inside
stored_same false l q x inside = refl

pub stored_other : (b : Bool) (l : List ℕ) (q x p : ℕ) → (p ≡ q → ⊥) → get_or (cond b (set l q x) l) p 0 ≡ get_or l p 0
stored_other true l q x p p≢q = get_or-set_other l q p x 0 p≢q
stored_other false l q x p p≢q = refl

-- what holds of the stored number, and held of the entry at p, holds of the entry at p after the store
set_case : (C : ℕ → Type 0) (l : List ℕ) (q p x : ℕ) → q < length l → (p ≡ q → C x) → C (get_or l p 0) → C (get_or (set l q x) p 0)
set_case C l q p x inside new old = go (ℕ_discrete p q)
  where
    go : Dec (p ≡ q) → C (get_or (set l q x) p 0)
    go (yes e) = subst (λ (j : ℕ). C (get_or (set l q x) j 0)) (sym e) (subst⁻¹ C (get_or-set_same l q x 0 inside) (new e))
    go (no ne) = subst⁻¹ C (get_or-set_other l q p x 0 ne) old

-- for both bounds, with the order in which theirs get tighter
module _ (R : ℕ → ℕ → Type 0) (l : List ℕ) (q x : ℕ) (inside : q < length l) where
  pub set_tightens : ((y : ℕ) → R y y) → R (get_or l q 0) x → (p : ℕ) → R (get_or l p 0) (get_or (set l q x) p 0)
  set_tightens reflexive tighter p = set_case (λ y. R (get_or l p 0) y) l q p x inside (λ same. rw same tighter) (reflexive _)

  pub set_keeps : (f : ℕ → ℕ) → R x (f q) → (p : ℕ) → R (get_or l p 0) (f p) → R (get_or (set l q x) p 0) (f p)
  set_keeps f demanded p before = set_case (λ y. R y (f p)) l q p x inside (λ same. rw same demanded) before

-- ---- raised, lowered
pub raised_same : (l : List ℕ) (q x : ℕ) → q < length l → get_or (raised l q x) q 0 ≡ max x (get_or l q 0)
raised_same l q x inside = rw (stored_same (ltb (get_or l q 0) x) l q x inside) (go (ltb (get_or l q 0) x) refl)
  where
    go : (b : Bool) → ltb (get_or l q 0) x ≡ b → cond b x (get_or l q 0) ≡ max x (get_or l q 0)
    go true e = omega (arith, ltb-true (get_or l q 0) x e)
    go false e = omega (arith, ltb-false (get_or l q 0) x e)

pub lowered_same : (l : List ℕ) (q x : ℕ) → q < length l → get_or (lowered l q x) q 0 ≡ min x (get_or l q 0)
lowered_same l q x inside = rw (stored_same (ltb x (get_or l q 0)) l q x inside) (go (ltb x (get_or l q 0)) refl)
  where
    go : (b : Bool) → ltb x (get_or l q 0) ≡ b → cond b x (get_or l q 0) ≡ min x (get_or l q 0)
    go true e = omega (arith, ltb-true x (get_or l q 0) e)
    go false e = omega (arith, ltb-false x (get_or l q 0) e)

-- a store of the greater of x and what stands there, or of the lesser, needs no test
set_max_raised : (l : List ℕ) (q x : ℕ) → set l q (max (get_or l q 0) x) ≡ raised l q x
set_max_raised l q x = go (ltb (get_or l q 0) x) refl
  where
    go : (b : Bool) → ltb (get_or l q 0) x ≡ b → set l q (max (get_or l q 0) x) ≡ cond b (set l q x) l
    go true e =
        let greater : max (get_or l q 0) x ≡ x = omega (arith, ltb-true (get_or l q 0) x e) in
        rw greater refl
    go false e =
        let greater : max (get_or l q 0) x ≡ get_or l q 0 = omega (arith, ltb-false (get_or l q 0) x e) in
        rw greater (set-get_or l q 0)

set_min_lowered : (l : List ℕ) (q x : ℕ) → set l q (min (get_or l q 0) x) ≡ lowered l q x
set_min_lowered l q x = go (ltb x (get_or l q 0)) refl
  where
    go : (b : Bool) → ltb x (get_or l q 0) ≡ b → set l q (min (get_or l q 0) x) ≡ cond b (set l q x) l
    go true e =
        let lesser : min (get_or l q 0) x ≡ x = omega (arith, ltb-true x (get_or l q 0) e) in
        rw lesser refl
    go false e =
        let lesser : min (get_or l q 0) x ≡ get_or l q 0 = omega (arith, ltb-false x (get_or l q 0) e) in
        rw lesser (set-get_or l q 0)

-- the same of what the code reads and stores
pub raise_made : (l : List ℕ) (q x : ℕ) {a y : ℕ} → q < length l → a ≡ get_or l q 0 → y ≡ max a x → (set l q y ≡ raised l q x) × (y ≡ get_or (set l q y) q 0)
raise_made l q x {y = y} inside a_is y_is = (rw (y_is, a_is) (set_max_raised l q x), sym (get_or-set_same l q y 0 inside))

pub lower_made : (l : List ℕ) (q x : ℕ) {a y : ℕ} → q < length l → a ≡ get_or l q 0 → y ≡ min a x → (set l q y ≡ lowered l q x) × (y ≡ get_or (set l q y) q 0)
lower_made l q x {y = y} inside a_is y_is = (rw (y_is, a_is) (set_min_lowered l q x), sym (get_or-set_same l q y 0 inside))

-- ---- weigh
pub weigh_set : (f : ℕ → ℕ) (l : List ℕ) (q x : ℕ) → q < length l → weigh f (set l q x) + f (get_or l q 0) ≡ weigh f l + f x
unfolding weigh
weigh_set f [] q x inside = absurd (not-suc-le-zero inside)
weigh_set f (y ∷ ys) zero x inside = omega arith
weigh_set f (y ∷ ys) (suc q) x inside = omega (arith, weigh_set f ys q x (le_of_suc-le-suc inside))
