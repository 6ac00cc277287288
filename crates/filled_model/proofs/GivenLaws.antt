-- The laws of `specs/Given.antt`: what rows give at a place is what a row there has, or nothing (`given_source`); it is inside each of theirs (`row_given`),
-- and what is inside all of theirs is inside it (`inside_rows`). `start_given`: the starting table, entry by entry. No contract cites this file. Assumes
-- nothing.
use mathlib.Core.Path.{◌≡◌, refl, sym, ap₂, ◌∙◌, subst⁻¹}
use mathlib.Core.Bool.{Bool, true, false, cond, and-eq-true_iff}
use mathlib.Core.Logic.{inl, inr, dite}
use mathlib.Core.List.{List, [], ◌∷◌, ◌++◌}
use Prim.Native.Nat.{ℕ, ◌≤◌, ◌<◌}
use native.Mathlib.Decide.{ℕ_discrete}
use native.Mathlib.Omega.{arith}
use lib.Dec.{eqb}
use borrow.Author.Tests.{eq-eqb, eqb-true}
use Rattle.book.specs.declared.Row.{Row}
use Rattle.book.specs.Lists.{All, Any}
use Rattle.closing_model.specs.Table.{place}
use Rattle.closing_model.specs.Corners.{bound_line}
use Rattle.closing_model.specs.Start.{speaks, low_of, high_of}
use Rattle.closing_model.proofs.PlaceLaws.{place_below, place_value, place_prefix}
use Rattle.closing_model.proofs.StartLaws.{start_lowers_at, start_uppers_at}
use Rattle.filled_model.specs.Filled.{Inside}
use Rattle.filled_model.specs.Filling.{tighter}
use Rattle.filled_model.specs.Given.{side_of, unbound, given_by, start_of, Placed, Gives}
use Rattle.filled_model.proofs.FillingLaws.{inside_same, inside_trans, inside_of}

-- ---- Any
module _ {A : Type 0} (C : A → Type 0) where
  pub any_left : (xs ys : List A) → Any C xs → Any C (xs ++ ys)
  any_left [] ys any = absurd any
  any_left (x ∷ xs) ys (inl here) = inl here
  any_left (x ∷ xs) ys (inr later) = inr (any_left xs ys later)

  pub any_right : (xs ys : List A) → Any C ys → Any C (xs ++ ys)
  any_right [] ys any = any
  any_right (x ∷ xs) ys any = inr (any_right xs ys any)

  pub any_map : (D : A → Type 0) → ((x : A) → C x → D x) → (xs : List A) → Any C xs → Any D xs
  any_map D f [] any = absurd any
  any_map D f (x ∷ xs) (inl here) = inl (f x here)
  any_map D f (x ∷ xs) (inr later) = inr (any_map D f xs later)

-- ---- Gives
pub gives_map : (C D : Row → Type 0) (rs : List Row) (v t : ℕ) → ((r : Row) → C r → D r) → Gives C rs v t → Gives D rs v t
gives_map C D rs v t f = any_map (Placed C v t) (Placed D v t) (λ r found. record { value = found.value; end = found.end; has = f r found.has }) rs

-- ---- speaks
pub speaks_at : (r : Row) (v t : ℕ) → r.value ≡ v → r.end ≡ t → speaks r v t ≡ true
speaks_at r v t value end = rw (eq-eqb r.value v value) (eq-eqb r.end t end)

pub at_speaks : (r : Row) (v t : ℕ) → speaks r v t ≡ true → (r.value ≡ v) × (r.end ≡ t)
at_speaks r v t says =
    let both = (and-eq-true_iff (eqb r.value v) (eqb r.end t)).0 says in
    (eqb-true r.value v both.0, eqb-true r.end t both.1)

-- ---- tighter
tighter_inside : (kind : Bool) (x y z : ℕ) → Inside kind x y → Inside kind x z → Inside kind x (tighter kind y z)
tighter_inside true x y z one other = omega arith
tighter_inside false x y z one other = omega arith

tighter_first : (kind : Bool) (x y : ℕ) → Inside kind (tighter kind x y) x
tighter_first true x y = omega arith
tighter_first false x y = omega arith

tighter_second : (kind : Bool) (x y : ℕ) → Inside kind (tighter kind x y) y
tighter_second true x y = omega arith
tighter_second false x y = omega arith

tighter_other : (kind : Bool) (x y : ℕ) → (tighter kind x y ≡ x → ⊥) → tighter kind x y ≡ y
tighter_other true x y other = omega arith
tighter_other false x y other = omega arith

-- ---- given_by
given_more : (kind : Bool) (r : Row) (rs : List Row) (v t : ℕ)
    → given_by kind (r ∷ rs) v t ≡ cond (speaks r v t) (tighter kind (side_of kind r) (given_by kind rs v t)) (given_by kind rs v t)
unfolding low_of high_of
given_more true r rs v t = refl
given_more false r rs v t = refl

given_none : (kind : Bool) (v t : ℕ) → given_by kind [] v t ≡ unbound kind t
unfolding low_of high_of
given_none true v t = refl
given_none false v t = refl

module _ (kind : Bool) (v t : ℕ) where
  pub inside_rows : (x : ℕ) → Inside kind x (unbound kind t) → (rs : List Row) → All (λ r. speaks r v t ≡ true → Inside kind x (side_of kind r)) rs
      → Inside kind x (given_by kind rs v t)
  inside_rows x start [] all = inside_of kind refl (sym (given_none kind v t)) start
  inside_rows x start (r ∷ rs) all = inside_of kind refl (sym (given_more kind r rs v t)) (go (speaks r v t) all.0 (inside_rows x start rs all.1))
    where
      go : (says : Bool) → (says ≡ true → Inside kind x (side_of kind r)) → Inside kind x (given_by kind rs v t)
          → Inside kind x (cond says (tighter kind (side_of kind r) (given_by kind rs v t)) (given_by kind rs v t))
      go true here rest = tighter_inside kind x (side_of kind r) (given_by kind rs v t) (here refl) rest
      go false here rest = rest

  -- each row makes it tighter
  given_tighter : (r : Row) (rs : List Row) → Inside kind (given_by kind (r ∷ rs) v t) (given_by kind rs v t)
  given_tighter r rs = inside_of kind (sym (given_more kind r rs v t)) refl (go (speaks r v t))
    where
      go : (says : Bool) → Inside kind (cond says (tighter kind (side_of kind r) (given_by kind rs v t)) (given_by kind rs v t)) (given_by kind rs v t)
      go true = tighter_second kind (side_of kind r) (given_by kind rs v t)
      go false = inside_same kind refl

  pub row_given : (x : ℕ) (rs : List Row) → Gives (λ r. Inside kind (side_of kind r) x) rs v t → Inside kind (given_by kind rs v t) x
  row_given x [] any = absurd any
  row_given x (r ∷ rs) (inl here) =
      inside_of kind (sym (given_more kind r rs v t)) refl
      (rw (speaks_at r v t here.value here.end)
      (inside_trans kind (tighter kind (side_of kind r) (given_by kind rs v t)) (side_of kind r) x
      (tighter_first kind (side_of kind r) (given_by kind rs v t)) here.has))
  row_given x (r ∷ rs) (inr later) = inside_trans kind (given_by kind (r ∷ rs) v t) (given_by kind rs v t) x (given_tighter r rs) (row_given x rs later)

  -- what is given is a row's, or what stands where no row speaks
  pub given_source : (rs : List Row) → (given_by kind rs v t ≡ unbound kind t → ⊥) → Gives (λ r. side_of kind r ≡ given_by kind rs v t) rs v t
  given_source [] bound = absurd (bound (given_none kind v t))
  given_source (r ∷ rs) bound =
      subst⁻¹ (λ (x : ℕ). Gives (λ q. side_of kind q ≡ x) (r ∷ rs) v t) (given_more kind r rs v t)
      (go (speaks r v t) refl (λ none. bound (given_more kind r rs v t ∙ none)) (given_source rs))
    where
      g : ℕ
      g = given_by kind rs v t

      go : (says : Bool) → speaks r v t ≡ says → (cond says (tighter kind (side_of kind r) g) g ≡ unbound kind t → ⊥)
          → ((g ≡ unbound kind t → ⊥) → Gives (λ q. side_of kind q ≡ g) rs v t)
          → Gives (λ q. side_of kind q ≡ cond says (tighter kind (side_of kind r) g) g) (r ∷ rs) v t
      go true says bound rest =
          dite (ℕ_discrete (tighter kind (side_of kind r) g) (side_of kind r))
          (λ own. inl (record { value = (at_speaks r v t says).0; end = (at_speaks r v t says).1; has = sym own }))
          (λ other.
          let is = tighter_other kind (side_of kind r) g other in
          inr (gives_map (λ q. side_of kind q ≡ g) (λ q. side_of kind q ≡ tighter kind (side_of kind r) g) rs v t (λ q has. has ∙ sym is)
          (rest (λ none. bound (is ∙ none)))))
      go false says bound rest = inr (rest bound)

-- ---- start_of
pub start_given : (kind : Bool) (n k : ℕ) (rs : List Row) (v t : ℕ) → v < k → t ≤ n → bound_line kind n (start_of n k rs) v t ≡ given_by kind rs v t
start_given true n k rs v t v<k t≤n =
    start_lowers_at n k rs (place n v t) (place_below n k v t v<k t≤n) ∙ ap₂ (low_of rs) (place_value n v t t≤n) (place_prefix n v t t≤n)
start_given false n k rs v t v<k t≤n =
    start_uppers_at n k rs (place n v t) (place_below n k v t v<k t≤n) ∙ ap₂ (high_of rs) (place_value n v t t≤n) (place_prefix n v t t≤n)
