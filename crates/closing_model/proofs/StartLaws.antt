-- The laws of `specs/Start.antt`. No contract cites this file. `start_lowers_none`, `start_uppers_none`: the tables of no rows;
-- `start_lowers_more`, `start_uppers_more`: one more row raises the lower, and lowers the upper, at its own place and nowhere else.
-- Assumes nothing.
use mathlib.Core.Path.{◌≡◌, refl, sym, ap₂, ◌∙◌}
use mathlib.Core.Bool.{Bool, true, false, cond}
use mathlib.Core.Logic.{dite}
use mathlib.Core.List.{List, [], ◌∷◌, ◌++◌}
use Prim.Native.Nat.{ℕ, ◌+◌, ◌/◌, ◌%◌, ◌≤◌, ◌<◌, min, max}
use native.Mathlib.Decide.{ℕ_discrete}
use native.Mathlib.Omega.{arith}
use lib.Dec.{ltb}
use lib.ListN.{length, get_or, set}
use lib.Seq.{ext_get_or}
use borrow.Author.Tests.{eq-eqb, ne_eqb}
use Rattle.book.specs.declared.Row.{Row}
use Rattle.book.proofs.LayoutLaws.{length_list_of, get_d_list_of}
use Rattle.closing_model.specs.Table.{size, place}
use Rattle.closing_model.specs.Start.{speaks, low_of, high_of, start_lowers, start_uppers}
use Rattle.closing_model.specs.Sweep.{raised, lowered}
use Rattle.closing_model.proofs.PlaceLaws.{place_below, place_value, place_prefix, place_of}
use Rattle.closing_model.proofs.StoreLaws.{stored_length, stored_other, raised_same, lowered_same}

-- ---- speaks
module _ (n k : ℕ) (r : Row) (p : ℕ) (inside : p < size n k) where
  -- a row speaks of its own place
  speaks_same : r.end ≤ n → p ≡ place n r.value r.end → speaks r (p / (n + 1)) (p % (n + 1)) ≡ true
  speaks_same end≤n own =
      rw (own, place_value n r.value r.end end≤n, place_prefix n r.value r.end end≤n, eq-eqb r.value r.value refl) (eq-eqb r.end r.end refl)

  -- and of no other
  speaks_other : (p ≡ place n r.value r.end → ⊥) → speaks r (p / (n + 1)) (p % (n + 1)) ≡ false
  speaks_other other = go (ℕ_discrete r.value (p / (n + 1))) (ℕ_discrete r.end (p % (n + 1)))
    where
      go : Dec (r.value ≡ p / (n + 1)) → Dec (r.end ≡ p % (n + 1)) → speaks r (p / (n + 1)) (p % (n + 1)) ≡ false
      go (yes e) (yes e') = absurd (other (sym (ap₂ (λ (v t : ℕ). place n v t) e e' ∙ place_of n k p inside)))
      go (yes e) (no ne) = rw (eq-eqb r.value (p / (n + 1)) e) (ne_eqb r.end (p % (n + 1)) ne)
      go (no ne) d = rw (ne_eqb r.value (p / (n + 1)) ne)

-- ---- low_of, high_of
-- two rows change places: one law for both bounds
swap : (f : ℕ → ℕ → ℕ) (a b : Bool) (x y z : ℕ) → f x (f y z) ≡ f y (f x z)
    → cond a (f x (cond b (f y z) z)) (cond b (f y z) z) ≡ cond b (f y (cond a (f x z) z)) (cond a (f x z) z)
swap f true true x y z e = e
swap f true false x y z e = refl
swap f false true x y z e = refl
swap f false false x y z e = refl

-- a row counts the same at either end of the list
pub low_of_last : (rs : List Row) (r : Row) (v t : ℕ) → low_of (rs ++ (r ∷ [])) v t ≡ low_of (r ∷ rs) v t
unfolding low_of
low_of_last [] r v t = refl
low_of_last (q ∷ rs) r v t = rw (low_of_last rs r v t) (swap max (speaks q v t) (speaks r v t) q.lower r.lower (low_of rs v t) (omega arith))

pub high_of_last : (rs : List Row) (r : Row) (v t : ℕ) → high_of (rs ++ (r ∷ [])) v t ≡ high_of (r ∷ rs) v t
unfolding high_of
high_of_last [] r v t = refl
high_of_last (q ∷ rs) r v t = rw (high_of_last rs r v t) (swap min (speaks q v t) (speaks r v t) q.upper r.upper (high_of rs v t) (omega arith))

-- ---- start_lowers, start_uppers
pub start_lowers_length : (n k : ℕ) (rs : List Row) → length (start_lowers n k rs) ≡ size n k
unfolding start_lowers
start_lowers_length n k rs = length_list_of (size n k) _

pub start_uppers_length : (n k : ℕ) (rs : List Row) → length (start_uppers n k rs) ≡ size n k
unfolding start_uppers
start_uppers_length n k rs = length_list_of (size n k) _

pub start_lowers_at : (n k : ℕ) (rs : List Row) (p : ℕ) → p < size n k → get_or (start_lowers n k rs) p 0 ≡ low_of rs (p / (n + 1)) (p % (n + 1))
unfolding start_lowers
start_lowers_at n k rs p inside = get_d_list_of (size n k) _ p 0 inside

pub start_uppers_at : (n k : ℕ) (rs : List Row) (p : ℕ) → p < size n k → get_or (start_uppers n k rs) p 0 ≡ high_of rs (p / (n + 1)) (p % (n + 1))
unfolding start_uppers
start_uppers_at n k rs p inside = get_d_list_of (size n k) _ p 0 inside

-- with no rows every lower is 0 and every upper the prefix length
pub start_lowers_none : (n k : ℕ) (p : ℕ) → p < size n k → get_or (start_lowers n k []) p 0 ≡ 0
unfolding low_of
start_lowers_none n k p inside = start_lowers_at n k [] p inside

pub start_uppers_none : (n k : ℕ) (p : ℕ) → p < size n k → get_or (start_uppers n k []) p 0 ≡ p % (n + 1)
unfolding high_of
start_uppers_none n k p inside = start_uppers_at n k [] p inside

module _ (n k : ℕ) (r : Row) (value<k : r.value < k) (end≤n : r.end ≤ n) where
  -- one law for both bounds: a list l' that differs from l only where the row speaks is l after the store
  row_stored : (f : ℕ → ℕ → ℕ) (b : Bool) (l l' : List ℕ) (x : ℕ) → length l ≡ size n k → length l' ≡ size n k
      → ((p : ℕ) → p < size n k → get_or l' p 0 ≡ cond (speaks r (p / (n + 1)) (p % (n + 1))) (f x (get_or l p 0)) (get_or l p 0))
      → get_or (cond b (set l (place n r.value r.end) x) l) (place n r.value r.end) 0 ≡ f x (get_or l (place n r.value r.end) 0)
      → l' ≡ cond b (set l (place n r.value r.end) x) l
  row_stored f b l l' x long long' spoken stored = ext_get_or 0 l' _ (long' ∙ sym (stored_length b l q x ∙ long)) (λ p below. each p (rw long' at below))
    where
      q : ℕ
      q = place n r.value r.end

      each : (p : ℕ) → p < size n k → get_or l' p 0 ≡ get_or (cond b (set l q x) l) p 0
      each p inside =
          spoken p inside
          ∙ dite (ℕ_discrete p q) (λ own. rw (speaks_same n k r p inside end≤n own, own) (sym stored))
          (λ other. rw (speaks_other n k r p inside other) (sym (stored_other b l q x p other)))

  module _ (rs : List Row) where
    pub start_lowers_more : start_lowers n k (rs ++ (r ∷ [])) ≡ raised (start_lowers n k rs) (place n r.value r.end) r.lower
    unfolding low_of
    start_lowers_more =
        row_stored max (ltb (get_or (start_lowers n k rs) (place n r.value r.end) 0) r.lower) (start_lowers n k rs) (start_lowers n k (rs ++ (r ∷ []))) r.lower (start_lowers_length n k rs) (start_lowers_length n k (rs ++ (r ∷ [])))
        (λ p inside. start_lowers_at n k (rs ++ (r ∷ [])) p inside ∙ low_of_last rs r (p / (n + 1)) (p % (n + 1)) ∙ rw (start_lowers_at n k rs p inside))
        (raised_same (start_lowers n k rs) _ r.lower (omega (arith, start_lowers_length n k rs, place_below n k r.value r.end value<k end≤n)))

    pub start_uppers_more : start_uppers n k (rs ++ (r ∷ [])) ≡ lowered (start_uppers n k rs) (place n r.value r.end) r.upper
    unfolding high_of
    start_uppers_more =
        row_stored min (ltb r.upper (get_or (start_uppers n k rs) (place n r.value r.end) 0)) (start_uppers n k rs) (start_uppers n k (rs ++ (r ∷ []))) r.upper (start_uppers_length n k rs) (start_uppers_length n k (rs ++ (r ∷ [])))
        (λ p inside. start_uppers_at n k (rs ++ (r ∷ [])) p inside ∙ high_of_last rs r (p / (n + 1)) (p % (n + 1)) ∙ rw (start_uppers_at n k rs p inside))
        (lowered_same (start_uppers n k rs) _ r.upper (omega (arith, start_uppers_length n k rs, place_below n k r.value r.end value<k end≤n)))
