-- The laws of `bound_at` and `table_bounds` of `specs/Stable.antt`: stability for a table. No contract cites this file. The ones that matter
-- most: `stable_keeps` and `keeps_stable` (document 01's "for every v and every t from 1 to n"), `table_bounds_same` (tables that agree have
-- the same bounds), `low_broken` and `high_broken` (a bound that is broken leaves nothing to keep).
-- Assumes nothing.
use mathlib.Core.Path.{◌≡◌, refl, ap₂}
use mathlib.Core.Logic.{dite}
use mathlib.Core.List.{List, ◌∷◌, ◌++◌}
use Prim.Native.Nat.{ℕ, zero, suc, ◌≤◌, ◌<◌}
use native.Mathlib.Nat.{le_refl, le_antisymm}
use native.Mathlib.Decide.{ℕ_discrete}
use native.Mathlib.Omega.{arith}
use Rattle.domains.specs.Masks.{Alive}
use Rattle.domains.specs.Counts.{count_has, count_fixed}
use Rattle.closing_model.specs.Table.{Table, Within, size, place}
use Rattle.closing_model.proofs.PlaceLaws.{place_below}
use Rattle.closing_model.proofs.TableLaws.{within_fewer}
use Rattle.book.specs.Lists.{All}
use Rattle.settling_model.specs.Stable.{Bound, Keeps, Stable, Unstable, bound_at, line_bounds, table_bounds}
use Rattle.settling_model.proofs.StableLaws.{keeps_unbroken, all_append, append_all}

-- ---- line_bounds, table_bounds
-- C holds of each bound of a table exactly where it holds for every value below k and every end from 1 to n
module _ (n : ℕ) (T : Table) (C : Bound → Type 0) where
  line_all : (v e : ℕ) → e ≤ n → ((t : ℕ) → 0 < t → t ≤ n → C (bound_at n T v t)) → All C (line_bounds n T v e)
  unfolding line_bounds
  line_all v zero e≤n each = tt
  line_all v (suc e) e≤n each = (each (suc e) (omega arith) e≤n, line_all v e (omega arith) each)

  all_line : (v e : ℕ) → All C (line_bounds n T v e) → (t : ℕ) → 0 < t → t ≤ e → C (bound_at n T v t)
  unfolding line_bounds
  all_line v zero all t 0<t t≤e = absurd (omega arith)
  all_line v (suc e) all t 0<t t≤e =
      dite (ℕ_discrete t (suc e)) (λ last. rw last all.0) (λ before. all_line v e all.1 t 0<t (omega arith))

  pub table_all : (k : ℕ) → ((v t : ℕ) → v < k → 0 < t → t ≤ n → C (bound_at n T v t)) → All C (table_bounds n k T)
  unfolding table_bounds
  table_all zero each = tt
  table_all (suc k) each =
      all_append C (line_bounds n T k n) (table_bounds n k T) (line_all k n (le_refl n) (λ t. each k t (omega arith)))
      (table_all k (λ v t v<k. each v t (omega arith)))

  pub all_table : (k : ℕ) → All C (table_bounds n k T) → (v t : ℕ) → v < k → 0 < t → t ≤ n → C (bound_at n T v t)
  unfolding table_bounds
  all_table zero all v t v<k 0<t t≤n = absurd (omega arith)
  all_table (suc k) all v t v<k 0<t t≤n =
      let both = append_all C (line_bounds n T k n) (table_bounds n k T) all in
      dite (ℕ_discrete v k) (λ last. rw last (all_line k n both.0 t 0<t t≤n)) (λ before. all_table k both.1 v t (omega arith) 0<t t≤n)

-- tables that lie within one another have the same bounds
module _ (n : ℕ) (A B : Table) where
  line_same : (v : ℕ) → ((t : ℕ) → t ≤ n → bound_at n A v t ≡ bound_at n B v t)
      → (e : ℕ) → e ≤ n → line_bounds n A v e ≡ line_bounds n B v e
  unfolding line_bounds
  line_same v same zero e≤n = refl
  line_same v same (suc e) e≤n = ap₂ ◌∷◌ (same (suc e) e≤n) (line_same v same e (omega arith))

  pub table_bounds_same : (k : ℕ) → Within (size n k) A B → Within (size n k) B A → table_bounds n k A ≡ table_bounds n k B
  unfolding table_bounds
  table_bounds_same zero A⊇B B⊇A = refl
  table_bounds_same (suc k) A⊇B B⊇A =
      ap₂ ◌++◌
      (line_same k
      (λ t t≤n i.
      let inside = place_below n (suc k) k t (le_refl _) t≤n in
      record {
        value = k;
        end = t;
        lower = le_antisymm (A⊇B.lowers _ inside) (B⊇A.lowers _ inside) i;
        upper = le_antisymm (B⊇A.uppers _ inside) (A⊇B.uppers _ inside) i;
      })
      n (le_refl n))
      (table_bounds_same k (within_fewer (omega arith) A⊇B) (within_fewer (omega arith) B⊇A))

-- ---- Stable, for a table
module _ (n k : ℕ) (T : Table) (M : List ℕ) where
  pub stable_keeps : Stable (table_bounds n k T) M → (v t : ℕ) → v < k → 0 < t → t ≤ n → Keeps (bound_at n T v t) M
  stable_keeps stable = all_table n T (λ b. Keeps b M) k stable.keeps

  pub keeps_stable : Alive M → ((v t : ℕ) → v < k → 0 < t → t ≤ n → Keeps (bound_at n T v t) M) → Stable (table_bounds n k T) M
  keeps_stable alive each = record { alive = alive; keeps = table_all n T (λ b. Keeps b M) k each }

  -- a bound that is broken leaves nothing to keep
  module _ (v t : ℕ) (v<k : v < k) (0<t : 0 < t) (t≤n : t ≤ n) where
    pub low_broken : count_has M v t < T.lower (place n v t) → Unstable (table_bounds n k T) M
    low_broken few N stable N⊆M =
        omega (arith, (keeps_unbroken stable.alive (all_table n T (λ b. Keeps b N) k stable.keeps v t v<k 0<t t≤n) N⊆M).low)

    pub high_broken : T.upper (place n v t) < count_fixed M v t → Unstable (table_bounds n k T) M
    high_broken many N stable N⊆M =
        omega (arith, (keeps_unbroken stable.alive (all_table n T (λ b. Keeps b N) k stable.keeps v t v<k 0<t t≤n) N⊆M).high)
