-- The laws of `singles` and `Plan` of `specs/Plans.antt`: no plan is lost. A plan's own counts are a closed table within the starting table
-- of the rows, so the loosest one holds them (`plan_within`); so the plan as single masks is stable (`plan_stable`) and lies within the
-- largest stable list (`plan_largest`). Where no table is closed or no list is stable there is no plan (`none_closed_no_plan`,
-- `unstable_no_plan`). No contract cites this file. Assumes nothing.
use mathlib.Core.Path.{◌≡◌, refl, sym, ap, ◌∙◌}
use mathlib.Core.Logic.{dite}
use mathlib.Core.List.{List, [], ◌∷◌}
use Prim.Native.Nat.{ℕ, zero, suc, ◌^◌, ◌≤◌, ◌<◌, zero-le}
use native.Mathlib.Decide.{ℕ_discrete, dec_lt}
use native.Mathlib.Nat.{le_of_eq}
use native.Mathlib.Omega.{arith}
use lib.Pow.{pow_pos}
use lib.ListN.{length, get_or, get_or-eq_default}
use Rattle.domains.specs.Mask.{test_bit}
use Rattle.domains.specs.Masks.{HasAt, Alive, Subset}
use Rattle.domains.specs.Counts.{only, count_has, count_fixed}
use Rattle.domains.proofs.MaskLaws.{test_bit_lt, test_bit_empty, test_bit_fixed_same, test_bit_fixed_other}
use Rattle.domains.proofs.CountsLaws.{count_ext, only_fixed, only_free}
use Rattle.book.specs.declared.Row.{Row}
use Rattle.closing_model.specs.Table.{Table, view, size, Within, Loosest, NoneClosed}
use Rattle.closing_model.specs.Start.{start_lowers, start_uppers}
use Rattle.closing_model.proofs.PlaceLaws.{place_below}
use Rattle.settling_model.specs.Settled.{Settled}
use Rattle.settling_model.specs.Stable.{Stable, Largest, Unstable, table_bounds}
use Rattle.settling_model.specs.Plans.{is, occurs, Plan, singles, occurs_table}
use Rattle.settling_model.proofs.StableLaws.{settled_keeps}
use Rattle.settling_model.proofs.TableBoundsLaws.{keeps_stable}
use Rattle.settling_model.proofs.OccursLaws.{is_same, is_other, occurs_entry, occurs_closed, occurs_within}

-- ---- the mask of one value
test_bit_is : (x v : ℕ) → test_bit (2 ^ x) v ≡ is x v
test_bit_is x v =
    dite (ℕ_discrete x v) (λ same. rw same (test_bit_fixed_same v ∙ sym (is_same v v refl)))
    (λ other. test_bit_fixed_other x v (λ e. other (sym e)) ∙ sym (is_other x v other))

only_is : (x v : ℕ) → only (2 ^ x) v ≡ is x v
only_is x v =
    dite (ℕ_discrete x v) (λ same. rw same (only_fixed (2 ^ v) v refl ∙ sym (is_same v v refl)))
    (λ other.
    only_free (2 ^ x) v
    (λ e. omega (arith, test_bit_fixed_same v, ap (λ (m : ℕ). test_bit m v) e, test_bit_fixed_other x v (λ d. other (sym d))))
    ∙ sym (is_other x v other))

-- ---- singles
pub singles_length : (p : List ℕ) → length (singles p) ≡ length p
unfolding singles
singles_length [] = refl
singles_length (x ∷ xs) = ap suc (singles_length xs)

pub singles_at : (p : List ℕ) (s : ℕ) → s < length p → get_or (singles p) s 0 ≡ 2 ^ get_or p s 0
unfolding singles
singles_at [] s inside = absurd (omega arith)
singles_at (x ∷ xs) zero inside = refl
singles_at (x ∷ xs) (suc s) inside = singles_at xs s (omega arith)

module _ (p : List ℕ) where
  singles_alive : Alive (singles p)
  singles_alive = record { each = λ s inside empty. omega (arith, singles_at p s (omega (arith, singles_length p)), pow_pos (get_or p s 0)) }

  module _ (v t : ℕ) (t≤n : t ≤ length p) where
    singles_count_has : count_has (singles p) v t ≡ occurs p v t
    singles_count_has = count_ext _ _ t (λ s s<t. rw (singles_at p s (omega arith)) (test_bit_is (get_or p s 0) v))

    singles_count_fixed : count_fixed (singles p) v t ≡ occurs p v t
    singles_count_fixed = count_ext _ _ t (λ s s<t. rw (singles_at p s (omega arith)) (only_is (get_or p s 0) v))

    singles_settled : Settled (singles p) v t
    singles_settled =
        record {
          each = λ s s<t has.
              let at = singles_at p s (omega arith) in
              dite (ℕ_discrete (get_or p s 0) v) (λ same. at ∙ ap (λ (x : ℕ). 2 ^ x) same)
              (λ other.
              absurd (omega (arith, has, ap (λ (m : ℕ). test_bit m v) at, test_bit_fixed_other (get_or p s 0) v (λ e. other (sym e)))));
        }

  -- within bounds that hold the counts, the single masks are stable
  pub singles_stable : (n k : ℕ) (T : Table) → length p ≡ n → Within (size n k) T (occurs_table n p) → Stable (table_bounds n k T) (singles p)
  singles_stable n k T slots within =
      keeps_stable n k T (singles p) singles_alive
      (λ v t v<k 0<t t≤n.
      let fits : t ≤ length p = omega arith in
      let inside = place_below n k v t v<k t≤n in
      let entry = occurs_entry n p v t t≤n in
      settled_keeps (omega (arith, within.lowers _ inside, singles_count_has v t fits)) (omega (arith, within.uppers _ inside, singles_count_fixed v t fits))
      (λ met. singles_settled v t fits) (λ met. singles_settled v t fits))

  -- the single masks lie within masks that have p's values, and only within such; both directions
  pub allowed_singles : (M : List ℕ) → length p ≡ length M → ((s : ℕ) → s < length p → HasAt M s (get_or p s 0)) → Subset (singles p) M
  allowed_singles M len allowed =
      record {
        len = singles_length p ∙ len;
        bits = λ s w.
            dite (dec_lt s (length p)) (inside s w)
            (λ outside. rw (get_or-eq_default (singles p) 0 {n = s} (omega (arith, singles_length p)), test_bit_empty w) zero-le);
      }
    where
      inside : (s w : ℕ) → s < length p → test_bit (get_or (singles p) s 0) w ≤ test_bit (get_or M s 0) w
      inside s w s<n =
          rw (singles_at p s s<n)
          (dite (ℕ_discrete w (get_or p s 0)) (λ same. rw same (le_of_eq (test_bit_fixed_same (get_or p s 0) ∙ sym (allowed s s<n))))
          (λ other. rw (test_bit_fixed_other (get_or p s 0) w other) zero-le))

  pub singles_allowed : (M : List ℕ) → Subset (singles p) M → (s : ℕ) → s < length p → HasAt M s (get_or p s 0)
  singles_allowed M p⊆M s inside =
      let has : HasAt (singles p) s (get_or p s 0) = ap (λ (m : ℕ). test_bit m (get_or p s 0)) (singles_at p s inside) ∙ test_bit_fixed_same (get_or p s 0) in
      omega (arith, p⊆M.bits s (get_or p s 0), test_bit_lt (get_or M s 0) (get_or p s 0))

-- ---- Plan
module _ {n k : ℕ} {rs : List Row} {M p : List ℕ} (plan : Plan n k rs M p) where
  -- a plan's counts lie within the loosest closed table
  pub plan_within : {T : Table} → Loosest n k (view (start_lowers n k rs) (start_uppers n k rs)) T → Within (size n k) T (occurs_table n p)
  plan_within loosest = loosest.loosest (occurs_table n p) (occurs_closed n p k plan.values) (occurs_within n k rs p plan.rows)

  -- where no table is closed, there is no plan
  pub none_closed_no_plan : NoneClosed n k (view (start_lowers n k rs) (start_uppers n k rs)) → ⊥
  none_closed_no_plan none = none (occurs_table n p) (occurs_closed n p k plan.values) (occurs_within n k rs p plan.rows)

  -- as single masks it is stable, and lies within the largest stable list
  pub plan_stable : {T : Table} → Loosest n k (view (start_lowers n k rs) (start_uppers n k rs)) T → Stable (table_bounds n k T) (singles p)
  plan_stable {T} loosest = singles_stable p n k T plan.slots (plan_within loosest)

  module _ (slots : length M ≡ n) where
    plan_subset : Subset (singles p) M
    plan_subset = allowed_singles p M (plan.slots ∙ sym slots) (λ s s<n. plan.allowed s (omega (arith, plan.slots)))

    pub plan_largest : {T : Table} {N : List ℕ} → Loosest n k (view (start_lowers n k rs) (start_uppers n k rs)) T
        → Largest (table_bounds n k T) M N → Subset (singles p) N
    plan_largest loosest largest = largest.largest (singles p) (plan_stable loosest) plan_subset

    pub unstable_no_plan : {T : Table} → Loosest n k (view (start_lowers n k rs) (start_uppers n k rs)) T → Unstable (table_bounds n k T) M → ⊥
    unstable_no_plan loosest unstable = unstable (singles p) (plan_stable loosest) plan_subset
