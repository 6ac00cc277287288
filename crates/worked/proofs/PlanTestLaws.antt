-- The laws of `specs/PlanTest.antt`: a plan passes the test (`plan_passes`), so where no list does the book has no plan (`planless_no_plan`); and a
-- list of the book's types that passes is a plan (`plan_of_plan`). No contract cites this file. Assumes nothing.
use mathlib.Core.Path.{◌≡◌, refl, sym, ap, ◌∙◌}
use mathlib.Core.Logic.{dite}
use mathlib.Core.Bool.{Bool, true, false, ◌&&◌, true≢false, and-eq-true_iff}
use mathlib.Core.List.{List, [], ◌∷◌}
use Prim.Native.Nat.{ℕ, zero, suc, ◌<◌}
use native.Mathlib.Omega.{arith}
use native.Mathlib.Decide.{ℕ_discrete}
use borrow.Author.Tests.{eq-eqb, eqb-true, le-leb, leb-true, ltb-true, not-true}
use lib.Dec.{eqb, leb, ltb}
use lib.ListN.{length, get_or}
use Rattle.domains.specs.Mask.{test_bit}
use Rattle.book.specs.declared.Row.{Row}
use Rattle.book.specs.Layout.{slots, values, masks, rows}
use Rattle.book.specs.Lists.{All}
use Rattle.settling_model.specs.Plans.{occurs, KeepsRow, Plan}
use Rattle.settling_model.specs.Book.{BookPlan}
use Rattle.worked.specs.PlanTest.{all_below, no_list, keeps_row, keeps_rows, is_plan, plan_of, planless}

-- ---- all_below
all_below_at : (k : ℕ) (f : ℕ → Bool) → all_below k f ≡ true → (v : ℕ) → v < k → f v ≡ true
unfolding all_below
all_below_at zero f all v v<k = absurd (omega arith)
all_below_at (suc k) f all v v<k =
    let both = (and-eq-true_iff (all_below k f) (f k)).0 all in
    dite (ℕ_discrete v k) (λ v≡k. ap f v≡k ∙ both.1) (λ v≢k. all_below_at k f both.0 v (omega arith))

at_all_below : (k : ℕ) (f : ℕ → Bool) → ((v : ℕ) → v < k → f v ≡ true) → all_below k f ≡ true
unfolding all_below
at_all_below zero f at = refl
at_all_below (suc k) f at = (and-eq-true_iff (all_below k f) (f k)).1 (at_all_below k f (λ v v<k. at v (omega arith)), at k (omega arith))

-- ---- no_list
no_list_not : (k m : ℕ) (f : List ℕ → Bool) → no_list k m f ≡ true → (p : List ℕ) → length p ≡ m → ((s : ℕ) → s < m → get_or p s 0 < k) → f p ≡ false
unfolding no_list
no_list_not k zero f none [] long below = not-true (f []) none
no_list_not k zero f none (v ∷ p) long below = absurd (omega (arith, long))
no_list_not k (suc m) f none [] long below = absurd (omega (arith, long))
no_list_not k (suc m) f none (v ∷ p) long below =
    no_list_not k m (λ q. f (v ∷ q)) (all_below_at k (λ w. no_list k m (λ q. f (w ∷ q))) none v (below 0 (omega arith)))
    p (omega (arith, long)) (λ s s<m. below (suc s) (omega arith))

-- ---- is_plan
keeps_rows_lem : (p : List ℕ) (rs : List Row) → All (KeepsRow p) rs → keeps_rows p rs ≡ true
unfolding keeps_row keeps_rows
keeps_rows_lem p [] keeps = refl
keeps_rows_lem p (r ∷ rs) keeps =
    let n = occurs p r.value r.end in
    let low = le-leb r.lower n keeps.0.low in
    let high = le-leb n r.upper keeps.0.high in
    (and-eq-true_iff (keeps_row p r) (keeps_rows p rs)).1 ((and-eq-true_iff (leb r.lower n) (leb n r.upper)).1 (low, high), keeps_rows_lem p rs keeps.1)

pub plan_passes : {n k : ℕ} {rs : List Row} {M p : List ℕ} → Plan n k rs M p → is_plan M rs p ≡ true
unfolding is_plan
plan_passes {n} {k} {rs} {M} {p} plan =
    let allowed = at_all_below (length p) (λ s. eqb (test_bit (get_or M s 0) (get_or p s 0)) 1)
    (λ s s<len. eq-eqb (test_bit (get_or M s 0) (get_or p s 0)) 1 (plan.allowed s (omega (arith, plan.slots)))) in
    (and-eq-true_iff (all_below (length p) (λ s. eqb (test_bit (get_or M s 0) (get_or p s 0)) 1)) (keeps_rows p rs)).1 (allowed, keeps_rows_lem p rs plan.rows)

rows_keep : (p : List ℕ) (rs : List Row) → keeps_rows p rs ≡ true → All (KeepsRow p) rs
unfolding keeps_row keeps_rows
rows_keep p [] tested = tt
rows_keep p (r ∷ rs) tested =
    let n = occurs p r.value r.end in
    let both = (and-eq-true_iff (keeps_row p r) (keeps_rows p rs)).0 tested in
    let bounds = (and-eq-true_iff (leb r.lower n) (leb n r.upper)).0 both.0 in
    (record { low = leb-true r.lower n bounds.0; high = leb-true n r.upper bounds.1 }, rows_keep p rs both.1)

-- ---- plan_of
pub plan_of_plan : (b p : List ℕ) → plan_of b p ≡ true → BookPlan b p
unfolding plan_of is_plan
plan_of_plan b p tested =
    let below : ℕ → Bool = λ s. ltb (get_or p s 0) (values b) in
    let allowed : ℕ → Bool = λ s. eqb (test_bit (get_or (masks b) s 0) (get_or p s 0)) 1 in
    let long_rest = (and-eq-true_iff (eqb (length p) (slots b)) (all_below (slots b) below && is_plan (masks b) (rows b) p)).0 tested in
    let below_rest = (and-eq-true_iff (all_below (slots b) below) (is_plan (masks b) (rows b) p)).0 long_rest.1 in
    let both = (and-eq-true_iff (all_below (length p) allowed) (keeps_rows p (rows b))).0 below_rest.1 in
    let long = eqb-true (length p) (slots b) long_rest.0 in
    record {
      slots = long;
      values = λ s s<n. ltb-true (get_or p s 0) (values b) (all_below_at (slots b) below below_rest.0 s s<n);
      allowed = λ s s<n. eqb-true _ 1 (all_below_at (length p) allowed both.0 s (omega (arith, long)));
      rows = rows_keep p (rows b) both.1;
    }

-- ---- planless
pub planless_no_plan : (b : List ℕ) → planless b ≡ true → (p : List ℕ) → BookPlan b p → ⊥
unfolding planless
planless_no_plan b none p plan =
    true≢false (sym (plan_passes plan) ∙ no_list_not (values b) (slots b) (is_plan (masks b) (rows b)) none p plan.slots plan.values)
