-- The rules across the values at one prefix, with the sums of the table as it stood at the start: a store makes a sum stale, and a stale
-- sum still demands no more than the rule (`lower_demand`, `upper_demand`). No contract cites this file. `AcrossInv` is the invariant of the
-- loop over the values; `across_start` its start, `across_more` its turn, `across_none` its way out at a sum above t, `across_done` its end.
-- `across_kept`: by the sums and the widest gap alone, nothing is to do.
-- Assumes nothing.
use mathlib.Core.Path.{◌≡◌, refl, ◌∙◌}
use mathlib.Core.Bool.{Bool, false, ◌||◌}
use mathlib.Core.List.{List}
use Prim.Native.Nat.{ℕ, ◌+◌, ◌-◌, ◌≤◌, ◌<◌}
use native.Mathlib.Nat.{le_refl}
use native.Mathlib.Omega.{arith}
use lib.Dec.{ltb}
use lib.ListN.{length, get_or}
use borrow.Author.Count.{below_more}
use borrow.Author.Tests.{ltb-false}
use Rattle.closing_model.specs.Table.{Table, view, size, place, Within}
use Rattle.closing_model.specs.Sweep.{column_sum, widest, SumsAre, Crosswise, Across, Columns, raised, lowered, Stored, Ran, Did}
use Rattle.closing_model.proofs.PlaceLaws.{place_below}
use Rattle.closing_model.proofs.SumLaws.{column_sum_others, column_sum_part, widest_part}
use Rattle.closing_model.proofs.StoreLaws.{stored_other}
use Rattle.closing_model.proofs.TableLaws.{within_trans, within_fewer}
use Rattle.closing_model.proofs.SweptLaws.{raise_swept, lower_swept, swept_trans}
use Rattle.closing_model.proofs.RanLaws.{or_false, ran_of, ran_none, ran_more}

-- ---- what a table A around T demands of T
module _ (n k t v : ℕ) (v<k : v < k) (t≤n : t ≤ n) (A : Table) where
  pub lower_demand : (T : Table) → Across n k t T → Within (size n k) A T → (b : ℕ) → b ≤ A.upper (place n v t)
      → t - (column_sum n k A.upper t - b) ≤ T.lower (place n v t)
  lower_demand T rules within b b≤upper =
      omega (
        arith,
        (rules v v<k).lower,
        column_sum_others n t T.upper A.upper k v v<k (λ w w<k. within.uppers (place n w t) (place_below n k w t w<k t≤n)),
        column_sum_part n t A.upper k v v<k,
      )

  pub upper_demand : (T : Table) → Across n k t T → Within (size n k) A T
      → T.upper (place n v t) + column_sum n k A.lower t ≤ t + A.lower (place n v t)
  upper_demand T rules within =
      omega (
        arith,
        (rules v v<k).upper,
        column_sum_others n t A.lower T.lower k v v<k (λ w w<k. within.lowers (place n w t) (place_below n k w t w<k t≤n)),
      )

-- ---- the loop over the values at prefix t
-- the first v values have been gone through, at these sums
pub record Upto (n k t su sl v : ℕ) (T : Table) : Type 0 where
  pub sums : SumsAre n k t su sl T
  pub rules : (w : ℕ) → w < v → Crosswise n k t w T

pub record AcrossInv (n k t su sl : ℕ) (L₀ U₀ L U : List ℕ) (r : Bool) (v p : ℕ) : Type 0 where
  pub upto : v ≤ k
  pub at : p ≡ place n v t
  pub sums : SumsAre n k t su sl (view L₀ U₀)
  pub ran : Ran (size n k) (Across n k t) (Upto n k t su sl v) L₀ U₀ L U r
  pub frame : (q : ℕ) → p ≤ q → get_or L q 0 ≡ get_or L₀ q 0

-- value v's two rules, with the sums of an earlier table L₀ U₀
module _ (n k t v : ℕ) (v<k : v < k) (t≤n : t ≤ n) (L₀ U₀ L U : List ℕ) (long_l : size n k ≤ length L) (long_u : size n k ≤ length U) (since : Within (size n k) (view L₀ U₀) (view L U)) (su sl a b : ℕ)
    (sums : SumsAre n k t su sl (view L₀ U₀)) (a_is : a ≡ get_or L (place n v t) 0) (b_is : b ≡ get_or U (place n v t) 0) (a_was : a ≡ get_or L₀ (place n v t) 0) where
  upper_asked : (T : Table) → Across n k t T → Within (size n k) (view L₀ U₀) T → sl - a ≤ t → T.upper (place n v t) ≤ t - (sl - a)
  upper_asked T rules within others≤t = omega (arith, upper_demand n k t v v<k t≤n (view L₀ U₀) T rules within, sums.lowers, column_sum_part n t (λ j. get_or L₀ j 0) k v v<k)

  cell_ran : (p : ℕ) → p ≡ place n v t → t - (su - b) < 65536 → sl - a ≤ t
      → Ran (size n k) (Across n k t) (λ T. SumsAre n k t su sl T → Crosswise n k t v T) L U (raised L p (t - (su - b))) (lowered U p (t - (sl - a))) (ltb (get_or L p 0) (t - (su - b)) || ltb (t - (sl - a)) (get_or U p 0))
  cell_ran p p_is fits others≤t =
      let q = place n v t in
      let inside : q < size n k = place_below n k v t v<k t≤n in
      let x = t - (su - b) in
      let y = t - (sl - a) in
      rw p_is
      (ran_of
      (λ m edge≤m.
      let raise =
      raise_swept m (Across n k t) L U q x (omega arith) fits
      (λ T rules within. rw (← sums.uppers) (lower_demand n k t v v<k t≤n (view L₀ U₀) T rules (within_trans since (within_fewer edge≤m within)) b (rw b_is (since.uppers q inside)))) in
      swept_trans raise
      (lower_swept m (Across n k t) (raised L q x) U q y (omega arith)
      (λ T rules within. upper_asked T rules (within_trans since (within_trans (within_fewer edge≤m raise.narrows.within) (within_fewer edge≤m within))) others≤t)))
      (λ none.
      let each = or_false (ltb (get_or L q 0) x) (ltb y (get_or U q 0)) none in
      rw (each.0, each.1)
      (λ here.
      let upper_sum : column_sum n k (λ j. get_or U j 0) t ≡ su = here.uppers in
      let lower_sum : column_sum n k (λ j. get_or L j 0) t ≡ sl = here.lowers in
      record {
        lower = omega (arith, ltb-false (get_or L q 0) x each.0, column_sum_part n t (λ j. get_or U j 0) k v v<k);
        upper = omega (arith, ltb-false y (get_or U q 0) each.1, column_sum_part n t (λ j. get_or L j 0) k v v<k);
      })))

  cell_none : t < sl - a → (T : Table) → Across n k t T → Within (size n k) (view L₀ U₀) T → ⊥
  cell_none t<others T rules within =
      let asked : T.upper (place n v t) + column_sum n k (λ j. get_or L₀ j 0) t ≤ t + get_or L₀ (place n v t) 0 = upper_demand n k t v v<k t≤n (view L₀ U₀) T rules within in
      let lower_sum : column_sum n k (λ j. get_or L₀ j 0) t ≡ sl = sums.lowers in
      omega arith

upto_more : {n k t su sl v : ℕ} {T : Table} → Upto n k t su sl v T → (SumsAre n k t su sl T → Crosswise n k t v T) → Upto n k t su sl (v + 1) T
upto_more {n} {k} {t} {T} upto rule = record { sums = upto.sums; rules = below_more (λ w. Crosswise n k t w T) _ upto.rules (rule upto.sums) }

-- its start
pub across_start : {n k t su sl : ℕ} (L U : List ℕ) → SumsAre n k t su sl (view L U) → AcrossInv n k t su sl L U L U false 0 t
across_start L U sums =
    record { upto = omega arith; at = omega arith; sums = sums; ran = ran_none _ _ _ L U (record { sums = sums; rules = λ w w<0. absurd (omega arith) }); frame = λ q t≤q. refl }

-- a turn, at value v with lower a and upper b; ol is what the other lowers sum up to
module _ {n k t su sl v p : ℕ} {L₀ U₀ L U : List ℕ} {r : Bool} {a b ol : ℕ} (inv : AcrossInv n k t su sl L₀ U₀ L U r v p) (v<k : v < k) (t≤n : t ≤ n) (n_fits : n < 65536) (long_l : length L₀ ≡ size n k) (long_u : length U₀ ≡ size n k)
    (a_is : a ≡ get_or L p 0) (b_is : b ≡ get_or U p 0) (ol_is : ol ≡ sl - a) where
  a_was : a ≡ get_or L₀ (place n v t) 0
  a_was = rw (← inv.at) (a_is ∙ inv.frame p (le_refl p))

  pub across_none : t < ol → (T : Table) → Across n k t T → Within (size n k) (view L₀ U₀) T → ⊥
  across_none t<ol =
      cell_none n k t v v<k t≤n L₀ U₀ L U (omega (arith, inv.ran.size_l)) (omega (arith, inv.ran.size_u)) (inv.ran.swept (size n k) (le_refl _)).narrows.within su sl a b inv.sums (rw inv.at at a_is) (rw inv.at at b_is) a_was
      (rw ol_is at t<ol)

  pub across_more : {L' U' : List ℕ} {x d : ℕ} {s r' : Bool} → ol ≤ t → d ≡ su - b → x ≡ t - d → Stored L U L' U' p x (t - ol) s → r' ≡ (r || s)
      → AcrossInv n k t su sl L₀ U₀ L' U' r' (v + 1) (p + (n + 1))
  across_more {x = x} ol≤t d_is x_is stored flag =
      record {
        upto = omega arith;
        at = omega (arith, inv.at);
        sums = inv.sums;
        ran =
            ran_more inv.ran
            (rw (stored.lowers, stored.uppers, stored.flag, x_is, d_is, ol_is)
            (cell_ran n k t v v<k t≤n L₀ U₀ L U (omega (arith, inv.ran.size_l)) (omega (arith, inv.ran.size_u)) (inv.ran.swept (size n k) (le_refl _)).narrows.within su sl a b inv.sums (rw inv.at at a_is) (rw inv.at at b_is) a_was
            p inv.at (omega arith) (rw ol_is at ol≤t)))
            (le_refl _)
            (λ T rules. rules)
            (λ T upto rule. upto_more upto rule)
            flag;
        frame = λ q p+n+1≤q. rw stored.lowers (stored_other (ltb (get_or L p 0) x) L p x q (λ e. omega arith) ∙ inv.frame q (omega arith));
      }

pub across_done : {n k t su sl : ℕ} {L₀ U₀ L U : List ℕ} {r : Bool} {v p : ℕ} → k ≤ v → AcrossInv n k t su sl L₀ U₀ L U r v p
    → Did (size n k) (Across n k t) L₀ U₀ L U r
across_done k≤v inv = record { swept = inv.ran.swept; size_l = inv.ran.size_l; size_u = inv.ran.size_u; rules = λ none w w<k. (inv.ran.rules none).rules w (omega arith) }

-- where no gap is wider than what is left of either sum, the rules ask nothing
pub across_kept : (n k t su sl : ℕ) (L U : List ℕ) → SumsAre n k t su sl (view L U) → widest n k (view L U) t + t ≤ su → widest n k (view L U) t + sl ≤ t
    → Did (size n k) (Across n k t) L U L U false
across_kept n k t su sl L U sums below_uppers above_lowers =
    let upper_sum : column_sum n k (λ p. get_or U p 0) t ≡ su = sums.uppers in
    let lower_sum : column_sum n k (λ p. get_or L p 0) t ≡ sl = sums.lowers in
    ran_none _ _ _ L U
    (λ v v<k. record { lower = omega (arith, widest_part n t (view L U) k v v<k); upper = omega (arith, widest_part n t (view L U) k v v<k) })

-- one prefix more, of the loop over the prefixes
pub columns_turn : (n k t : ℕ) {L U L' U' L'' U'' : List ℕ} {r s b : Bool} → t ≤ n → Ran (size n k) (Columns n k (n + 1)) (Columns n k t) L U L' U' r
    → Did (size n k) (Across n k t) L' U' L'' U'' s → b ≡ (r || s) → Ran (size n k) (Columns n k (n + 1)) (Columns n k (t + 1)) L U L'' U'' b
columns_turn n k t t≤n ran did flag = ran_more ran did (le_refl _) (λ T rules. rules t (omega arith)) (λ T upto rule. below_more (λ i. Across n k i T) t upto rule) flag

pub columns_none : (n k t : ℕ) {L U L' U' : List ℕ} {r : Bool} → t ≤ n → Ran (size n k) (Columns n k (n + 1)) (Columns n k t) L U L' U' r
    → ((T : Table) → Across n k t T → Within (size n k) (view L' U') T → ⊥) → (T : Table) → Columns n k (n + 1) T → Within (size n k) (view L U) T → ⊥
columns_none n k t t≤n ran empty T rules within = empty T (rules t (omega arith)) ((ran.swept (size n k) (le_refl _)).narrows.keeps T rules within)
