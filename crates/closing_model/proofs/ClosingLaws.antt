-- The model `closing` (`specs/Closing.antt`) and what document 01 says in words, tied both ways. No contract cites this file.
-- `closing_loosest`, `loosest_closing`: it answers a table exactly where that is the loosest closed table within; `closing_none`,
-- `none_closing`: it answers none exactly where no closed table lies within. All four follow from `closing_adequate`, and that by
-- induction on the steps: the sum of the uppers less that of the lowers falls with each, and no closed table lies within where it is below
-- 0. `closing_crossed`, `closing_step`: the equations that a reader expects, with no count of steps.
-- Assumes nothing.
use mathlib.Core.Path.{◌≡◌, refl, sym, ◌∙◌}
use mathlib.Core.Bool.{Bool, true, false, ◌&&◌, true≢false}
use mathlib.Core.Logic.{dite}
use mathlib.Core.List.{List}
use mathlib.Core.Option.{Option, none, some}
use Prim.Native.Nat.{ℕ, zero, suc, ◌+◌, ◌/◌, ◌%◌, ◌≤◌, ◌<◌}
use native.Mathlib.Nat.{le_trans}
use native.Mathlib.Decide.{dec_lt}
use native.Mathlib.Omega.{arith}
use lib.ListN.{length, get_or}
use Rattle.closing_model.specs.Table.{Table, view, size, place, Closed, Within, Loosest, NoneClosed}
use Rattle.closing_model.specs.Sweep.{Narrows}
use Rattle.closing_model.specs.Closing.{step_lowers, step_uppers, crossed, same, closing_within, list_sum, closing}
use Rattle.closing_model.proofs.PlaceLaws.{place_below, value_below, prefix_upto, place_of}
use Rattle.closing_model.proofs.TableLaws.{within_trans, within_refl, loosest_unique}
use Rattle.closing_model.proofs.StepLaws.{step_lowers_length, step_uppers_length, step_narrows, fixed_closed}
use Rattle.closing_model.proofs.TestLaws.{crossed_false, false_crossed, same_true, true_same, list_sum_mono, equal_list_sum}

-- r is the right answer for a table A
abbrev Adequate : ℕ → ℕ → Table → Option (List ℕ × List ℕ) → Type 0
Adequate n k A none = NoneClosed n k A
Adequate n k A (some T) = Loosest n k A (view T.0 T.1) × (length T.0 ≡ size n k) × (length T.1 ≡ size n k)

-- there is one right answer
adequate_unique : (n k : ℕ) (A : Table) (r s : Option (List ℕ × List ℕ)) → Adequate n k A r → Adequate n k A s → r ≡ s
adequate_unique n k A none none one other = refl
adequate_unique n k A none (some T) one other = absurd (one (view T.0 T.1) other.0.closed other.0.within)
adequate_unique n k A (some S) none one other = absurd (other (view S.0 S.1) one.0.closed one.0.within)
adequate_unique n k A (some S) (some T) one other =
    let same = loosest_unique n k S.0 S.1 T.0 T.1 one.1 one.2 other.1 other.2 one.0 other.0 in
    rw (same.0, same.1)

-- an answer that is right of a narrower table is right
narrows_adequate : (n k : ℕ) (A B : Table) (r : Option (List ℕ × List ℕ)) → Narrows (size n k) (Closed n k) A B → Adequate n k B r → Adequate n k A r
narrows_adequate n k A B none narrows adequate = λ T closed within. adequate T closed (narrows.keeps T closed within)
narrows_adequate n k A B (some answer) narrows adequate = (
  record {
    closed = adequate.0.closed;
    within = within_trans narrows.within adequate.0.within;
    loosest = λ T closed within. adequate.0.loosest T closed (narrows.keeps T closed within);
  },
  adequate.1,
  adequate.2,
)

module _ (n k : ℕ) (L U : List ℕ) (long_l : length L ≡ size n k) (long_u : length U ≡ size n k) where
  -- where a closed table lies within, each lower is at most its upper
  within_uncrossed : (T : Table) → Closed n k T → Within (size n k) (view L U) T → (p : ℕ) → p < length L → get_or L p 0 ≤ get_or U p 0
  within_uncrossed T closed within p below =
      let inside : p < size n k = rw long_l at below in
      let between : T.lower p ≤ T.upper p = rw (place_of n k p inside) at (closed.uncrossed (p / (n + 1)) (p % (n + 1)) (value_below n k p inside) (prefix_upto n k p inside)) in
      le_trans (within.lowers p inside) (le_trans between (within.uppers p inside))

  crossed_none_closed : crossed L U ≡ true → NoneClosed n k (view L U)
  crossed_none_closed is_crossed T closed within = true≢false (sym is_crossed ∙ false_crossed L U (long_l ∙ sym long_u) (within_uncrossed T closed within))

  sums_none_closed : list_sum U < list_sum L → NoneClosed n k (view L U)
  sums_none_closed less T closed within = omega (arith, list_sum_mono L U (long_l ∙ sym long_u) (within_uncrossed T closed within))

and-true : (a b : Bool) → (a && b) ≡ true → (a ≡ true) × (b ≡ true)
and-true true b e = (refl, e)
and-true false b e = absurd (true≢false (sym e))

-- an uncrossed table that a step leaves as it is, is the loosest closed one within itself
unchanged_loosest : (n k : ℕ) (L U : List ℕ) → length L ≡ size n k → length U ≡ size n k → crossed L U ≡ false
    → (same L (step_lowers n k (view L U)) && same U (step_uppers n k (view L U))) ≡ true → Loosest n k (view L U) (view L U)
unchanged_loosest n k L U long_l long_u clear unchanged =
    let each = and-true (same L (step_lowers n k (view L U))) (same U (step_uppers n k (view L U))) unchanged in
    record {
      closed =
          fixed_closed n k L U (same_true L (step_lowers n k (view L U)) each.0) (same_true U (step_uppers n k (view L U)) each.1)
          (λ v t v<k t≤n. crossed_false L U (long_l ∙ sym long_u) clear (place n v t) (rw long_l (place_below n k v t v<k t≤n)));
      within = within_refl (size n k) (view L U);
      loosest = λ T closed within. within;
    }

-- lists that lie within others, with sums no closer, are the same
within_same : (m : ℕ) (L U L' U' : List ℕ) → length L ≡ m → length U ≡ m → length L' ≡ m → length U' ≡ m → Within m (view L U) (view L' U')
    → (list_sum U' + list_sum L < list_sum U + list_sum L' → ⊥) → (L ≡ L') × (U' ≡ U)
within_same m L U L' U' long_l long_u long_l' long_u' within stays =
    let lowers : (p : ℕ) → p < length L → get_or L p 0 ≤ get_or L' p 0 = λ p inside. within.lowers p (rw long_l at inside) in
    let uppers : (p : ℕ) → p < length U' → get_or U' p 0 ≤ get_or U p 0 = λ p inside. within.uppers p (rw long_u' at inside) in
    let more = list_sum_mono L L' (long_l ∙ sym long_l') lowers in
    let less = list_sum_mono U' U (long_u' ∙ sym long_u) uppers in
    (equal_list_sum L L' (long_l ∙ sym long_l') lowers (omega arith), equal_list_sum U' U (long_u' ∙ sym long_u) uppers (omega arith))

-- a step that changes something brings the sums closer
step_falls : (n k : ℕ) (L U : List ℕ) → length L ≡ size n k → length U ≡ size n k
    → (same L (step_lowers n k (view L U)) && same U (step_uppers n k (view L U))) ≡ false
    → list_sum (step_uppers n k (view L U)) + list_sum L < list_sum U + list_sum (step_lowers n k (view L U))
step_falls n k L U long_l long_u changed =
    let A = view L U in
    dite (dec_lt (list_sum (step_uppers n k A) + list_sum L) (list_sum U + list_sum (step_lowers n k A))) (λ falls. falls)
    (λ stays.
    let equal =
    within_same (size n k) L U (step_lowers n k A) (step_uppers n k A) long_l long_u (step_lowers_length n k A) (step_uppers_length n k A) (step_narrows n k A).within stays
    in
    absurd (true≢false (sym (rw (true_same L (step_lowers n k A) equal.0) (true_same U (step_uppers n k A) (sym equal.1))) ∙ changed)))

-- ---- closing
within_adequate : (fuel n k : ℕ) (L U : List ℕ) → length L ≡ size n k → length U ≡ size n k → list_sum U < fuel + list_sum L
    → Adequate n k (view L U) (closing_within fuel n k L U)
unfolding closing_within
within_adequate zero n k L U long_l long_u enough = sums_none_closed n k L U long_l long_u (omega arith)
within_adequate (suc fuel) n k L U long_l long_u enough =
    go (crossed L U) refl (same L (step_lowers n k (view L U)) && same U (step_uppers n k (view L U))) refl
    (within_adequate fuel n k (step_lowers n k (view L U)) (step_uppers n k (view L U)) (step_lowers_length n k (view L U)) (step_uppers_length n k (view L U)))
  where
    L' : List ℕ
    L' = step_lowers n k (view L U)

    U' : List ℕ
    U' = step_uppers n k (view L U)

    go : (b : Bool) → crossed L U ≡ b → (s : Bool) → (same L L' && same U U') ≡ s
        → (list_sum U' < fuel + list_sum L' → Adequate n k (view L' U') (closing_within fuel n k L' U'))
        → Adequate n k (view L U) (elim b [ true ↦ none | false ↦ elim s [ true ↦ some (L, U) | false ↦ closing_within fuel n k L' U' ] ])
    go true e s unchanged next = crossed_none_closed n k L U long_l long_u e
    go false e true unchanged next = (unchanged_loosest n k L U long_l long_u e unchanged, long_l, long_u)
    go false e false unchanged next =
        narrows_adequate n k (view L U) (view L' U') (closing_within fuel n k L' U') (step_narrows n k (view L U)) (next (omega (arith, step_falls n k L U long_l long_u unchanged)))

module _ (n k : ℕ) (L U : List ℕ) (long_l : length L ≡ size n k) (long_u : length U ≡ size n k) where
  closing_adequate : Adequate n k (view L U) (closing n k L U)
  unfolding closing
  closing_adequate = within_adequate _ n k L U long_l long_u (omega arith)

  pub closing_loosest : (L' U' : List ℕ) → closing n k L U ≡ some (L', U')
      → Loosest n k (view L U) (view L' U') × (length L' ≡ size n k) × (length U' ≡ size n k)
  closing_loosest L' U' answer = rw answer at closing_adequate

  pub loosest_closing : (L' U' : List ℕ) → length L' ≡ size n k → length U' ≡ size n k → Loosest n k (view L U) (view L' U')
      → closing n k L U ≡ some (L', U')
  loosest_closing L' U' long_l' long_u' loosest = adequate_unique n k (view L U) (closing n k L U) (some (L', U')) closing_adequate (loosest, long_l', long_u')

  pub closing_none : closing n k L U ≡ none → NoneClosed n k (view L U)
  closing_none answer = rw answer at closing_adequate

  pub none_closing : NoneClosed n k (view L U) → closing n k L U ≡ none
  none_closing dead = adequate_unique n k (view L U) (closing n k L U) none closing_adequate dead

-- the equations that a reader expects: a crossed table has no answer, and a step changes no answer
pub closing_crossed : (n k : ℕ) (L U : List ℕ) → length L ≡ size n k → length U ≡ size n k → crossed L U ≡ true → closing n k L U ≡ none
closing_crossed n k L U long_l long_u is_crossed = none_closing n k L U long_l long_u (crossed_none_closed n k L U long_l long_u is_crossed)

pub closing_step : (n k : ℕ) (L U : List ℕ) → length L ≡ size n k → length U ≡ size n k
    → closing n k L U ≡ closing n k (step_lowers n k (view L U)) (step_uppers n k (view L U))
closing_step n k L U long_l long_u =
    let A = view L U in
    adequate_unique n k A (closing n k L U) (closing n k (step_lowers n k A) (step_uppers n k A)) (closing_adequate n k L U long_l long_u)
    (narrows_adequate n k A _ (closing n k (step_lowers n k A) (step_uppers n k A)) (step_narrows n k A)
    (closing_adequate n k (step_lowers n k A) (step_uppers n k A) (step_lowers_length n k A) (step_uppers_length n k A)))
