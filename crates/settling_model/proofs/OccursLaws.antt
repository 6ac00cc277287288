-- The laws of `occurs`, `KeepsRow` and `occurs_table` of `specs/Plans.antt`: how often each value occurs in a list is a closed table
-- (`occurs_closed`), and it lies within the starting table of rows that the list keeps (`occurs_within`). The law that does the work is
-- `occurs_sum`: before t stand t values. No contract cites this file. Assumes nothing.
use mathlib.Core.Path.{◌≡◌, refl, ap₂, ◌∙◌}
use mathlib.Core.Bool.{Bool, true, false, cond, and-eq-true_iff}
use mathlib.Core.Logic.{dite}
use mathlib.Core.List.{List, [], ◌∷◌}
use Prim.Native.Nat.{ℕ, zero, suc, ◌+◌, ◌/◌, ◌%◌, ◌≤◌, ◌<◌, min, max, zero-le}
use native.Mathlib.Nat.{le_refl, le_trans, max-le, le-min}
use native.Mathlib.Decide.{ℕ_discrete}
use native.Mathlib.Omega.{arith}
use lib.Dec.{eqb}
use lib.ListN.{get_or}
use borrow.Author.Tests.{eq-eqb, ne_eqb, eqb-true}
use Rattle.domains.specs.Counts.{count}
use Rattle.domains.proofs.CountsLaws.{count_next, count_ext}
use Rattle.book.specs.declared.Row.{Row}
use Rattle.closing_model.specs.Table.{view, place, size, others, Closed, Within}
use Rattle.closing_model.specs.Sweep.{column_sum}
use Rattle.closing_model.specs.Start.{speaks, low_of, high_of, start_lowers, start_uppers}
use Rattle.closing_model.proofs.PlaceLaws.{place_value, place_prefix}
use Rattle.closing_model.proofs.SumLaws.{others_own}
use Rattle.closing_model.proofs.StartLaws.{start_lowers_at, start_uppers_at}
use Rattle.book.specs.Lists.{All}
use Rattle.settling_model.specs.Plans.{is, occurs, KeepsRow, occurs_table}
use Rattle.settling_model.proofs.StaircaseLaws.{staircase_le, count_staircase}

-- ---- is
pub is_same : (x v : ℕ) → x ≡ v → is x v ≡ 1
unfolding is
is_same x v same = rw (eq-eqb x v same)

pub is_other : (x v : ℕ) → (x ≡ v → ⊥) → is x v ≡ 0
unfolding is
is_other x v other = rw (ne_eqb x v other)

is_lt : (x v : ℕ) → is x v < 2
is_lt x v = dite (ℕ_discrete x v) (λ same. omega (arith, is_same x v same)) (λ other. omega (arith, is_other x v other))

-- ---- occurs
pub occurs_le : (p : List ℕ) (v t : ℕ) → occurs p v t ≤ t
occurs_le p v t = staircase_le t (occurs p v) (count_staircase t _ (λ s. is_lt (get_or p s 0) v)) t (le_refl t)

count_add : (f g : ℕ → ℕ) (t : ℕ) → count (λ s. f s + g s) t ≡ count f t + count g t
unfolding count
count_add f g zero = refl
count_add f g (suc t) = omega (arith, count_add f g t)

count_zero : (t : ℕ) → count (λ s. 0) t ≡ 0
unfolding count
count_zero zero = refl
count_zero (suc t) = omega (arith, count_zero t)

-- a value below k is one of the k
count_is : (x k : ℕ) → x < k → count (is x) k ≡ 1
unfolding count
count_is x zero x<k = absurd (omega arith)
count_is x (suc k) x<k = dite (ℕ_discrete x k) last (λ other. omega (arith, is_other x k other, count_is x k (omega arith)))
  where
    last : x ≡ k → count (is x) k + is x k ≡ 1
    last same = omega (arith, is_same x k same, count_ext (is x) (λ v. 0) k (λ v v<k. is_other x v (λ e. omega arith)), count_zero k)

-- before t stand t values
occurs_sum : (k : ℕ) (p : List ℕ) (t : ℕ) → ((s : ℕ) → s < t → get_or p s 0 < k) → count (λ v. occurs p v t) k ≡ t
unfolding count
occurs_sum k p zero below = count_zero k
occurs_sum k p (suc t) below =
    count_add (λ v. occurs p v t) (λ v. is (get_or p t 0) v) k
    ∙ omega (arith, occurs_sum k p t (λ s s<t. below s (omega arith)), count_is (get_or p t 0) k (below t (le_refl _)))

-- ---- occurs_table
column_sum_count : (n t : ℕ) (f : ℕ → ℕ) (k : ℕ) → column_sum n k f t ≡ count (λ v. f (place n v t)) k
unfolding count column_sum
column_sum_count n t f zero = refl
column_sum_count n t f (suc k) = omega (arith, column_sum_count n t f k)

module _ (n : ℕ) (p : List ℕ) where
  pub occurs_entry : (v t : ℕ) → t ≤ n → (occurs_table n p).lower (place n v t) ≡ occurs p v t
  occurs_entry v t t≤n = ap₂ (occurs p) (place_value n v t t≤n) (place_prefix n v t t≤n)

  occurs_next : (v t : ℕ) → t < n → (occurs_table n p).lower (place n v (t + 1)) ≡ occurs p v t + is (get_or p t 0) v
  occurs_next v t t<n = occurs_entry v (t + 1) (omega arith) ∙ count_next _ t

  module _ (k : ℕ) (below : (s : ℕ) → s < n → get_or p s 0 < k) where
    occurs_across : (v t : ℕ) → v < k → t ≤ n → (occurs_table n p).lower (place n v t) + others n k (occurs_table n p).lower v t ≡ t
    occurs_across v t v<k t≤n =
        let sum : column_sum n k (occurs_table n p).lower t ≡ t =
        column_sum_count n t (occurs_table n p).lower k ∙ count_ext _ _ k (λ w w<k. occurs_entry w t t≤n)
        ∙ occurs_sum k p t (λ s s<t. below s (omega arith))
        in
        omega (arith, others_own n t (occurs_table n p).lower v k v<k)

    pub occurs_closed : Closed n k (occurs_table n p)
    occurs_closed =
        record {
          lower_before = grows;
          lower_after = slowly;
          upper_before = slowly;
          upper_after = grows;
          lower_across = λ v t v<k t≤n. omega (arith, occurs_across v t v<k t≤n);
          upper_across = λ v t v<k t≤n. omega (arith, occurs_across v t v<k t≤n);
          uncrossed = λ v t v<k t≤n. le_refl _;
        }
      where
        grows : (v t : ℕ) → v < k → t < n → (occurs_table n p).lower (place n v t) ≤ (occurs_table n p).lower (place n v (t + 1))
        grows v t v<k t<n = omega (arith, occurs_entry v t (omega arith), occurs_next v t t<n)

        slowly : (v t : ℕ) → v < k → t < n → (occurs_table n p).lower (place n v (t + 1)) ≤ (occurs_table n p).lower (place n v t) + 1
        slowly v t v<k t<n = omega (arith, occurs_entry v t (omega arith), occurs_next v t t<n, is_lt (get_or p t 0) v)

-- ---- KeepsRow
-- a row that speaks of v and t bounds how often v occurs before t
row_keeps : (p : List ℕ) (r : Row) (v t : ℕ) → speaks r v t ≡ true → KeepsRow p r → (r.lower ≤ occurs p v t) × (occurs p v t ≤ r.upper)
row_keeps p r v t says keeps =
    let both = (and-eq-true_iff (eqb r.value v) (eqb r.end t)).0 says in
    let same : occurs p r.value r.end ≡ occurs p v t = ap₂ (occurs p) (eqb-true _ _ both.0) (eqb-true _ _ both.1) in
    (omega (arith, keeps.low), omega (arith, keeps.high))

-- a row with no upper bound asks nothing of an upper
pub unbounded_keeps : (p : List ℕ) (r : Row) → r.end ≤ 65535 → r.upper ≡ 65535 → r.lower ≤ occurs p r.value r.end → KeepsRow p r
unbounded_keeps p r end≤ none low = record { low = low; high = le_trans (occurs_le p r.value r.end) (omega arith) }

module _ (p : List ℕ) (v t : ℕ) where
  low_of_occurs : (rs : List Row) → All (KeepsRow p) rs → low_of rs v t ≤ occurs p v t
  unfolding low_of
  low_of_occurs [] keeps = zero-le
  low_of_occurs (r ∷ rs) keeps = go (speaks r v t) refl (low_of_occurs rs keeps.1)
    where
      go : (says : Bool) → speaks r v t ≡ says → low_of rs v t ≤ occurs p v t
          → cond says (max r.lower (low_of rs v t)) (low_of rs v t) ≤ occurs p v t
      go true says rest = max-le (row_keeps p r v t says keeps.0).0 rest
      go false says rest = rest

  occurs_high_of : (rs : List Row) → All (KeepsRow p) rs → occurs p v t ≤ high_of rs v t
  unfolding high_of
  occurs_high_of [] keeps = occurs_le p v t
  occurs_high_of (r ∷ rs) keeps = go (speaks r v t) refl (occurs_high_of rs keeps.1)
    where
      go : (says : Bool) → speaks r v t ≡ says → occurs p v t ≤ high_of rs v t
          → occurs p v t ≤ cond says (min r.upper (high_of rs v t)) (high_of rs v t)
      go true says rest = le-min (row_keeps p r v t says keeps.0).1 rest
      go false says rest = rest

pub occurs_within : (n k : ℕ) (rs : List Row) (p : List ℕ) → All (KeepsRow p) rs
    → Within (size n k) (view (start_lowers n k rs) (start_uppers n k rs)) (occurs_table n p)
occurs_within n k rs p keeps =
    record {
      lowers = λ q inside. rw (start_lowers_at n k rs q inside) (low_of_occurs p (q / (n + 1)) (q % (n + 1)) rs keeps);
      uppers = λ q inside. rw (start_uppers_at n k rs q inside) (occurs_high_of p (q / (n + 1)) (q % (n + 1)) rs keeps);
    }
