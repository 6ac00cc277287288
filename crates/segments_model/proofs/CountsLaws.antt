-- The laws of `count_of` of specs/Lines.antt and of `Counts` of specs/Build.antt: no count is above its prefix, the start, one step more
-- (`counts_next`), one step back (`counts_last`), and gain and loss from the counts. No contract cites this file. Assumes nothing.
use mathlib.Core.Path.{◌≡◌, sym}
use mathlib.Core.Bool.{Bool, true, false, cond}
use mathlib.Core.List.{List}
use Prim.Native.Nat.{ℕ, ◌+◌, ◌-◌, ◌≤◌, ◌<◌}
use native.Mathlib.Omega.{arith}
use lib.ListN.{get_or}
use Rattle.domains.specs.Mask.{test_bit}
use Rattle.domains.proofs.MaskLaws.{test_bit_lt}
use Rattle.domains.proofs.CountsLaws.{count_none, count_next, only_lt}
use Rattle.segments_model.specs.Lines.{line_of, tick, count_of, gain, loss}
use Rattle.segments_model.specs.Build.{Counts}
use Rattle.segments_model.proofs.SumLaws.{count_last, count_bound}
use Rattle.segments_model.proofs.LinesLaws.{line_none, line_next, line_last, line_bound}

-- ---- count_of

tick_lt : (kind : Bool) (m v : ℕ) → tick kind m v < 2
tick_lt true m v = test_bit_lt m v
tick_lt false m v = only_lt m v

pub count_of_bound : (kind : Bool) (M : List ℕ) (v t : ℕ) → count_of kind M v t ≤ t
count_of_bound kind M v t = count_bound (λ s. tick kind (get_or M s 0) v) (λ s. tick_lt kind (get_or M s 0) v) t

-- ---- Counts

pub counts_none : (kind : Bool) (rises M : List ℕ) (v : ℕ) → Counts kind rises M v 0 0 0
counts_none kind rises M v = record { risen_is = sym (line_none rises v); counted_is = sym (count_none _) }

module _ {kind : Bool} {rises M : List ℕ} {v t r k : ℕ} (counts : Counts kind rises M v t r k) where
  pub gain_is : cond kind k r ≡ gain kind (line_of rises v) M v t
  gain_is = gain_kind kind counts.risen_is counts.counted_is
    where
      gain_kind : (b : Bool) → r ≡ line_of rises v t → k ≡ count_of b M v t → cond b k r ≡ gain b (line_of rises v) M v t
      gain_kind true risen counted = counted
      gain_kind false risen counted = risen

  pub loss_is : cond kind r k ≡ loss kind (line_of rises v) M v t
  loss_is = loss_kind kind counts.risen_is counts.counted_is
    where
      loss_kind : (b : Bool) → r ≡ line_of rises v t → k ≡ count_of b M v t → cond b r k ≡ loss b (line_of rises v) M v t
      loss_kind true risen counted = risen
      loss_kind false risen counted = counted

  risen_bound : r ≤ t
  risen_bound = omega (arith, counts.risen_is, line_bound rises v t)

  counted_bound : k ≤ t
  counted_bound = omega (arith, counts.counted_is, count_of_bound kind M v t)

  pub choice_bound : (b : Bool) → cond b k r ≤ t
  choice_bound true = counted_bound
  choice_bound false = risen_bound

  -- one step more: o and p are what it adds
  pub risen_next : {o : ℕ} → o ≡ test_bit (get_or rises (t + 1) 0) v → r + o ≤ t + 1
  risen_next o_is = omega (arith, risen_bound, test_bit_lt (get_or rises (t + 1) 0) v)

  pub counted_next : {p : ℕ} → p ≡ tick kind (get_or M t 0) v → k + p ≤ t + 1
  counted_next p_is = omega (arith, counted_bound, tick_lt kind (get_or M t 0) v)

  pub counts_next : {o p : ℕ} → o ≡ test_bit (get_or rises (t + 1) 0) v → p ≡ tick kind (get_or M t 0) v → Counts kind rises M v (t + 1) (r + o) (k + p)
  counts_next o_is p_is =
      record {
        risen_is = omega (arith, counts.risen_is, o_is, line_next rises v t);
        counted_is = omega (arith, counts.counted_is, p_is, count_next (λ s. tick kind (get_or M s 0) v) t);
      }

  -- one step back
  pub risen_has : {o : ℕ} → 0 < t → o ≡ test_bit (get_or rises t 0) v → o ≤ r
  risen_has 0<t o_is = omega (arith, counts.risen_is, line_last rises v t 0<t)

  pub counted_has : {p : ℕ} → 0 < t → p ≡ tick kind (get_or M (t - 1) 0) v → p ≤ k
  counted_has 0<t p_is = omega (arith, counts.counted_is, count_last (λ s. tick kind (get_or M s 0) v) t 0<t)

  pub counts_last : {o p : ℕ} → 0 < t → o ≡ test_bit (get_or rises t 0) v → p ≡ tick kind (get_or M (t - 1) 0) v
      → Counts kind rises M v (t - 1) (r - o) (k - p)
  counts_last 0<t o_is p_is =
      record {
        risen_is = omega (arith, counts.risen_is, line_last rises v t 0<t);
        counted_is = omega (arith, counts.counted_is, count_last (λ s. tick kind (get_or M s 0) v) t 0<t);
      }
