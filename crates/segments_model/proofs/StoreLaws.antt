-- What each way of a fall stores, told by cells and sums: one less at t (`lessened`), the right end p gives way to t (`joined`), t is spent
-- (`emptied`). In each the sums from t on are one less. No contract cites this file. Assumes nothing.
use mathlib.Core.Path.{◌≡◌, ◌∙◌}
use mathlib.Core.List.{List}
use Prim.Native.Nat.{ℕ, ◌+◌, ◌≤◌, ◌<◌}
use native.Mathlib.Omega.{arith}
use lib.ListN.{length, get_or, set, length-set}
use lib.Seq.{get_or-set_same, get_or-set_other}
use Rattle.segments_model.specs.Cells.{sum_to}
use Rattle.segments_model.proofs.SumLaws.{sum_to_set_first, sum_to_set_before, sum_to_set_after}

-- ---- one less at t

pub record Lessened (l l' : List ℕ) (t : ℕ) : Type 0 where
  pub first : get_or l' 0 0 ≡ get_or l 0 0
  pub here : get_or l' t 0 + 1 ≡ get_or l t 0
  pub other : (i : ℕ) → (i ≡ t → ⊥) → get_or l' i 0 ≡ get_or l i 0
  pub below : (i : ℕ) → i < t → sum_to l' i ≡ sum_to l i
  pub above : (i : ℕ) → t ≤ i → sum_to l' i + 1 ≡ sum_to l i

pub lessened : (l : List ℕ) (t x : ℕ) → t < length l → 0 < t → x + 1 ≡ get_or l t 0 → Lessened l (set l t x) t
lessened l t x t<len 0<t less =
    record {
      first = get_or-set_other l t 0 x 0 (λ e. omega arith);
      here = omega (arith, get_or-set_same l t x 0 t<len);
      other = λ i i≢t. get_or-set_other l t i x 0 i≢t;
      below = λ i i<t. sum_to_set_before l x t i i<t;
      above = λ i t≤i. omega (arith, sum_to_set_after l x t i t<len 0<t t≤i);
    }

-- ---- a 1 at t gives way to what stands at p

pub record Joined (l l' : List ℕ) (p t : ℕ) : Type 0 where
  pub first : get_or l' 0 0 ≡ get_or l 0 0
  pub here : get_or l' t 0 ≡ get_or l p 0
  pub gone : get_or l' p 0 ≡ 0
  pub other : (i : ℕ) → (i ≡ t → ⊥) → (i ≡ p → ⊥) → get_or l' i 0 ≡ get_or l i 0
  pub below : (i : ℕ) → i < p → sum_to l' i ≡ sum_to l i
  pub above : (i : ℕ) → t ≤ i → sum_to l' i + 1 ≡ sum_to l i

pub joined : (l : List ℕ) (p t : ℕ) → t < length l → 0 < p → p < t → get_or l t 0 ≡ 1 → Joined l (set (set l t (get_or l p 0)) p 0) p t
joined l p t t<len 0<p p<t one_left =
    let x = get_or l p 0 in
    let m = set l t x in
    let p<len : p < length m = omega (arith, length-set l t x) in
    let m_p : get_or m p 0 ≡ x = get_or-set_other l t p x 0 (λ e. omega arith) in
    record {
      first = get_or-set_other m p 0 0 0 (λ e. omega arith) ∙ get_or-set_other l t 0 x 0 (λ e. omega arith);
      here = get_or-set_other m p t 0 0 (λ e. omega arith) ∙ get_or-set_same l t x 0 t<len;
      gone = get_or-set_same m p 0 0 p<len;
      other = λ i i≢t i≢p. get_or-set_other m p i 0 0 i≢p ∙ get_or-set_other l t i x 0 i≢t;
      below = λ i i<p. sum_to_set_before m 0 p i i<p ∙ sum_to_set_before l x t i (omega arith);
      above = λ i t≤i. omega (arith, sum_to_set_after m 0 p i p<len 0<p (omega arith), sum_to_set_after l x t i t<len (omega arith) t≤i);
    }

-- ---- a 1 at t goes, and t is the spent corner

pub record Emptied (l l' : List ℕ) (t : ℕ) : Type 0 where
  pub first : get_or l' 0 0 ≡ t
  pub here : get_or l' t 0 ≡ 0
  pub other : (i : ℕ) → (i ≡ t → ⊥) → 0 < i → get_or l' i 0 ≡ get_or l i 0
  pub above : (i : ℕ) → t ≤ i → sum_to l' i + 1 ≡ sum_to l i

pub emptied : (l : List ℕ) (t : ℕ) → t < length l → 0 < t → get_or l t 0 ≡ 1 → Emptied l (set (set l t 0) 0 t) t
emptied l t t<len 0<t one_left =
    let m = set l t 0 in
    record {
      first = get_or-set_same m 0 t 0 (omega (arith, length-set l t 0));
      here = get_or-set_other m 0 t t 0 (λ e. omega arith) ∙ get_or-set_same l t 0 0 t<len;
      other = λ i i≢t 0<i. get_or-set_other m 0 i t 0 (λ e. omega arith) ∙ get_or-set_other l t i 0 0 i≢t;
      above = λ i t≤i. omega (arith, sum_to_set_first m t i, sum_to_set_after l 0 t i t<len 0<t t≤i);
    }
