-- The laws of `specs/Rises.antt`, in its order. No contract cites this file. The ones that matter most: `test_bit_rise_mask` (bit v of the mask
-- at t says whether value v grows there), `closed_rises` (the rises of a closed table's lowers and uppers give it back).
-- Assumes nothing.
use mathlib.Core.Path.{◌≡◌, refl, sym, ap, ◌∙◌}
use mathlib.Core.Bool.{Bool, true, false, not}
use mathlib.Core.Logic.{dite}
use mathlib.Core.List.{List, ◌++◌}
use Prim.Native.Nat.{ℕ, zero, suc, ◌+◌, ◌-◌, ◌*◌, ◌^◌, ◌≤◌, ◌<◌}
use native.Mathlib.Nat.{mul-le-mul_right, pow-suc, le_refl, one-mul, zero-mul, add-zero}
use native.Mathlib.Numerals.{add-one}
use native.Mathlib.Decide.{ℕ_discrete}
use native.Mathlib.Omega.{arith}
use lib.Dec.{eqb}
use lib.ListN.{length, get_or, set, drop, length-set, get_or-append}
use lib.Seq.{drop-set-lt, drop_at, get_or-append-add, get_or-drop, get_or-set_other}
use borrow.Author.Tests.{eq-eqb, ne_eqb}
use Rattle.domains.specs.Counts.{bit}
use Rattle.domains.specs.Mask.{test_bit}
use Rattle.domains.proofs.MaskLaws.{test_bit_high, test_bit_put_same, test_bit_put_other}
use Rattle.book.specs.Layout.{list_of}
use Rattle.book.proofs.LayoutLaws.{length_list_of, get_d_list_of}
use Rattle.closing_model.specs.Table.{place, view, Closed}
use Rattle.closing_model.specs.Corners.{Staircase, line, bound_line}
use Rattle.closing_model.proofs.TableLaws.{closed_lower_staircase, closed_upper_staircase}
use Rattle.segments_model.specs.Lines.{Rising}
use Rattle.filter_model.specs.Rises.{rises_of, TableRises}
use Rattle.rises.specs.Rises.{grows, rise_mask, rise_masks, over_rises, Holds, Marks}
use Rattle.filling.proofs.FillLaws.{Filled, filled_none, filled_more}

-- ---- grows

pub grows_next : (n : ℕ) (l : List ℕ) (v t : ℕ) → grows n l v (suc t) ≡ not (eqb (get_or l (place n v (suc t)) 0) (get_or l (place n v t) 0))
unfolding grows
grows_next n l v t =
    let before : suc t - 1 ≡ t = omega arith in
    ap (λ (j : ℕ). not (eqb (get_or l (place n v (suc t)) 0) (get_or l (place n v j) 0))) before

-- a line that grows by 0 or 1
pub grows_step : (n : ℕ) (l : List ℕ) (v t : ℕ) → get_or l (place n v t) 0 ≤ get_or l (place n v (suc t)) 0
    → get_or l (place n v (suc t)) 0 ≤ get_or l (place n v t) 0 + 1
    → get_or l (place n v (suc t)) 0 ≡ get_or l (place n v t) 0 + bit (grows n l v (suc t))
grows_step n l v t grows slowly =
    let a : ℕ = get_or l (place n v t) 0 in
    let b : ℕ = get_or l (place n v (suc t)) 0 in
    dite (ℕ_discrete b a)
    (λ same. omega (arith, ap bit (grows_next n l v t ∙ ap not (eq-eqb b a same))))
    (λ other. omega (arith, ap bit (grows_next n l v t ∙ ap not (ne_eqb b a other))))

-- ---- rise_mask

put_below : (m v : ℕ) (b : Bool) → m < 2 ^ v → m + bit b * 2 ^ v < 2 ^ suc v
put_below m v true below = omega (arith, pow-suc 2 v)
put_below m v false below = omega (arith, pow-suc 2 v)

pub rise_mask_lt : (n : ℕ) (l : List ℕ) (k t : ℕ) → rise_mask n l k t < 2 ^ k
unfolding rise_mask
rise_mask_lt n l zero t = omega arith
rise_mask_lt n l (suc v) t = put_below (rise_mask n l v t) v (grows n l v t) (rise_mask_lt n l v t)

pub rise_mask_none : (n : ℕ) (l : List ℕ) (t : ℕ) → rise_mask n l 0 t ≡ 0
unfolding rise_mask
rise_mask_none n l t = refl

-- no value from k up
pub test_bit_rise_mask_high : (n : ℕ) (l : List ℕ) (k t w : ℕ) → k ≤ w → test_bit (rise_mask n l k t) w ≡ 0
test_bit_rise_mask_high n l k t w k≤w = test_bit_high k (rise_mask n l k t) w (rise_mask_lt n l k t) k≤w

put_same : (m v : ℕ) (b : Bool) → test_bit m v ≡ 0 → test_bit (m + bit b * 2 ^ v) v ≡ bit b
put_same m v true lacks = ap (λ (x : ℕ). test_bit (m + x) v) (one-mul (2 ^ v)) ∙ test_bit_put_same m v lacks
put_same m v false lacks = ap (λ (x : ℕ). test_bit (m + x) v) (zero-mul (2 ^ v)) ∙ ap (λ (x : ℕ). test_bit x v) (add-zero m) ∙ lacks

put_other : (m v w : ℕ) (b : Bool) → test_bit m v ≡ 0 → (w ≡ v → ⊥) → test_bit (m + bit b * 2 ^ v) w ≡ test_bit m w
put_other m v w true lacks other = ap (λ (x : ℕ). test_bit (m + x) w) (one-mul (2 ^ v)) ∙ test_bit_put_other m v w lacks other
put_other m v w false lacks other = ap (λ (x : ℕ). test_bit (m + x) w) (zero-mul (2 ^ v)) ∙ ap (λ (x : ℕ). test_bit x w) (add-zero m)

-- bit v says whether value v grows
pub test_bit_rise_mask : (n : ℕ) (l : List ℕ) (k t v : ℕ) → v < k → test_bit (rise_mask n l k t) v ≡ bit (grows n l v t)
unfolding rise_mask
test_bit_rise_mask n l zero t v v<k = absurd (omega arith)
test_bit_rise_mask n l (suc w) t v v<k =
    let lacks : test_bit (rise_mask n l w t) w ≡ 0 = test_bit_rise_mask_high n l w t w (le_refl w) in
    dite (ℕ_discrete v w)
    (λ same. rw same (put_same (rise_mask n l w t) w (grows n l w t) lacks))
    (λ other. put_other (rise_mask n l w t) w v (grows n l w t) lacks other ∙ test_bit_rise_mask n l w t v (omega arith))

-- one value more
pub rise_mask_more : (n : ℕ) (l : List ℕ) (v t : ℕ) → rise_mask n l (v + 1) t ≡ rise_mask n l v t + bit (grows n l v t) * 2 ^ v
unfolding rise_mask
rise_mask_more n l v t = ap (λ (j : ℕ). rise_mask n l j t) (add-one v)

-- one value more, as the code finds it: it compares the entries at two places next to each other
pub rise_mask_turn : (n : ℕ) (l : List ℕ) (v t : ℕ) {m m' : ℕ} {r : Bool} → 0 < t → m ≡ rise_mask n l v t
    → r ≡ not (eqb (get_or l (place n v t) 0) (get_or l (place n v t - 1) 0)) → m' ≡ m + bit r * 2 ^ v → m' ≡ rise_mask n l (v + 1) t
unfolding grows
rise_mask_turn n l v t 0<t m_is r_is put =
    let before : place n v t - 1 ≡ place n v (t - 1) = omega arith in
    put ∙ rw (m_is, r_is, before) (sym (rise_mask_more n l v t))

-- at prefix length 0 nothing grows
pub rise_mask_start : (n : ℕ) (l : List ℕ) (k : ℕ) → rise_mask n l k 0 ≡ 0
unfolding rise_mask grows
rise_mask_start n l zero = refl
rise_mask_start n l (suc v) =
    omega (arith, rise_mask_start n l v, ap (λ (x : Bool). bit (not x) * 2 ^ v) (eq-eqb (get_or l (place n v 0) 0) (get_or l (place n v 0) 0) refl))

-- ---- over_rises

-- the mask at t
pub get_d_over_rises : (n k : ℕ) (l lent : List ℕ) (t : ℕ) → t ≤ n → get_or (over_rises n k l lent) t 0 ≡ rise_mask n l k t
get_d_over_rises n k l lent t t≤n =
    get_or-append (rise_masks n k l) (drop (n + 1) lent) 0 t (omega (arith, length_list_of (n + 1) (rise_mask n l k)))
    ∙ get_d_list_of (n + 1) (rise_mask n l k) t 0 (omega arith)

-- the masks of no value are empty
pub over_rises_none : (n : ℕ) (l lent : List ℕ) → list_of (n + 1) (λ t. 0) ++ drop (n + 1) lent ≡ over_rises n 0 l lent
unfolding rise_mask
over_rises_none n l lent = refl

-- masks written over masks: only the later ones are seen
pub over_rises_twice : (n k j : ℕ) (l lent : List ℕ) → over_rises n k l (over_rises n j l lent) ≡ over_rises n k l lent
over_rises_twice n k j l lent =
    ap (λ (rest : List ℕ). rise_masks n k l ++ rest) (drop_at (rise_masks n j l) (drop (n + 1) lent) (n + 1) (length_list_of (n + 1) (rise_mask n l j)))

pub rises_over : (n k j : ℕ) (l lent : List ℕ) {s s' : List ℕ} → s ≡ over_rises n j l lent → s' ≡ over_rises n k l s → s' ≡ over_rises n k l lent
rises_over n k j l lent s_is s'_is = s'_is ∙ ap (λ (x : List ℕ). over_rises n k l x) s_is ∙ over_rises_twice n k j l lent

-- the masks give back a line that starts at 0 and grows by 0 or 1
pub staircase_rising : (n k : ℕ) (l lent : List ℕ) (v : ℕ) → v < k → Staircase n (line (λ p. get_or l p 0) n v)
    → Rising n v (over_rises n k l lent) (line (λ p. get_or l p 0) n v)
staircase_rising n k l lent v v<k stairs =
    record {
      start = stairs.start;
      steps = λ t t<n.
          grows_step n l v t (stairs.grows t t<n) (stairs.slowly t t<n)
          ∙ ap (λ (x : ℕ). get_or l (place n v t) 0 + x)
          (sym (ap (λ (m : ℕ). test_bit m v) (get_d_over_rises n k l lent (suc t) t<n) ∙ test_bit_rise_mask n l k (suc t) v v<k));
    }

-- the rises of the lowers and of the uppers give back a closed table
pub closed_rises : (n k : ℕ) (L U lent lent' : List ℕ) → Closed n k (view L U) → TableRises n k (view L U) (over_rises n k L lent) (over_rises n k U lent')
closed_rises n k L U lent lent' closed = record { rises = each }
  where
    each : (kind : Bool) (v : ℕ) → v < k → Rising n v (rises_of kind (over_rises n k L lent) (over_rises n k U lent')) (bound_line kind n (view L U) v)
    each true v v<k = staircase_rising n k L lent v v<k (closed_lower_staircase n k (view L U) closed v v<k)
    each false v v<k = staircase_rising n k U lent' v v<k (closed_upper_staircase n k (view L U) closed v v<k)

-- ---- Holds

-- a table of fewer values
pub holds_fewer : (n k j : ℕ) (l : List ℕ) → j ≤ k → Holds n k l → Holds n j l
holds_fewer n k j l j≤k holds =
    record { values = omega (arith, holds.values); entries = omega (arith, mul-le-mul_right (n + 1) j≤k, holds.entries) }

-- ---- Marks

pub over_rises_marks : (n k : ℕ) (l lent : List ℕ) {s : List ℕ} → s ≡ over_rises n k l lent → n < length s → Marks n k l s
over_rises_marks n k l lent {s} s_is room =
    record { long = room; each = λ t t≤n. ap (λ (x : List ℕ). get_or x t 0) s_is ∙ get_d_over_rises n k l lent t t≤n }

-- a place that is not filled is as lent
filled_rest : (f : ℕ → ℕ) {l : List ℕ} {p : ℕ} {s : List ℕ} → Filled f l p s → get_or s p 0 ≡ get_or l p 0
filled_rest f {l} {p} {s} filled =
    let front : List ℕ = list_of p f in
    let seam : p ≡ length front + 0 = omega (arith, length_list_of p f) in
    let start : p + 0 ≡ p = omega arith in
    ap (λ (x : List ℕ). get_or x p 0) filled.front
    ∙ ap (λ (j : ℕ). get_or (front ++ drop p l) j 0) seam
    ∙ get_or-append-add front (drop p l) 0 0
    ∙ get_or-drop p l 0 0
    ∙ ap (λ (j : ℕ). get_or l j 0) start

-- the mask at t + 1, where those up to t are written
pub marks_rest : (f : ℕ → ℕ) (n v : ℕ) (l lent : List ℕ) (t : ℕ) {s : List ℕ} → Marks n v l lent → Filled f (set lent 0 0) (t + 1) s → t < n
    → get_or s (t + 1) 0 ≡ rise_mask n l v (t + 1)
marks_rest f n v l lent t marks filled t<n =
    filled_rest f filled ∙ get_or-set_other lent 0 (t + 1) 0 0 (λ first. omega arith) ∙ marks.each (t + 1) (omega arith)

-- ---- the masks written one by one, that of prefix length 0 before the others

module _ (n k : ℕ) (l lent : List ℕ) where
  pub rises_start : 0 < length lent → Filled (rise_mask n l k) (set lent 0 0) 1 (set lent 0 0)
  rises_start room =
      let first = filled_more (rise_mask n l k) 0 (sym (rise_mask_start n l k)) room (filled_none (rise_mask n l k) lent) in
      record {
        within = omega (arith, length-set lent 0 0);
        long = refl;
        front = first.front ∙ ap (λ (rest : List ℕ). list_of 1 (rise_mask n l k) ++ rest) (sym (drop-set-lt 1 lent 0 0 (omega arith)));
      }

  pub rises_all : {t : ℕ} {s : List ℕ} → t ≡ n + 1 → Filled (rise_mask n l k) (set lent 0 0) t s → s ≡ over_rises n k l lent
  rises_all {t} {s} all filled =
      filled.front
      ∙ ap (λ (j : ℕ). list_of j (rise_mask n l k) ++ drop j (set lent 0 0)) all
      ∙ ap (λ (rest : List ℕ). rise_masks n k l ++ rest) (drop-set-lt (n + 1) lent 0 0 (omega arith))
