-- The laws of `count` of domains, and of `up_to` and `sum_to` of specs/Cells.antt: a step, order, a stretch of zeros, a change at one place
-- (`count_before`, `count_after`), and from these what a store does to the sums (`sum_to_set_before`, `sum_to_set_after`).
-- No contract cites this file. Assumes nothing.
use mathlib.Core.Path.{◌≡◌, refl, sym, ap}
use mathlib.Core.Logic.{dite}
use mathlib.Core.List.{List}
use Prim.Native.Nat.{ℕ, zero, suc, ◌+◌, ◌-◌, ◌≤◌, ◌<◌}
use native.Mathlib.Nat.{le_refl, suc_inj}
use native.Mathlib.Numerals.{add-one}
use native.Mathlib.Decide.{ℕ_discrete}
use native.Mathlib.Omega.{arith}
use lib.ListN.{length, get_or, set}
use lib.Seq.{get_or-set_same, get_or-set_other}
use Rattle.domains.specs.Counts.{count}
use Rattle.domains.proofs.CountsLaws.{count_ext}
use Rattle.segments_model.specs.Cells.{up_to, sum_to}

-- ---- count

module _ (f : ℕ → ℕ) where
  pub count_last : (t : ℕ) → 0 < t → count f t ≡ count f (t - 1) + f (t - 1)
  unfolding count
  count_last zero 0<t = absurd (omega arith)
  count_last (suc t) 0<t = let e : suc t - 1 ≡ t = omega arith in rw e

  pub count_grows : (a b : ℕ) → a ≤ b → count f a ≤ count f b
  unfolding count
  count_grows a zero a≤b = let e : a ≡ 0 = omega arith in rw e (le_refl _)
  count_grows a (suc b) a≤b =
      dite (ℕ_discrete a (suc b)) (λ e. rw e (le_refl _)) (λ ne. omega (arith, count_grows a b (omega arith)))

  -- from a to b where all between is 0
  pub count_flat : (a b : ℕ) → a ≤ b → ((s : ℕ) → a ≤ s → s < b → f s ≡ 0) → count f b ≡ count f a
  unfolding count
  count_flat a zero a≤b none = let e : a ≡ 0 = omega arith in rw e
  count_flat a (suc b) a≤b none =
      dite (ℕ_discrete a (suc b)) (λ e. ap (count f) (sym e))
      (λ ne. omega (arith, count_flat a b (omega arith) (λ s a≤s s<b. none s a≤s (omega arith)), none b (omega arith) (le_refl _)))

  pub count_bound : ((s : ℕ) → f s < 2) → (t : ℕ) → count f t ≤ t
  unfolding count
  count_bound small zero = le_refl _
  count_bound small (suc t) = omega (arith, count_bound small t, small t)

-- a change at s alone
module _ (f g : ℕ → ℕ) (s : ℕ) (other : (r : ℕ) → (r ≡ s → ⊥) → g r ≡ f r) where
  pub count_before : (t : ℕ) → t ≤ s → count g t ≡ count f t
  count_before t t≤s = count_ext g f t (λ r r<t. other r (λ e. omega arith))

  pub count_after : (t : ℕ) → s < t → count g t + f s ≡ count f t + g s
  unfolding count
  count_after zero s<t = absurd (omega arith)
  count_after (suc t) s<t =
      dite (ℕ_discrete t s) (λ e. omega (arith, count_before t (omega arith), ap f e, ap g e))
      (λ ne. omega (arith, count_after t (omega arith), other t ne))

-- ---- up_to

module _ (g : ℕ → ℕ) where
  pub up_to_none : up_to g 0 ≡ 0
  unfolding count
  up_to_none = refl

  pub up_to_suc : (t : ℕ) → up_to g (suc t) ≡ up_to g t + g (suc t)
  unfolding count
  up_to_suc t = refl

  pub up_to_next : (t : ℕ) → up_to g (t + 1) ≡ up_to g t + g (t + 1)
  up_to_next t = rw add-one (up_to_suc t)

  pub up_to_last : (t : ℕ) → 0 < t → up_to g t ≡ up_to g (t - 1) + g t
  up_to_last zero 0<t = absurd (omega arith)
  up_to_last (suc t) 0<t = let e : suc t - 1 ≡ t = omega arith in rw e (up_to_suc t)

  pub up_to_flat : (a b : ℕ) → a ≤ b → ((i : ℕ) → a < i → i ≤ b → g i ≡ 0) → up_to g b ≡ up_to g a
  up_to_flat a b a≤b none = count_flat (λ s. g (suc s)) a b a≤b (λ s a≤s s<b. none (suc s) (omega arith) (omega arith))

  pub up_to_grows : (a b : ℕ) → a ≤ b → up_to g a ≤ up_to g b
  up_to_grows a b a≤b = count_grows (λ s. g (suc s)) a b a≤b

  -- what comes after a stands on top of the sum at a
  pub up_to_above : (a b : ℕ) → a < b → up_to g a + g b ≤ up_to g b
  up_to_above a b a<b = omega (arith, up_to_last b (omega arith), up_to_grows a (b - 1) (omega arith))

-- equal at each, equal in sum
pub up_to_ext : (g h : ℕ → ℕ) (t : ℕ) → ((i : ℕ) → 0 < i → i ≤ t → g i ≡ h i) → up_to g t ≡ up_to h t
up_to_ext g h t same = count_ext (λ s. g (suc s)) (λ s. h (suc s)) t (λ s s<t. same (suc s) (omega arith) (omega arith))

-- ---- sum_to

module _ (l : List ℕ) where
  pub sum_to_cell : (t : ℕ) → 0 < t → get_or l t 0 ≤ sum_to l t
  sum_to_cell t 0<t = omega (arith, up_to_above (λ i. get_or l i 0) 0 t 0<t)

  -- a right end after t has a greater sum
  pub sum_to_rises : (t w : ℕ) → t < w → 0 < get_or l w 0 → sum_to l t < sum_to l w
  sum_to_rises t w t<w stands = omega (arith, up_to_above (λ i. get_or l i 0) t w t<w)

-- a store at q: the sums before it, and those that have it; cell 0 is in none
module _ (l : List ℕ) (x : ℕ) where
  store_other : (q s : ℕ) → (s ≡ q → ⊥) → get_or (set l (suc q) x) (suc s) 0 ≡ get_or l (suc s) 0
  store_other q s s≢q = get_or-set_other l (suc q) (suc s) x 0 (λ e. s≢q (suc_inj e))

  pub sum_to_set_first : (i : ℕ) → sum_to (set l 0 x) i ≡ sum_to l i
  sum_to_set_first i = up_to_ext (λ j. get_or (set l 0 x) j 0) (λ j. get_or l j 0) i (λ j 0<j j≤i. get_or-set_other l 0 j x 0 (λ e. omega arith))

  pub sum_to_set_before : (q i : ℕ) → i < q → sum_to (set l q x) i ≡ sum_to l i
  sum_to_set_before zero i i<q = absurd (omega arith)
  sum_to_set_before (suc q) i i<q =
      count_before (λ s. get_or l (suc s) 0) (λ s. get_or (set l (suc q) x) (suc s) 0) q (store_other q) i (omega arith)

  pub sum_to_set_after : (q i : ℕ) → q < length l → 0 < q → q ≤ i → sum_to (set l q x) i + get_or l q 0 ≡ sum_to l i + x
  sum_to_set_after zero i q<len 0<q q≤i = absurd (omega arith)
  sum_to_set_after (suc q) i q<len 0<q q≤i =
      omega (
        arith,
        get_or-set_same l (suc q) x 0 q<len,
        count_after (λ s. get_or l (suc s) 0) (λ s. get_or (set l (suc q) x) (suc s) 0) q (store_other q) i (omega arith),
      )
