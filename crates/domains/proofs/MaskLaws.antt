-- The laws of `specs/Mask.antt`, in its order, each by the lowest bit first. No contract cites this file. The ones that matter most:
-- `test_bit_clear_bit_same`, `test_bit_clear_bit_other` (what taking a value out does), `ones_clear_bit` (the ones fall by one),
-- `test_bit_ext` (the same bits, the same mask), `single_fixed` and `fixed_single` (one value: a power of two), `fixed_words` and
-- `words_fixed` (document 01's words for a fixed slot).
-- Assumes nothing.
use mathlib.Core.Path.{◌≡◌, refl, sym, ap, ◌∙◌}
use mathlib.Core.Logic.{dite}
use Prim.Native.Nat.{ℕ, zero, suc, ◌+◌, ◌*◌, ◌/◌, ◌%◌, ◌^◌, ◌≤◌, ◌<◌, zero-le, suc-le-suc}
use native.Mathlib.Nat.{le_refl, le_trans, le_antisymm, le_of_eq, lt_of_lt_of_le, zero-add, one-mul, mul_assoc, mul-le-mul_right, pow-suc}
use native.Mathlib.Nat.{zero-div, div-one, div_self, div-mul-le_self, div-eq_of_lt, add-div_right, mod-le, mod-eq_of_lt}
use native.Mathlib.Numerals.{one-add}
use native.Mathlib.Omega.{arith}
use native.Mathlib.Decide.{ℕ_discrete}
use lib.Arith.{bin_ind}
use lib.Pow.{shr-shr, pow_pos, pow_mono, pow-lt}
use lib.Count.{ones, ones_step, count_trailing_zeros, under}
use Rattle.domains.specs.Mask.{test_bit, clear_bit, MaskSubset, Has, Fixed, Lowest}

-- ---- test_bit

-- a bit is 0 or 1
pub test_bit_lt : (m v : ℕ) → test_bit m v < 2
unfolding test_bit
test_bit_lt m v = omega arith

-- bit 0 is the lowest digit, and bit v + 1 is bit v of the half
pub test_bit_zero : (m : ℕ) → test_bit m 0 ≡ m % 2
unfolding test_bit
test_bit_zero m = ap (λ (x : ℕ). x % 2) (div-one m)

pub test_bit_suc : (m v : ℕ) → test_bit m (suc v) ≡ test_bit (m / 2) v
unfolding test_bit
test_bit_suc m v = ap (λ (x : ℕ). x % 2) (ap (λ (k : ℕ). m / 2 ^ k) (sym (one-add v)) ∙ sym (shr-shr m 1 v))

-- the bit, at its place, is part of the number
pub test_bit_le : (m v : ℕ) → test_bit m v * 2 ^ v ≤ m
unfolding test_bit
test_bit_le m v = le_trans (mul-le-mul_right (2 ^ v) (mod-le (m / 2 ^ v) 2)) (div-mul-le_self m (2 ^ v))

-- the mask with no value
pub test_bit_empty : (v : ℕ) → test_bit 0 v ≡ 0
unfolding test_bit
test_bit_empty v = ap (λ (x : ℕ). x % 2) (zero-div (2 ^ v))

-- a number of k bits has none at or above k
pub test_bit_high : (k m w : ℕ) → m < 2 ^ k → k ≤ w → test_bit m w ≡ 0
unfolding test_bit
test_bit_high k m w h l = ap (λ (x : ℕ). x % 2) (div-eq_of_lt (lt_of_lt_of_le h (pow_mono l)))

-- numbers of k bits with the same bits are equal
pub test_bit_ext_below : (k a b : ℕ) → a < 2 ^ k → b < 2 ^ k → ((w : ℕ) → w < k → test_bit a w ≡ test_bit b w) → a ≡ b
test_bit_ext_below zero a b ha hb h = omega arith
test_bit_ext_below (suc k) a b ha hb h =
    let low : a % 2 ≡ b % 2 = sym (test_bit_zero a) ∙ h 0 (omega arith) ∙ test_bit_zero b in
    let half : a / 2 ≡ b / 2 =
    test_bit_ext_below k (a / 2) (b / 2) (omega (arith, pow-suc 2 k)) (omega (arith, pow-suc 2 k))
    (λ w l. sym (test_bit_suc a w) ∙ h (suc w) (suc-le-suc l) ∙ test_bit_suc b w)
    in
    omega arith

below_pow : (m : ℕ) → m < 2 ^ m
below_pow zero = omega arith
below_pow (suc m) = omega (arith, pow-suc 2 m, below_pow m)

-- the same bits, the same mask, whatever the width
pub test_bit_ext : (a b : ℕ) → ((w : ℕ) → test_bit a w ≡ test_bit b w) → a ≡ b
test_bit_ext a b same =
    test_bit_ext_below (a + b) a b (lt_of_lt_of_le (below_pow a) (pow_mono (omega arith))) (lt_of_lt_of_le (below_pow b) (pow_mono (omega arith)))
    (λ w w<k. same w)

-- ---- clear_bit

-- clear_bit, in the same steps
pub clear_bit_zero : (m : ℕ) → clear_bit m 0 ≡ m / 2 * 2
unfolding clear_bit
clear_bit_zero m = omega (arith, test_bit_zero m)

pub clear_bit_suc : (m v : ℕ) → clear_bit m (suc v) ≡ clear_bit (m / 2) v * 2 + m % 2
unfolding clear_bit
clear_bit_suc m v =
    let b = test_bit (m / 2) v in
    let p : b * 2 ^ suc v ≡ b * 2 ^ v * 2 = ap (λ (x : ℕ). b * x) (pow-suc 2 v) ∙ sym (mul_assoc b (2 ^ v) 2) in
    let q : test_bit m (suc v) * 2 ^ suc v ≡ b * 2 ^ v * 2 = ap (λ (x : ℕ). x * 2 ^ suc v) (test_bit_suc m v) ∙ p in
    omega (arith, test_bit_le (m / 2) v)

clear_bit_half : (m v : ℕ) → clear_bit m (suc v) / 2 ≡ clear_bit (m / 2) v
clear_bit_half m v = omega (arith, clear_bit_suc m v)

clear_bit_odd : (m v : ℕ) → clear_bit m (suc v) % 2 ≡ m % 2
clear_bit_odd m v = omega (arith, clear_bit_suc m v)

pub clear_bit_le : (m v : ℕ) → clear_bit m v ≤ m
unfolding clear_bit
clear_bit_le m v = omega arith

-- a value that is in, taken out, is one bit less
pub clear_bit_has : (m v : ℕ) → Has m v → clear_bit m v + 2 ^ v ≡ m
unfolding clear_bit
clear_bit_has m v has = rw has (omega (arith, rw has at (test_bit_le m v)))

-- the bit is gone
pub test_bit_clear_bit_same : (m v : ℕ) → test_bit (clear_bit m v) v ≡ 0
test_bit_clear_bit_same m zero = test_bit_zero (clear_bit m 0) ∙ omega (arith, clear_bit_zero m)
test_bit_clear_bit_same m (suc v) = test_bit_suc (clear_bit m (suc v)) v ∙ ap (λ (x : ℕ). test_bit x v) (clear_bit_half m v) ∙ test_bit_clear_bit_same (m / 2) v

-- every other bit is as it was
pub test_bit_clear_bit_other : (m v w : ℕ) → (w ≡ v → ⊥) → test_bit (clear_bit m v) w ≡ test_bit m w
test_bit_clear_bit_other m zero zero h = absurd (h refl)
test_bit_clear_bit_other m zero (suc w) h = test_bit_suc (clear_bit m 0) w ∙ ap (λ (x : ℕ). test_bit x w) (omega (arith, clear_bit_zero m)) ∙ sym (test_bit_suc m w)
test_bit_clear_bit_other m (suc v) zero h = test_bit_zero (clear_bit m (suc v)) ∙ clear_bit_odd m v ∙ sym (test_bit_zero m)
test_bit_clear_bit_other m (suc v) (suc w) h =
    test_bit_suc (clear_bit m (suc v)) w ∙ ap (λ (x : ℕ). test_bit x w) (clear_bit_half m v)
    ∙ test_bit_clear_bit_other (m / 2) v w (λ e. h (ap suc e)) ∙ sym (test_bit_suc m w)

-- no bit comes in
pub test_bit_clear_bit_le : (m v w : ℕ) → test_bit (clear_bit m v) w ≤ test_bit m w
test_bit_clear_bit_le m v w =
    dite (ℕ_discrete w v) (λ same. omega (arith, ap (λ (x : ℕ). test_bit (clear_bit m v) x) same, test_bit_clear_bit_same m v))
    (λ other. le_of_eq (test_bit_clear_bit_other m v w other))

-- ---- a value put in

-- a bit put in where it was not: clear_bit takes it out again
pub test_bit_put_same : (m v : ℕ) → test_bit m v ≡ 0 → test_bit (m + 2 ^ v) v ≡ 1
unfolding test_bit
test_bit_put_same m v e =
    let q : (m + 2 ^ v) / 2 ^ v ≡ m / 2 ^ v + 1 = add-div_right m (pow_pos v) in
    omega (arith, q)

pub clear_bit_put : (m v : ℕ) → test_bit m v ≡ 0 → clear_bit (m + 2 ^ v) v ≡ m
unfolding clear_bit
clear_bit_put m v e = rw (test_bit_put_same m v e) (omega arith)

pub test_bit_put_other : (m v w : ℕ) → test_bit m v ≡ 0 → (w ≡ v → ⊥) → test_bit (m + 2 ^ v) w ≡ test_bit m w
test_bit_put_other m v w e ne = sym (test_bit_clear_bit_other (m + 2 ^ v) v w ne) ∙ ap (λ (x : ℕ). test_bit x w) (clear_bit_put m v e)

-- the sum has no more digits
pub put_lt : (k m v : ℕ) → v < k → m < 2 ^ k → test_bit m v ≡ 0 → m + 2 ^ v < 2 ^ k
put_lt (suc k) m zero h l e = omega (arith, pow-suc 2 k, test_bit_zero m)
put_lt (suc k) m (suc v) h l e =
    omega (arith, pow-suc 2 k, pow-suc 2 v, put_lt k (m / 2) v (omega arith) (omega (arith, pow-suc 2 k)) (sym (test_bit_suc m v) ∙ e))
put_lt zero m v h l e = absurd (omega arith)

-- ---- ones

pub ones_none : ones 0 ≡ 0
unfolding ones
ones_none = refl

-- no bit set: the number is 0
pub ones_empty : (m : ℕ) → ones m ≡ 0 → m ≡ 0
ones_empty = bin_ind (λ (m : ℕ). ones m ≡ 0 → m ≡ 0) (λ e. refl) λ m ih e. omega (arith, ones_step m, ih (omega (arith, ones_step m)))

-- a value taken out: the ones fall by one where it was in
pub ones_clear_bit : (m v : ℕ) → ones (clear_bit m v) + test_bit m v ≡ ones m
ones_clear_bit m zero =
    let half : clear_bit m 0 / 2 ≡ m / 2 = omega (arith, clear_bit_zero m) in
    omega (arith, ones_step (clear_bit m 0), ones_step m, ap ones half, test_bit_zero m, clear_bit_zero m)
ones_clear_bit m (suc v) =
    omega (arith, ones_step (clear_bit m (suc v)), ones_step m, ap ones (clear_bit_half m v), clear_bit_odd m v, ones_clear_bit (m / 2) v, test_bit_suc m v)

-- bits that are all among another number's are no more
pub ones_subset : (a b : ℕ) → ((v : ℕ) → test_bit a v ≤ test_bit b v) → ones a ≤ ones b
ones_subset =
    bin_ind (λ (a : ℕ). (b : ℕ) → ((v : ℕ) → test_bit a v ≤ test_bit b v) → ones a ≤ ones b)
    (λ b h. omega (arith, ones_step 0, ones_none))
    λ a ih b h.
    let low : a % 2 ≤ b % 2 = omega (arith, h 0, test_bit_zero a, test_bit_zero b) in
    let rest : (v : ℕ) → test_bit (a / 2) v ≤ test_bit (b / 2) v = λ v. omega (arith, h (suc v), test_bit_suc a v, test_bit_suc b v) in
    omega (arith, ones_step a, ones_step b, ih (b / 2) rest)

-- no other values and no fewer: the same mask
pub ones_same : (a b : ℕ) → ((v : ℕ) → test_bit a v ≤ test_bit b v) → ones b ≤ ones a → a ≡ b
ones_same =
    bin_ind (λ (a : ℕ). (b : ℕ) → ((v : ℕ) → test_bit a v ≤ test_bit b v) → ones b ≤ ones a → a ≡ b)
    (λ b sub more. sym (ones_empty b (omega (arith, ones_none))))
    λ a ih b sub more.
    let low : a % 2 ≤ b % 2 = omega (arith, sub 0, test_bit_zero a, test_bit_zero b) in
    let rest : (v : ℕ) → test_bit (a / 2) v ≤ test_bit (b / 2) v = λ v. omega (arith, sub (suc v), test_bit_suc a v, test_bit_suc b v) in
    let half : a / 2 ≡ b / 2 = ih (b / 2) rest (omega (arith, ones_step a, ones_step b)) in
    omega (arith, ones_step a, ones_step b, ones_subset (a / 2) (b / 2) rest)

-- ---- Fixed

-- a power of two has its value, and no other
pub test_bit_fixed_same : (v : ℕ) → test_bit (2 ^ v) v ≡ 1
unfolding test_bit
test_bit_fixed_same v = ap (λ (x : ℕ). x % 2) (div_self (pow_pos v))

pub test_bit_fixed_other : (v w : ℕ) → (w ≡ v → ⊥) → test_bit (2 ^ v) w ≡ 0
test_bit_fixed_other v w w≢v =
    ap (λ (m : ℕ). test_bit m w) (sym (zero-add (2 ^ v))) ∙ test_bit_put_other 0 v w (test_bit_empty v) w≢v ∙ test_bit_empty w

-- fixed to v, in document 01's words: v is its only value; both directions
pub fixed_words : (m v : ℕ) → Fixed m v → Has m v × ((w : ℕ) → (w ≡ v → ⊥) → test_bit m w ≡ 0)
fixed_words m v fixed = (rw fixed (test_bit_fixed_same v), λ w w≢v. rw fixed (test_bit_fixed_other v w w≢v))

pub words_fixed : (m v : ℕ) → Has m v → ((w : ℕ) → (w ≡ v → ⊥) → test_bit m w ≡ 0) → Fixed m v
words_fixed m v has alone =
    test_bit_ext m (2 ^ v)
    (λ w.
    dite (ℕ_discrete w v) (λ e. rw e (has ∙ sym (test_bit_fixed_same v))) (λ w≢v. alone w w≢v ∙ sym (test_bit_fixed_other v w w≢v)))

-- within a mask fixed to v, and has v, or not empty: fixed to v
pub fixed_has : (m v : ℕ) → Has m v → ((w : ℕ) → test_bit m w ≤ test_bit (2 ^ v) w) → Fixed m v
fixed_has m v has sub = words_fixed m v has (λ w w≢v. omega (arith, sub w, test_bit_fixed_other v w w≢v))

pub fixed_within : (m v : ℕ) → (m ≡ 0 → ⊥) → ((w : ℕ) → test_bit m w ≤ test_bit (2 ^ v) w) → Fixed m v
fixed_within m v m≢0 sub =
    dite (ℕ_discrete (test_bit m v) 1) (λ has. fixed_has m v has sub)
    (λ lacks.
    absurd
    (m≢0
    (test_bit_ext m 0
    (λ w.
    dite (ℕ_discrete w v) (λ e. rw e (omega (arith, test_bit_lt m v, test_bit_empty v)))
    (λ w≢v. omega (arith, sub w, test_bit_fixed_other v w w≢v, test_bit_empty w))))))

-- one value: fixed to it; both directions, the second by the count of trailing zeros
pub fixed_single : (m v : ℕ) → Fixed m v → ones m ≡ 1
fixed_single m v fixed =
    rw fixed
    (let none : clear_bit (2 ^ v) v ≡ 0 =
    test_bit_ext (clear_bit (2 ^ v) v) 0
    (λ w.
    dite (ℕ_discrete w v) (λ e. rw e (test_bit_clear_bit_same (2 ^ v) v ∙ sym (test_bit_empty v)))
    (λ w≢v. test_bit_clear_bit_other (2 ^ v) v w w≢v ∙ test_bit_fixed_other v w w≢v ∙ sym (test_bit_empty w)))
    in
    omega (arith, ones_clear_bit (2 ^ v) v, ap ones none, ones_none, test_bit_fixed_same v))

one_not_zero : (m : ℕ) → m ≡ 0 → ones m ≡ 1 → ⊥
one_not_zero m z e = omega (arith, ap ones z, ones_none)

-- one step of the next law: the lowest bit d is 0, and the half has the one bit, or it is 1, and the half is 0
trailing_step : (k m d : ℕ) → m % 2 ≡ d → d < 2 → ones m ≡ 1
    → (ones (m / 2) ≡ 1 → (count_trailing_zeros k (m / 2) < k) × (m / 2 ≡ 2 ^ count_trailing_zeros k (m / 2)))
    → (under (m % 2) (count_trailing_zeros k (m / 2)) < suc k) × (m ≡ 2 ^ under (m % 2) (count_trailing_zeros k (m / 2)))
trailing_step k m zero p h e ih =
    let t = count_trailing_zeros k (m / 2) in
    let s = ih (omega (arith, ones_step m)) in
    rw p (suc-le-suc s.0, omega (arith, s.1, pow-suc 2 t))
trailing_step k m (suc zero) p h e ih =
    let half : m / 2 ≡ 0 = ones_empty (m / 2) (omega (arith, ones_step m)) in
    rw p (suc-le-suc zero-le, omega arith)
trailing_step k m (suc (suc d)) p h e ih = absurd (omega arith)

pub single_fixed : (k m : ℕ) → m < 2 ^ k → ones m ≡ 1 → (count_trailing_zeros k m < k) × Fixed m (count_trailing_zeros k m)
unfolding count_trailing_zeros
single_fixed zero m h e = absurd (one_not_zero m (omega arith) e)
single_fixed (suc k) m h e =
    trailing_step k m (m % 2) refl (omega arith) e (λ o. single_fixed k (m / 2) (omega (arith, pow-suc 2 k)) o)

-- where one value is in, every other is not
pub single_alone : (m v w : ℕ) → ones m ≡ 1 → Has m v → (w ≡ v → ⊥) → test_bit m w ≡ 0
single_alone m v w one has w≢v =
    let none : clear_bit m v ≡ 0 = ones_empty (clear_bit m v) (omega (arith, ones_clear_bit m v)) in
    sym (test_bit_clear_bit_other m v w w≢v) ∙ ap (λ (x : ℕ). test_bit x w) none ∙ test_bit_empty w

-- a 1 that is shifted to v's place
pub shifted : (v : ℕ) → v < 32 → 1 * 2 ^ v % 2 ^ 32 ≡ 2 ^ v
shifted v v<32 = ap (λ (x : ℕ). x % 2 ^ 32) (one-mul (2 ^ v)) ∙ mod-eq_of_lt (pow-lt v<32)

-- ---- Lowest

even_first : (m t : ℕ) → m % 2 ≡ 0 → ((w : ℕ) → w < t → test_bit (m / 2) w ≡ 0) → (w : ℕ) → w < suc t → test_bit m w ≡ 0
even_first m t even first zero inside = test_bit_zero m ∙ even
even_first m t even first (suc w) inside = test_bit_suc m w ∙ first w (omega arith)

-- one step of the next law: the lowest bit d is 0, and the half has a bit, or it is 1
lowest_step : (k m d : ℕ) → m % 2 ≡ d → d < 2 → 0 < m → (0 < m / 2 → (count_trailing_zeros k (m / 2) < k) × Lowest (m / 2) (count_trailing_zeros k (m / 2)))
    → (under (m % 2) (count_trailing_zeros k (m / 2)) < suc k) × Lowest m (under (m % 2) (count_trailing_zeros k (m / 2)))
lowest_step k m zero p h some ih =
    let t = count_trailing_zeros k (m / 2) in
    let s = ih (omega arith) in
    rw p (suc-le-suc s.0, record { has = test_bit_suc m t ∙ s.1.has; first = even_first m t p s.1.first })
lowest_step k m (suc zero) p h some ih =
    rw p (suc-le-suc zero-le, record { has = test_bit_zero m ∙ p; first = λ w w<0. absurd (omega arith) })
lowest_step k m (suc (suc d)) p h some ih = absurd (omega arith)

pub trailing_lowest : (k m : ℕ) → m < 2 ^ k → 0 < m → (count_trailing_zeros k m < k) × Lowest m (count_trailing_zeros k m)
unfolding count_trailing_zeros
trailing_lowest zero m h some = absurd (omega arith)
trailing_lowest (suc k) m h some =
    lowest_step k m (m % 2) refl (omega arith) some (λ half. trailing_lowest k (m / 2) (omega (arith, pow-suc 2 k)) half)

-- ---- MaskSubset

pub mask_subset_refl : (a : ℕ) → MaskSubset a a
mask_subset_refl a = record { bits = λ v. le_refl (test_bit a v) }

pub mask_subset_trans : {a b c : ℕ} → MaskSubset a b → MaskSubset b c → MaskSubset a c
mask_subset_trans a⊆b b⊆c = record { bits = λ v. le_trans (a⊆b.bits v) (b⊆c.bits v) }

pub mask_subset_antisym : {a b : ℕ} → MaskSubset a b → MaskSubset b a → a ≡ b
mask_subset_antisym {a} {b} a⊆b b⊆a = test_bit_ext a b (λ v. le_antisymm (a⊆b.bits v) (b⊆a.bits v))

pub mask_subset_clear_bit : (m v : ℕ) → MaskSubset (clear_bit m v) m
mask_subset_clear_bit m v = record { bits = test_bit_clear_bit_le m v }

-- a mask within one of k bits has no more
pub mask_subset_below : (k : ℕ) {a b : ℕ} → MaskSubset a b → b < 2 ^ k → a < 2 ^ k
mask_subset_below zero {a} {b} within below =
    let none : b ≡ 0 = omega arith in
    let empty : a ≡ 0 = ones_empty a (omega (arith, ones_subset a b within.bits, ap ones none, ones_none)) in
    rw empty (omega arith)
mask_subset_below (suc k) {a} {b} within below =
    let halves : MaskSubset (a / 2) (b / 2) = record { bits = λ v. omega (arith, within.bits (suc v), test_bit_suc a v, test_bit_suc b v) } in
    omega (arith, pow-suc 2 k, mask_subset_below k halves (omega (arith, pow-suc 2 k)))
