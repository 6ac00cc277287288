-- The laws of `line_of`, `Rising` and `corner_of` of specs/Lines.antt. `rising_line`: the rises give one line. `corner_rises`: its corners are told
-- by the rises at t and t + 1 alone. `corner_of_turn`, `turn_of_corner`: the test of a corner as a fact, for either kind;
-- `corner_steps`, `steps_corner`: as the two steps.
-- No contract cites this file. Assumes nothing.
use mathlib.Core.Path.{◌≡◌, sym, ap₂, ◌∙◌}
use mathlib.Core.Bool.{Bool, true, false, not, ◌&&◌, ◌||◌, and-eq-true_iff}
use mathlib.Core.Logic.{dite}
use mathlib.Core.List.{List}
use Prim.Native.Nat.{ℕ, zero, suc, ◌+◌, ◌-◌, ◌≤◌, ◌<◌}
use native.Mathlib.Nat.{add-zero}
use native.Mathlib.Decide.{ℕ_discrete}
use native.Mathlib.Omega.{arith}
use lib.Dec.{eqb}
use lib.ListN.{get_or}
use borrow.Author.Tests.{eq-eqb, ne_eqb, eqb-true}
use Rattle.domains.specs.Mask.{test_bit}
use Rattle.domains.specs.Counts.{bit}
use Rattle.domains.proofs.MaskLaws.{test_bit_lt}
use Rattle.segments_model.specs.Lines.{line_of, Rising, corner_of}
use Rattle.segments_model.proofs.SumLaws.{count_bound, up_to_none, up_to_suc, up_to_next, up_to_last}

-- ---- line_of

module _ (rises : List ℕ) (v : ℕ) where
  pub line_none : line_of rises v 0 ≡ 0
  line_none = up_to_none (λ i. test_bit (get_or rises i 0) v)

  pub line_next : (t : ℕ) → line_of rises v (t + 1) ≡ line_of rises v t + test_bit (get_or rises (t + 1) 0) v
  line_next t = up_to_next (λ i. test_bit (get_or rises i 0) v) t

  pub line_last : (t : ℕ) → 0 < t → line_of rises v t ≡ line_of rises v (t - 1) + test_bit (get_or rises t 0) v
  line_last t 0<t = up_to_last (λ i. test_bit (get_or rises i 0) v) t 0<t

  pub line_bound : (t : ℕ) → line_of rises v t ≤ t
  line_bound t = count_bound (λ s. test_bit (get_or rises (suc s) 0) v) (λ s. test_bit_lt (get_or rises (suc s) 0) v) t

-- ---- Rising

module _ {n v : ℕ} {rises : List ℕ} where
  pub rising_line : {u : ℕ → ℕ} → Rising n v rises u → (t : ℕ) → t ≤ n → line_of rises v t ≡ u t
  rising_line rising zero t≤n = line_none rises v ∙ sym rising.start
  rising_line rising (suc t) t≤n =
      omega (arith, up_to_suc (λ i. test_bit (get_or rises i 0) v) t, rising_line rising t (omega arith), rising.steps t t≤n)

-- the rises have a line
pub line_rising : (n v : ℕ) (rises : List ℕ) → Rising n v rises (line_of rises v)
line_rising n v rises = record { start = line_none rises v; steps = λ t t<n. up_to_suc (λ i. test_bit (get_or rises i 0) v) t }

-- ---- corner_of: a step to t, and, unless t is n, one after it

abbrev turn : ℕ → ℕ → ℕ → ℕ → ℕ → ℕ → Bool
turn t n a b c d = eqb a b && (eqb t n || eqb c d)

module _ (t n a b c d : ℕ) where
  pub corner_of_turn : a ≡ b → ((t ≡ n → ⊥) → c ≡ d) → turn t n a b c d ≡ true
  corner_of_turn here next =
      rw (eq-eqb a b here) (dite (ℕ_discrete t n) (λ last. rw (eq-eqb t n last)) (λ inner. rw (ne_eqb t n inner, eq-eqb c d (next inner))))

  pub turn_of_corner : turn t n a b c d ≡ true → (a ≡ b) × ((t ≡ n → ⊥) → c ≡ d)
  turn_of_corner corner =
      let both = (and-eq-true_iff (eqb a b) (eqb t n || eqb c d)).0 corner in
      (eqb-true a b both.0, λ inner. eqb-true c d (rw (ne_eqb t n inner) at both.1))

eqb_alike : (a b c d : ℕ) → (a ≡ b → c ≡ d) → (c ≡ d → a ≡ b) → eqb a b ≡ eqb c d
eqb_alike a b c d to from =
    dite (ℕ_discrete a b) (λ e. eq-eqb a b e ∙ sym (eq-eqb c d (to e))) (λ ne. ne_eqb a b ne ∙ sym (ne_eqb c d (λ e. ne (from e))))

-- turns that say the same
turn_alike : (t n a b c d a' b' c' d' : ℕ) → (a ≡ b → a' ≡ b') → (a' ≡ b' → a ≡ b)
    → ((t ≡ n → ⊥) → c ≡ d → c' ≡ d') → ((t ≡ n → ⊥) → c' ≡ d' → c ≡ d) → turn t n a b c d ≡ turn t n a' b' c' d'
turn_alike t n a b c d a' b' c' d' here here⁻ next next⁻ =
    ap₂ ◌&&◌ (eqb_alike a b a' b' here here⁻)
    (dite (ℕ_discrete t n) (λ last. rw (eq-eqb t n last)) (λ inner. rw (ne_eqb t n inner) (eqb_alike c d c' d' (next inner) (next⁻ inner))))

-- both kinds at once: the step to t is the kind's, 1 or 0, and the one after it is the other
corner_of_steps : (kind : Bool) (n : ℕ) (u : ℕ → ℕ) (t : ℕ)
    → corner_of kind n u t ≡ turn t n (u t) (u (t - 1) + bit kind) (u (t + 1)) (u t + bit (not kind))
corner_of_steps true n u t = rw (add-zero (u t))
corner_of_steps false n u t = rw (add-zero (u (t - 1)))

-- a corner's two steps, of either kind: the kind's own into t, the other out of it
pub corner_steps : (kind : Bool) (n : ℕ) (u : ℕ → ℕ) (t : ℕ) → corner_of kind n u t ≡ true
    → (u t ≡ u (t - 1) + bit kind) × ((t ≡ n → ⊥) → u (t + 1) ≡ u t + bit (not kind))
corner_steps kind n u t corner =
    turn_of_corner t n (u t) (u (t - 1) + bit kind) (u (t + 1)) (u t + bit (not kind)) (sym (corner_of_steps kind n u t) ∙ corner)

pub steps_corner : (kind : Bool) (n : ℕ) (u : ℕ → ℕ) (t : ℕ) → u t ≡ u (t - 1) + bit kind → ((t ≡ n → ⊥) → u (t + 1) ≡ u t + bit (not kind))
    → corner_of kind n u t ≡ true
steps_corner kind n u t own other =
    corner_of_steps kind n u t ∙ corner_of_turn t n (u t) (u (t - 1) + bit kind) (u (t + 1)) (u t + bit (not kind)) own other

-- lines that are equal up to n have the same corners
pub corner_of_same : (kind : Bool) (n : ℕ) (u w : ℕ → ℕ) → ((i : ℕ) → i ≤ n → u i ≡ w i) → (t : ℕ) → t ≤ n → corner_of kind n u t ≡ corner_of kind n w t
corner_of_same kind n u w same t t≤n =
    let here = same t t≤n in
    let before = same (t - 1) (omega arith) in
    corner_of_steps kind n u t
    ∙ turn_alike t n (u t) (u (t - 1) + bit kind) (u (t + 1)) (u t + bit (not kind)) (w t) (w (t - 1) + bit kind) (w (t + 1)) (w t + bit (not kind))
    (λ e. omega arith) (λ e. omega arith) (λ inner e. omega (arith, same (t + 1) (omega arith))) (λ inner e. omega (arith, same (t + 1) (omega arith)))
    ∙ sym (corner_of_steps kind n w t)

-- the corners of a line, by its rises
pub corner_rises : (kind : Bool) (n : ℕ) (rises : List ℕ) (v t : ℕ) → 0 < t
    → corner_of kind n (line_of rises v) t
    ≡ (eqb (test_bit (get_or rises t 0) v) (bit kind) && (eqb t n || eqb (test_bit (get_or rises (t + 1) 0) v) (bit (not kind))))
corner_rises kind n rises v t 0<t =
    let u = line_of rises v in
    let here = line_last rises v t 0<t in
    let next = line_next rises v t in
    corner_of_steps kind n u t
    ∙ turn_alike t n (u t) (u (t - 1) + bit kind) (u (t + 1)) (u t + bit (not kind))
    (test_bit (get_or rises t 0) v) (bit kind) (test_bit (get_or rises (t + 1) 0) v) (bit (not kind))
    (λ e. omega arith) (λ e. omega arith) (λ inner e. omega arith) (λ inner e. omega arith)

-- the three ways to tell it: r is the rise at t, w the kind's own step
module _ (kind : Bool) (n : ℕ) (rises : List ℕ) (v t : ℕ) (0<t : 0 < t) {r w : ℕ} (r_is : r ≡ test_bit (get_or rises t 0) v) (w_is : w ≡ bit kind) where
  pub corner_off : (r ≡ w → ⊥) → false ≡ corner_of kind n (line_of rises v) t
  corner_off other = rw (corner_rises kind n rises v t 0<t, ← r_is, ← w_is, ne_eqb r w other)

  module _ (own : r ≡ w) where
    pub corner_last : t ≡ n → true ≡ corner_of kind n (line_of rises v) t
    corner_last last = rw (corner_rises kind n rises v t 0<t, ← r_is, ← w_is, eq-eqb r w own, eq-eqb t n last)

    -- r' is the rise at t + 1, w' the other step
    pub corner_inner : {r' w' : ℕ} → (t ≡ n → ⊥) → r' ≡ test_bit (get_or rises (t + 1) 0) v → w' ≡ bit (not kind)
        → eqb r' w' ≡ corner_of kind n (line_of rises v) t
    corner_inner inner r'_is w'_is = rw (corner_rises kind n rises v t 0<t, ← r_is, ← w_is, eq-eqb r w own, ne_eqb t n inner, ← r'_is, ← w'_is)
