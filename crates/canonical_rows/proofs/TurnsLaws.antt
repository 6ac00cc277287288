-- A corner from the entries that the code reads: `turn_read`, by the difference of two steps on lines that grow by 0 or 1. No contract cites this file.
-- Assumes nothing.
use mathlib.Core.Path.{◌≡◌, refl, sym, ap, ap₂, ◌∙◌}
use mathlib.Core.Bool.{Bool, true, false, not, ◌||◌, true≢false}
use mathlib.Core.Logic.{◌⊎◌, inl, inr, dite}
use mathlib.Core.List.{List}
use Prim.Native.Nat.{ℕ, suc, ◌+◌, ◌-◌, ◌*◌, ◌≤◌, ◌<◌}
use native.Mathlib.Nat.{mul-le-mul_right}
use native.Mathlib.Numerals.{add-one}
use native.Mathlib.Decide.{ℕ_discrete}
use native.Mathlib.Omega.{arith}
use lib.Bits.{bit_or}
use lib.ListN.{get_or}
use Rattle.domains.specs.Counts.{bit}
use Rattle.closing_model.specs.Table.{view, place}
use Rattle.segments_model.specs.Lines.{corner_of}
use Rattle.segments_model.proofs.LinesLaws.{corner_steps, steps_corner}
use Rattle.filled_model.specs.Filled.{Stepwise}
use Rattle.canonical_model.specs.CornerRows.{has_corner}
use Rattle.canonical_rows.specs.Lines.{line_in, Lines, turned, turning}

-- ---- corner_of, by the difference of two steps
turned_one : (kind : Bool) (a b c : ℕ) → b ≡ a + bit kind → c ≡ b + bit (not kind) → turned kind a b c ≡ 1
turned_one true a b c own next = omega arith
turned_one false a b c own next = omega arith

turned_none : (kind : Bool) (a b c : ℕ) → (a ≤ b) × (b ≤ a + 1) → (b ≤ c) × (c ≤ b + 1) → (b ≡ a + bit kind → c ≡ b + bit (not kind) → ⊥)
    → turned kind a b c ≡ 0
turned_none true a b c into out_of_lem none =
    dite (ℕ_discrete b (a + 1)) (λ own. dite (ℕ_discrete c (b + 0)) (λ next. absurd (none own next)) (λ other. omega (arith, into, out_of_lem)))
    (λ other. omega (arith, into, out_of_lem))
turned_none false a b c into out_of_lem none =
    dite (ℕ_discrete b (a + 0)) (λ own. dite (ℕ_discrete c (b + 1)) (λ next. absurd (none own next)) (λ other. omega (arith, into, out_of_lem)))
    (λ other. omega (arith, into, out_of_lem))

module _ (kind : Bool) (n v : ℕ) (s : List ℕ) (steps : Stepwise n (line_in s n v)) (t : ℕ) (inner : suc t < n) where
  abbrev u : ℕ → ℕ
  u = line_in s n v

  read : turning kind s (place n v t) ≡ turned kind (u t) (u (suc t)) (u (suc (suc t)))
  read =
      ap₂ (turned kind (u t)) (ap (λ (p : ℕ). get_or s p 0) (omega arith)) (ap (λ (p : ℕ). get_or s p 0) (omega arith))

  by_steps : (corner : Bool) → corner_of kind n u (suc t) ≡ corner → turned kind (u t) (u (suc t)) (u (suc (suc t))) ≡ bit corner
  by_steps true is =
      let two = corner_steps kind n u (suc t) is in
      let before : u (suc t - 1) ≡ u t = ap u (omega arith) in
      let after : u (suc t + 1) ≡ u (suc (suc t)) = ap u (add-one (suc t)) in
      turned_one kind (u t) (u (suc t)) (u (suc (suc t))) (two.0 ∙ ap (λ (x : ℕ). x + bit kind) before) (sym after ∙ two.1 (λ last. omega arith))
  by_steps false is =
      turned_none kind (u t) (u (suc t)) (u (suc (suc t))) (steps.grows t (omega arith), steps.slowly t (omega arith))
      (steps.grows (suc t) inner, steps.slowly (suc t) inner)
      (λ own next.
      let before : u (suc t - 1) ≡ u t = ap u (omega arith) in
      let after : u (suc t + 1) ≡ u (suc (suc t)) = ap u (add-one (suc t)) in
      true≢false (sym (steps_corner kind n u (suc t) (own ∙ ap (λ (x : ℕ). x + bit kind) (sym before)) (λ i. after ∙ next)) ∙ is))

  pub turning_corner : turning kind s (place n v t) ≡ bit (corner_of kind n (line_in s n v) (suc t))
  turning_corner = read ∙ by_steps (corner_of kind n u (suc t)) refl

either_bit : (a b : Bool) → bit_or (bit a) (bit b) ≡ bit (a || b)
either_bit true true = refl
either_bit true false = refl
either_bit false true = refl
either_bit false false = refl

pub turns_corner : {n v : ℕ} {L U : List ℕ} → Lines n v L U → (t : ℕ) → suc t < n
    → bit_or (turning true L (place n v t)) (turning false U (place n v t)) ≡ bit (has_corner n (view L U) v (suc t))
turns_corner {n} {v} {L} {U} lines t inner =
    ap₂ bit_or (turning_corner true n v L lines.0.steps t inner) (turning_corner false n v U lines.1.steps t inner)
    ∙ either_bit (corner_of true n (line_in L n v) (suc t)) (corner_of false n (line_in U n v) (suc t))

bit_small : (b : Bool) → bit b ≤ 1
bit_small true = omega arith
bit_small false = omega arith

-- what `turns` returns at the i-th end after `from`
pub turn_read : {n v : ℕ} {L U : List ℕ} → Lines n v L U → (from i : ℕ) → suc (from + i) < n → {x : ℕ}
    → x ≡ bit_or (turning true L (v * (n + 1) + from + i)) (turning false U (v * (n + 1) + from + i))
    → (x ≡ bit (has_corner n (view L U) v (suc (from + i)))) × (x ≤ 1)
turn_read {n} {v} {L} {U} lines from i inner {x} is =
    let there : v * (n + 1) + from + i ≡ place n v (from + i) = omega arith in
    let corner : x ≡ bit (has_corner n (view L U) v (suc (from + i))) =
    is ∙ ap (λ (p : ℕ). bit_or (turning true L p) (turning false U p)) there ∙ turns_corner lines (from + i) inner
    in
    (corner, omega (arith, corner, bit_small (has_corner n (view L U) v (suc (from + i)))))

pub one_times : {x : ℕ} (y : ℕ) → x ≤ 1 → x * y ≤ y
one_times {x} y small =
    let most : x * y ≤ 1 * y = mul-le-mul_right y small in
    omega arith

-- ---- has_corner
pub some_corner : {a b : Bool} → (a ≡ true) ⊎ ((a ≡ false) × (b ≡ true)) → (a || b) ≡ true
some_corner (inl low) = rw low
some_corner (inr high) = rw high.0 high.1

pub no_corner : {a b : Bool} → a ≡ false → b ≡ false → (a || b) ≡ false
no_corner one other = rw (one, other)
