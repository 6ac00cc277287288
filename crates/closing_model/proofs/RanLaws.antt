-- The laws of `Ran` and `Decides` of `specs/Sweep.antt`, and of the flag that says whether a run stored. No contract cites this file. `ran_more`, one run
-- after another, is the law of every turn of every loop and of every two calls in a row.
-- Assumes nothing.
use mathlib.Core.Path.{◌≡◌, refl, sym, subst, ◌∙◌}
use mathlib.Core.Bool.{Bool, true, false, ◌||◌, true≢false}
use mathlib.Core.List.{List}
use Prim.Native.Nat.{ℕ, ◌≤◌}
use native.Mathlib.Nat.{le_refl, le_trans}
use Rattle.closing_model.specs.Table.{Table, view}
use Rattle.closing_model.specs.Sweep.{Decides, Swept, Ran}
use Rattle.closing_model.proofs.SweptLaws.{swept_refl, swept_trans, swept_weaken}

-- ---- the flag of two runs
pub or_false : (a b : Bool) → (a || b) ≡ false → (a ≡ false) × (b ≡ false)
or_false true b e = absurd (true≢false e)
or_false false b e = (refl, e)

-- `if x { return true; } y`
pub or_left : {x : Bool} (y : Bool) → x ≡ true → true ≡ (x || y)
or_left y e = rw e

pub or_right : {x : Bool} (y : Bool) → x ≡ false → y ≡ (x || y)
or_right y e = rw e

-- `if s { r = true; }`
pub or_when : (r : Bool) {s b : Bool} → s ≡ true → b ≡ true → b ≡ (r || s)
or_when true stored e = e
or_when false stored e = e ∙ sym stored

pub or_else : (r : Bool) {s b : Bool} → s ≡ false → b ≡ r → b ≡ (r || s)
or_else true stored e = e
or_else false stored e = e ∙ sym stored

-- ---- Decides
pub decided_true : (P : Type 0) {r : Bool} → r ≡ true → Decides P r → P
decided_true P e decided = subst (λ (b : Bool). Decides P b) e decided

pub decided_false : (P : Type 0) {r : Bool} → r ≡ false → Decides P r → P → ⊥
decided_false P e decided = subst (λ (b : Bool). Decides P b) e decided

-- ---- Ran
-- a run from its sweeps and what holds where it stored nothing
pub ran_of : {edge : ℕ} {P Q : Table → Type 0} {L U L' U' : List ℕ} {r : Bool} → ((m : ℕ) → edge ≤ m → Swept m P L U L' U' r)
    → (r ≡ false → Q (view L' U')) → Ran edge P Q L U L' U' r
ran_of {edge} swept rules = record { swept = swept; size_l = (swept edge (le_refl edge)).size_l; size_u = (swept edge (le_refl edge)).size_u; rules = rules }

pub ran_none : (edge : ℕ) (P Q : Table → Type 0) (L U : List ℕ) → Q (view L U) → Ran edge P Q L U L U false
ran_none edge P Q L U q = ran_of (λ m edge≤m. swept_refl m P L U) (λ e. q)

pub ran_weaken : {edge : ℕ} {P Q P' Q' : Table → Type 0} {L U L' U' : List ℕ} {r : Bool} → ((T : Table) → P' T → P T) → ((T : Table) → Q T → Q' T)
    → Ran edge P Q L U L' U' r → Ran edge P' Q' L U L' U' r
ran_weaken p'⇒p q⇒q' ran = ran_of (λ m edge≤m. swept_weaken p'⇒p (ran.swept m edge≤m)) (λ e. q⇒q' _ (ran.rules e))

-- what holds of the table where a run stored nothing holds after it
kept : (C : Table → Type 0) {m : ℕ} {P : Table → Type 0} {L U L' U' : List ℕ} {r : Bool} → Swept m P L U L' U' r → r ≡ false → C (view L U)
    → C (view L' U')
kept C swept e holds = rw ((swept.still e).0, (swept.still e).1) holds

pub ran_more : {edge e : ℕ} {P Q R R' Q' : Table → Type 0} {L U L' U' L'' U'' : List ℕ} {r s b : Bool} → Ran edge P Q L U L' U' r
    → Ran e R R' L' U' L'' U'' s → e ≤ edge → ((T : Table) → P T → R T) → ((T : Table) → Q T → R' T → Q' T) → b ≡ (r || s) → Ran edge P Q' L U L'' U'' b
ran_more {edge} {Q} {r} {s} one two e≤edge p⇒r both flag =
    rw flag
    (ran_of (λ m edge≤m. swept_trans (one.swept m edge≤m) (swept_weaken p⇒r (two.swept m (le_trans e≤edge edge≤m))))
    (λ none.
    let each = or_false r s none in
    both _ (kept Q (two.swept edge e≤edge) each.1 (one.rules each.0)) (two.rules each.1)))
