-- A filled line and its corners, of either kind. At each corner of a filled line stands a bound that was given there (`corner_given`): else the line could be
-- bent there by 1 and stay inside. And a line is filled from any bounds that it is inside of and that it meets at its corners (`corners_filled`): from an end
-- that the line reaches by the kind's own step it goes on so to a corner, and another line no faster. No contract cites this file. Assumes nothing.
use mathlib.Core.Path.{◌≡◌, refl, sym, ap, ◌∙◌}
use mathlib.Core.Bool.{Bool, true, false, not, cond}
use mathlib.Core.Logic.{dite}
use Prim.Native.Nat.{ℕ, zero, suc, ◌+◌, ◌-◌, ◌≤◌, ◌<◌}
use native.Mathlib.Numerals.{add-one}
use native.Mathlib.Decide.{ℕ_discrete}
use native.Mathlib.Omega.{arith}
use lib.Dec.{eqb}
use borrow.Author.Tests.{eq-eqb, ne_eqb}
use Rattle.domains.specs.Counts.{bit}
use Rattle.segments_model.specs.Lines.{corner_of}
use Rattle.segments_model.proofs.LinesLaws.{corner_steps, steps_corner}
use Rattle.filled_model.specs.Filled.{Stepwise, Inside, LineFilled}
use Rattle.filled_model.proofs.FillingLaws.{inside_of}

-- f with x at t
abbrev bent : (ℕ → ℕ) → ℕ → ℕ → ℕ → ℕ
bent f t x s = cond (eqb s t) x (f s)

module _ (f : ℕ → ℕ) (t x : ℕ) where
  bent_same : (s : ℕ) → s ≡ t → bent f t x s ≡ x
  bent_same s same = rw (eq-eqb s t same)

  bent_other : (s : ℕ) → (s ≡ t → ⊥) → bent f t x s ≡ f s
  bent_other s other = rw (ne_eqb s t other)

  -- a line stays one where x fits between its neighbours
  bent_stepwise : (n : ℕ) → Stepwise n f → ((s : ℕ) → suc s ≡ t → (f s ≤ x) × (x ≤ f s + 1)) → (t < n → (x ≤ f (suc t)) × (f (suc t) ≤ x + 1))
      → Stepwise n (bent f t x)
  bent_stepwise n steps before after = record { grows = λ s s<n. (each s s<n).0; slowly = λ s s<n. (each s s<n).1 }
    where
      each : (s : ℕ) → s < n → (bent f t x s ≤ bent f t x (suc s)) × (bent f t x (suc s) ≤ bent f t x s + 1)
      each s s<n =
          dite (ℕ_discrete s t)
          (λ here.
          let next = bent_other (suc s) (λ e. omega arith) in
          let fits = after (omega arith) in
          let same : f (suc s) ≡ f (suc t) = ap (λ (i : ℕ). f (suc i)) here in
          (omega (arith, bent_same s here), omega (arith, bent_same s here)))
          (λ away.
          let this = bent_other s away in
          dite (ℕ_discrete (suc s) t)
          (λ next.
          let fits = before s next in
          (omega (arith, bent_same (suc s) next), omega (arith, bent_same (suc s) next)))
          (λ far.
          let that = bent_other (suc s) far in
          (omega (arith, steps.grows s s<n), omega (arith, steps.slowly s s<n))))

-- ---- at a corner
-- the bound looser by 1
abbrev looser : Bool → ℕ → ℕ
looser true x = x - 1
looser false x = x + 1

-- what is inside a bound, and not at it, is so when it is looser by 1
looser_inside : (kind : Bool) (x a : ℕ) → (a ≡ x → ⊥) → Inside kind x a → Inside kind (looser kind x) a
looser_inside true x a other inside = omega arith
looser_inside false x a other inside = omega arith

module _ (n : ℕ) (u : ℕ → ℕ) (t : ℕ) (0<t : 0 < t) where
  -- bent at a corner, the line is still one
  bent_corner : (kind : Bool) → Stepwise n u → corner_of kind n u t ≡ true → Stepwise n (bent u t (looser kind (u t)))
  bent_corner true steps corner =
      let turn = corner_steps true n u t corner in
      bent_stepwise u t (u t - 1) n steps
      (λ s next.
      let before : u (t - 1) ≡ u s = ap u (omega arith) in
      (omega (arith, turn.0), omega (arith, turn.0)))
      (λ t<n.
      let after : u (t + 1) ≡ u (suc t) = ap u (add-one t) in
      (omega (arith, turn.1 (λ e. omega arith), turn.0), omega (arith, turn.1 (λ e. omega arith), turn.0)))
  bent_corner false steps corner =
      let turn = corner_steps false n u t corner in
      bent_stepwise u t (u t + 1) n steps
      (λ s next.
      let before : u (t - 1) ≡ u s = ap u (omega arith) in
      (omega (arith, turn.0), omega (arith, turn.0)))
      (λ t<n.
      let after : u (t + 1) ≡ u (suc t) = ap u (add-one t) in
      (omega (arith, turn.1 (λ e. omega arith)), omega (arith, turn.1 (λ e. omega arith))))

  -- a corner of lowers is above 0
  not_looser : (kind : Bool) → corner_of kind n u t ≡ true → Inside kind (looser kind (u t)) (u t) → ⊥
  not_looser true corner inside = omega (arith, (corner_steps true n u t corner).0)
  not_looser false corner inside = omega arith

-- a corner of a filled line has a bound that was given
pub corner_given : (kind : Bool) {n : ℕ} {a u : ℕ → ℕ} → LineFilled kind n a u → (t : ℕ) → 0 < t → t ≤ n → corner_of kind n u t ≡ true → a t ≡ u t
corner_given kind {n} {a} {u} filled t 0<t t≤n corner =
    dite (ℕ_discrete (a t) (u t)) (λ same. same)
    (λ other.
    let x = looser kind (u t) in
    let wider : Inside kind x (a t) = looser_inside kind (u t) (a t) other (filled.within t t≤n) in
    let inside : (s : ℕ) → s ≤ n → Inside kind (bent u t x s) (a s) =
    λ s s≤n.
    dite (ℕ_discrete s t) (λ here. inside_of kind (sym (bent_same u t x s here)) (ap a (sym here)) wider)
    (λ away. inside_of kind (sym (bent_other u t x s away)) refl (filled.within s s≤n))
    in
    let still = filled.loosest (bent u t x) (bent_corner n u t 0<t kind filled.steps corner) inside t t≤n in
    absurd (not_looser n u t 0<t kind corner (inside_of kind (bent_same u t x t refl) refl still)))

-- ---- corners suffice
module _ {n : ℕ} {u w : ℕ → ℕ} (steps : Stepwise n u) (other : Stepwise n w) where
  -- by the other step into an end: from the end before
  step_on : (kind : Bool) (t : ℕ) → t < n → (u (suc t) ≡ u t + bit kind → ⊥) → Inside kind (w t) (u t) → Inside kind (w (suc t)) (u (suc t))
  step_on true t t<n off inside = omega (arith, steps.grows t t<n, steps.slowly t t<n, other.grows t t<n)
  step_on false t t<n off inside = omega (arith, steps.grows t t<n, steps.slowly t t<n, other.slowly t t<n)

  -- by the kind's own step out of an end: from the end after
  step_off : (kind : Bool) (t : ℕ) → t < n → u (suc t) ≡ u t + bit kind → Inside kind (w (suc t)) (u (suc t)) → Inside kind (w t) (u t)
  step_off true t t<n own inside = omega (arith, other.slowly t t<n)
  step_off false t t<n own inside = omega (arith, other.grows t t<n)

  other_step : (kind : Bool) (t : ℕ) → t < n → (u (suc t) ≡ u t + bit kind → ⊥) → u (suc t) ≡ u t + bit (not kind)
  other_step true t t<n off = omega (arith, steps.grows t t<n, steps.slowly t t<n)
  other_step false t t<n off = omega (arith, steps.grows t t<n, steps.slowly t t<n)

  module _ (kind : Bool) (a : ℕ → ℕ) (inside : (t : ℕ) → t ≤ n → Inside kind (w t) (a t))
      (corners : (t : ℕ) → 0 < t → t ≤ n → corner_of kind n u t ≡ true → a t ≡ u t) where
    at_corner : (t : ℕ) → 0 < t → t ≤ n → u t ≡ u (t - 1) + bit kind → ((t ≡ n → ⊥) → u (t + 1) ≡ u t + bit (not kind)) → Inside kind (w t) (u t)
    at_corner t 0<t t≤n own turn = inside_of kind refl (corners t 0<t t≤n (steps_corner kind n u t own turn)) (inside t t≤n)

    -- the kind's own step into t + 1: so on to a corner, d steps at most
    run_inside : (d t : ℕ) → suc t + d ≡ n → u (suc t) ≡ u t + bit kind → Inside kind (w (suc t)) (u (suc t))
    run_inside zero t far own =
        at_corner (suc t) (omega arith) (omega arith) (own ∙ ap (λ (s : ℕ). u s + bit kind) (omega arith)) (λ inner. absurd (inner (omega arith)))
    run_inside (suc d) t far own =
        dite (ℕ_discrete (u (suc (suc t))) (u (suc t) + bit kind))
        (λ own'. step_off kind (suc t) (omega arith) own' (run_inside d (suc t) (omega arith) own'))
        (λ off.
        at_corner (suc t) (omega arith) (omega arith) (own ∙ ap (λ (s : ℕ). u s + bit kind) (omega arith))
        (λ inner. ap u (add-one (suc t)) ∙ other_step kind (suc t) (omega arith) off))

    pub corners_inside : Inside kind (w 0) (u 0) → (t : ℕ) → t ≤ n → Inside kind (w t) (u t)
    corners_inside start zero t≤n = start
    corners_inside start (suc t) t≤n =
        dite (ℕ_discrete (u (suc t)) (u t + bit kind)) (run_inside (n - suc t) t (omega arith))
        (λ off. step_on kind t t≤n off (corners_inside start t (omega arith)))

-- a line from 0 on is filled from bounds that it is inside of, that are 0 at 0, and that it meets at its corners
pub corners_filled : (kind : Bool) {n : ℕ} {a u : ℕ → ℕ} → Stepwise n u → u 0 ≡ 0 → a 0 ≡ 0 → ((t : ℕ) → t ≤ n → Inside kind (u t) (a t))
    → ((t : ℕ) → 0 < t → t ≤ n → corner_of kind n u t ≡ true → a t ≡ u t) → LineFilled kind n a u
corners_filled kind {n} {a} {u} steps start given within corners =
    record {
      steps = steps;
      within = within;
      loosest = λ w other inside. corners_inside steps other kind a inside corners (inside_of kind refl (given ∙ sym start) (inside 0 (omega arith)));
    }
