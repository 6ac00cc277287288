-- Lines that are filled: the laws of `Stepwise` and `LineFilled`, and adequacy of `filled_line`, that one pass forth and one back fill a line (`line_filled`).
-- `line_filled_unique`: there is one filled line. No contract cites this file. Assumes nothing.
use mathlib.Core.Path.{◌≡◌, refl, sym}
use mathlib.Core.Bool.{Bool, true, false, not}
use Prim.Native.Nat.{ℕ, zero, suc, ◌+◌, ◌-◌, ◌≤◌, ◌<◌}
use native.Mathlib.Omega.{arith}
use Rattle.domains.specs.Counts.{bit}
use Rattle.filled_model.specs.Filled.{Stepwise, Inside, LineFilled}
use Rattle.filled_model.specs.Filling.{forth, back, filled_line}

-- ---- Inside
pub inside_both : (kind : Bool) {x y : ℕ} → Inside kind x y → Inside kind y x → x ≡ y
inside_both true one other = omega arith
inside_both false one other = omega arith

pub inside_same : (kind : Bool) {x y : ℕ} → x ≡ y → Inside kind x y
inside_same true same = omega arith
inside_same false same = omega arith

pub inside_of : (kind : Bool) {x x' a a' : ℕ} → x ≡ x' → a ≡ a' → Inside kind x a → Inside kind x' a'
inside_of true same given inside = omega arith
inside_of false same given inside = omega arith

pub inside_trans : (kind : Bool) (x y z : ℕ) → Inside kind x y → Inside kind y z → Inside kind x z
inside_trans true x y z one other = omega arith
inside_trans false x y z one other = omega arith

-- ---- Stepwise
pub stepwise_ext : {n : ℕ} {f g : ℕ → ℕ} → ((t : ℕ) → t ≤ n → f t ≡ g t) → Stepwise n f → Stepwise n g
stepwise_ext same steps =
    record {
      grows = λ t t<n. omega (arith, same t (omega arith), same (suc t) t<n, steps.grows t t<n);
      slowly = λ t t<n. omega (arith, same t (omega arith), same (suc t) t<n, steps.slowly t t<n);
    }

-- the rule from one end to the next, and the rule to the one before, of either kind: together they are just the steps
module _ {n : ℕ} {u : ℕ → ℕ} where
  pub step_forth : (kind : Bool) → Stepwise n u → (t : ℕ) → t < n → Inside kind (u (suc t)) (u t + bit (not kind))
  step_forth true steps t t<n = omega (arith, steps.grows t t<n)
  step_forth false steps t t<n = omega (arith, steps.slowly t t<n)

  pub step_back : (kind : Bool) → Stepwise n u → (t : ℕ) → t < n → Inside kind (u t) (u (suc t) - bit kind)
  step_back true steps t t<n = omega (arith, steps.slowly t t<n)
  step_back false steps t t<n = omega (arith, steps.grows t t<n)

  pub both_steps : (kind : Bool) → ((t : ℕ) → t < n → Inside kind (u (suc t)) (u t + bit (not kind)))
      → ((t : ℕ) → t < n → Inside kind (u t) (u (suc t) - bit kind)) → Stepwise n u
  both_steps true next before = record { grows = λ t t<n. omega (arith, next t t<n); slowly = λ t t<n. omega (arith, before t t<n) }
  both_steps false next before = record { grows = λ t t<n. omega (arith, before t t<n); slowly = λ t t<n. omega (arith, next t t<n) }

-- ---- forth
module _ (a : ℕ → ℕ) where
  forth_inside : (kind : Bool) (t : ℕ) → Inside kind (forth kind a t) (a t)
  unfolding forth
  forth_inside true zero = omega arith
  forth_inside true (suc t) = omega arith
  forth_inside false zero = omega arith
  forth_inside false (suc t) = omega arith

  forth_next : (kind : Bool) (t : ℕ) → Inside kind (forth kind a (suc t)) (forth kind a t + bit (not kind))
  unfolding forth
  forth_next true t = omega arith
  forth_next false t = omega arith

  module _ {n : ℕ} {w : ℕ → ℕ} (steps : Stepwise n w) where
    forth_keeps : (kind : Bool) → ((t : ℕ) → t ≤ n → Inside kind (w t) (a t)) → (t : ℕ) → t ≤ n → Inside kind (w t) (forth kind a t)
    unfolding forth
    forth_keeps true inside zero t≤n = inside 0 t≤n
    forth_keeps true inside (suc t) t≤n = omega (arith, inside (suc t) t≤n, forth_keeps true inside t (omega arith), steps.grows t t≤n)
    forth_keeps false inside zero t≤n = inside 0 t≤n
    forth_keeps false inside (suc t) t≤n = omega (arith, inside (suc t) t≤n, forth_keeps false inside t (omega arith), steps.slowly t t≤n)

-- ---- back
module _ (f : ℕ → ℕ) where
  back_inside : (kind : Bool) (t d : ℕ) → Inside kind (back kind f t d) (f t)
  unfolding back
  back_inside true t zero = omega arith
  back_inside true t (suc d) = omega arith
  back_inside false t zero = omega arith
  back_inside false t (suc d) = omega arith

  back_before : (kind : Bool) (t d d' : ℕ) → d ≡ suc d' → Inside kind (back kind f t d) (back kind f (suc t) d' - bit kind)
  unfolding back
  back_before true t d d' more = rw more (omega arith)
  back_before false t d d' more = rw more (omega arith)

  back_next : (kind : Bool) (t d d' : ℕ) → d ≡ suc d' → Inside kind (f (suc t)) (f t + bit (not kind))
      → Inside kind (back kind f (suc t) d') (back kind f t d + bit (not kind))
  unfolding back
  back_next true t d d' more next = rw more (omega (arith, back_inside true (suc t) d'))
  back_next false t d d' more next = rw more (omega (arith, back_inside false (suc t) d'))

  module _ {n : ℕ} {w : ℕ → ℕ} (steps : Stepwise n w) where
    back_keeps : (kind : Bool) → ((t : ℕ) → t ≤ n → Inside kind (w t) (f t)) → (d t : ℕ) → t + d ≤ n → Inside kind (w t) (back kind f t d)
    unfolding back
    back_keeps true inside zero t upto = inside t (omega arith)
    back_keeps true inside (suc d) t upto = omega (arith, inside t (omega arith), back_keeps true inside d (suc t) (omega arith), steps.slowly t (omega arith))
    back_keeps false inside zero t upto = inside t (omega arith)
    back_keeps false inside (suc d) t upto =
        omega (arith, inside t (omega arith), back_keeps false inside d (suc t) (omega arith), steps.grows t (omega arith))

-- ---- LineFilled
pub line_filled : (kind : Bool) (n : ℕ) (a : ℕ → ℕ) → LineFilled kind n a (filled_line kind n a)
line_filled kind n a =
    record {
      steps =
          both_steps kind (λ t t<n. back_next (forth kind a) kind t (n - t) (n - suc t) (omega arith) (forth_next a kind t))
          (λ t t<n. back_before (forth kind a) kind t (n - t) (n - suc t) (omega arith));
      within = λ t t≤n. inside_trans kind (filled_line kind n a t) (forth kind a t) (a t) (back_inside (forth kind a) kind t (n - t)) (forth_inside a kind t);
      loosest = λ w steps inside t t≤n. back_keeps (forth kind a) steps kind (forth_keeps a steps kind inside) (n - t) t (omega arith);
    }

pub line_filled_unique : (kind : Bool) {n : ℕ} {a u w : ℕ → ℕ} → LineFilled kind n a u → LineFilled kind n a w → (t : ℕ) → t ≤ n → u t ≡ w t
line_filled_unique kind {u} {w} one other t t≤n =
    inside_both kind (other.loosest u one.steps one.within t t≤n) (one.loosest w other.steps other.within t t≤n)

pub line_filled_ext : (kind : Bool) {n : ℕ} {a a' u u' : ℕ → ℕ} → ((t : ℕ) → t ≤ n → a t ≡ a' t) → ((t : ℕ) → t ≤ n → u t ≡ u' t) → LineFilled kind n a u
    → LineFilled kind n a' u'
line_filled_ext kind {a} {a'} {u} {u'} given same filled =
    record {
      steps = stepwise_ext {f = u} {g = u'} same filled.steps;
      within = λ t t≤n. inside_of kind (same t t≤n) (given t t≤n) (filled.within t t≤n);
      loosest = λ w steps inside t t≤n.
          inside_of kind refl (same t t≤n)
          (filled.loosest w steps (λ s s≤n. inside_of kind refl (sym (given s s≤n)) (inside s s≤n)) t t≤n);
    }
