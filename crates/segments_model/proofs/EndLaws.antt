-- The laws of `with_end`, `with_reserve` and `reserve` of specs/Lines.antt: up to n they change nothing, and the reserve is above every slack
-- (`reserve_above`). So the prefixes up to n stand as they do without the corner at n + 1 (`stands_inner`, `stands_outer`), and the spent corner is the
-- same (`spent_inner`). No contract cites this file. Assumes nothing.
use mathlib.Core.Path.{◌≡◌, refl, sym, ◌∙◌}
use mathlib.Core.Bool.{Bool, true, false}
use mathlib.Core.Logic.{dite}
use mathlib.Core.List.{List}
use Prim.Native.Nat.{ℕ, ◌+◌, ◌-◌, ◌≤◌, ◌<◌}
use native.Mathlib.Decide.{dec_lt}
use native.Mathlib.Omega.{arith}
use borrow.Author.Tests.{le-leb, lt-leb}
use Rattle.segments_model.specs.Cells.{Stands, Spent}
use Rattle.segments_model.specs.Lines.{slack_of, reserve, with_end, with_reserve, row_slack}
use Rattle.segments_model.proofs.CountsLaws.{count_of_bound}

-- ---- reserve

module _ (M : List ℕ) (v n : ℕ) where
  pub reserve_lasts : (kind : Bool) → 1 < reserve kind M v n
  reserve_lasts true = omega arith
  reserve_lasts false = omega arith

  pub reserve_above : (kind : Bool) (u : ℕ → ℕ) (t : ℕ) → t ≤ n → u t ≤ n → slack_of kind u M v t < reserve kind M v n
  reserve_above true u t t≤n under = omega (arith, count_of_bound true M v t)
  reserve_above false u t t≤n under = omega arith

-- ---- with_end, with_reserve

module _ (n : ℕ) where
  pub with_end_inner : (C : ℕ → Bool) (t : ℕ) → t ≤ n → with_end n C t ≡ C t
  unfolding with_end
  with_end_inner C t t≤n = rw (le-leb t n t≤n) refl

  pub with_end_end : (C : ℕ → Bool) (t : ℕ) → n < t → with_end n C t ≡ true
  unfolding with_end
  with_end_end C t n<t = rw (lt-leb t n n<t) refl

  pub with_reserve_inner : (x : ℕ) (f : ℕ → ℕ) (t : ℕ) → t ≤ n → with_reserve n x f t ≡ f t
  unfolding with_reserve
  with_reserve_inner x f t t≤n = rw (le-leb t n t≤n) refl

  pub with_reserve_end : (x : ℕ) (f : ℕ → ℕ) (t : ℕ) → n < t → with_reserve n x f t ≡ x
  unfolding with_reserve
  with_reserve_end x f t n<t = rw (lt-leb t n n<t) refl

  -- corners and slacks that are the same up to n
  pub with_end_same : (C D : ℕ → Bool) (t : ℕ) → (t ≤ n → C t ≡ D t) → with_end n C t ≡ with_end n D t
  with_end_same C D t same =
      dite (dec_lt n t) (λ n<t. with_end_end C t n<t ∙ sym (with_end_end D t n<t))
      (λ t≤n. with_end_inner C t (omega arith) ∙ same (omega arith) ∙ sym (with_end_inner D t (omega arith)))

  pub with_reserve_same : (x y : ℕ) (f g : ℕ → ℕ) (t : ℕ) → x ≡ y → (t ≤ n → f t ≡ g t) → with_reserve n x f t ≡ with_reserve n y g t
  with_reserve_same x y f g t alike same =
      dite (dec_lt n t) (λ n<t. with_reserve_end x f t n<t ∙ alike ∙ sym (with_reserve_end y g t n<t))
      (λ t≤n. with_reserve_inner x f t (omega arith) ∙ same (omega arith) ∙ sym (with_reserve_inner y g t (omega arith)))

  -- a difference
  pub with_reserve_less : (x : ℕ) (f g : ℕ → ℕ) (t : ℕ) → with_reserve n x f t - with_reserve n 0 g t ≡ with_reserve n x (λ w. f w - g w) t
  with_reserve_less x f g t =
      dite (dec_lt n t)
      (λ n<t. omega (arith, with_reserve_end x f t n<t, with_reserve_end 0 g t n<t, with_reserve_end x (λ w. f w - g w) t n<t))
      (λ t≤n.
      omega (
        arith,
        with_reserve_inner x f t (omega arith),
        with_reserve_inner 0 g t (omega arith),
        with_reserve_inner x (λ w. f w - g w) t (omega arith),
      ))

  pub row_lasts : (kind : Bool) (u : ℕ → ℕ) (M : List ℕ) (v : ℕ) → 1 < row_slack kind n u M v (n + 1)
  row_lasts kind u M v = rw (with_reserve_end (reserve kind M v n) (slack_of kind u M v) (n + 1) (omega arith)) (reserve_lasts M v n kind)

-- ---- what stands, with the corner at n + 1 and its slack x

module _ (n : ℕ) (C : ℕ → Bool) (f : ℕ → ℕ) (x : ℕ) where
  pub stands_inner : (t : ℕ) → t ≤ n → Stands (n + 1) (with_end n C) (with_reserve n x f) t → Stands n C f t
  stands_inner t t≤n stands =
      let here = with_reserve_inner n x f t t≤n in
      record {
        corner = sym (with_end_inner n C t t≤n) ∙ stands.corner;
        slack = omega (arith, here, stands.slack);
        least = λ u t<u u≤n corner.
            omega (arith, here, with_reserve_inner n x f u u≤n, stands.least u t<u (omega arith) (with_end_inner n C u u≤n ∙ corner));
      }

  pub stands_outer : (t : ℕ) → t ≤ n → f t < x → Stands n C f t → Stands (n + 1) (with_end n C) (with_reserve n x f) t
  stands_outer t t≤n below stands =
      let here = with_reserve_inner n x f t t≤n in
      record {
        corner = with_end_inner n C t t≤n ∙ stands.corner;
        slack = omega (arith, here, stands.slack);
        least = λ u t<u u≤n+1 corner.
            dite (dec_lt n u) (λ n<u. omega (arith, here, with_reserve_end n x f u n<u))
            (λ u≤n.
            omega (
              arith,
              here,
              with_reserve_inner n x f u (omega arith),
              stands.least u t<u (omega arith) (sym (with_end_inner n C u (omega arith)) ∙ corner),
            ));
      }

  pub spent_inner : (z : ℕ) → 0 < x → Spent (n + 1) (with_end n C) (with_reserve n x f) z → Spent n C f z
  spent_inner z some spent =
      let inside : z ≤ n =
      dite (dec_lt n z) (λ n<z. absurd (omega (arith, with_reserve_end n x f z n<z, spent.none (omega arith)))) (λ z≤n. omega arith) in
      record {
        inside = inside;
        corner = λ 0<z. sym (with_end_inner n C z inside) ∙ spent.corner 0<z;
        none = λ 0<z. sym (with_reserve_inner n x f z inside) ∙ spent.none 0<z;
        last = λ u z<u u≤n corner.
            omega (arith, with_reserve_inner n x f u u≤n, spent.last u z<u (omega arith) (with_end_inner n C u u≤n ∙ corner));
      }
