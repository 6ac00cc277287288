-- The laws of `Filling` of specs/Build.antt: its start (`filling_none`), its end (`filling_all`), and one prefix more, t, where the cells stay
-- (`filling_skip`, `filling_spent`, `filling_behind`) or t is the spent corner (`filling_zero`). No contract cites this file.
-- Assumes nothing.
use mathlib.Core.Path.{◌≡◌, sym, ap, ◌∙◌, subst}
use mathlib.Core.Bool.{Bool, true, false, true≢false}
use mathlib.Core.Logic.{dite}
use mathlib.Core.List.{List}
use Prim.Native.Nat.{ℕ, ◌+◌, ◌-◌, ◌≤◌, ◌<◌}
use native.Mathlib.Nat.{le_refl}
use native.Mathlib.Decide.{ℕ_discrete, dec_lt}
use native.Mathlib.Omega.{arith}
use lib.ListN.{length, get_or, set}
use lib.Seq.{get_or-set_same, get_or-set_other}
use Rattle.segments_model.specs.Cells.{sum_to, Cells}
use Rattle.segments_model.specs.Covers.{Cover}
use Rattle.segments_model.specs.Search.{Gap}
use Rattle.segments_model.specs.Build.{After, Filling}
use Rattle.segments_model.proofs.SumLaws.{up_to_none, up_to_flat, up_to_last, sum_to_set_first}
use Rattle.segments_model.proofs.CoversLaws.{cells_of_covers}

-- ---- the start and the end

pub filling_none : (n : ℕ) (C : ℕ → Bool) (f : ℕ → ℕ) (l : List ℕ) → Gap l 0 (n + 1) → Filling n C f n l (n + 1)
filling_none n C f l blank =
    let none : get_or l 0 0 ≡ 0 = blank 0 (omega arith) (omega arith) in
    record {
      covers = record {
        inside = omega arith;
        corner = λ some. absurd (omega arith);
        none = λ some. absurd (omega arith);
        ends = λ t 0<t t≤n some. absurd (omega (arith, blank t (omega arith) (omega arith)));
        cover = λ u z<u u≤n later. absurd (omega (arith, later.0));
      };
      first = record { after = omega arith; inside = le_refl _; stands = λ n<n. absurd (omega arith); gap = λ i n<i i≤n. absurd (omega arith) };
      clean = λ i 0<i i≤n. blank i (omega arith) i≤n;
    }

pub filling_all : (n : ℕ) (C : ℕ → Bool) (f : ℕ → ℕ) (l : List ℕ) (q : ℕ) → Filling n C f 0 l q → Cells n C f l
filling_all n C f l q done =
    let c = done.covers in
    cells_of_covers n C f l
    (record {
      inside = c.inside;
      corner = λ some. (c.corner some).1;
      none = c.none;
      ends = λ t 0<t t≤n some.
          let end = c.ends t 0<t t≤n some in
          record { past = end.past; corner = end.corner.1; sum = end.sum };
      cover = λ u z<u u≤n corner. c.cover u z<u u≤n (omega arith, corner);
    })

module _ {n : ℕ} {C : ℕ → Bool} {f : ℕ → ℕ} {t : ℕ} {l : List ℕ} {q : ℕ} (done : Filling n C f t l q) where
  -- ---- what stands before the first right end

  pub before_first : (i : ℕ) → 0 < i → i < q → get_or l i 0 ≡ 0
  before_first i 0<i i<q = dite (dec_lt t i) (λ t<i. done.first.gap i (omega arith) i<q) (λ i≤t. done.clean i (omega arith) (omega arith))

  pub from_first : (i : ℕ) → 0 < i → 0 < get_or l i 0 → q ≤ i
  from_first i 0<i some = dite (dec_lt i q) (λ i<q. absurd (omega (arith, before_first i 0<i i<q))) (λ q≤i. omega arith)

  -- the sum at the first right end is its cell
  pub sum_first : sum_to l q ≡ get_or l q 0
  sum_first =
      omega (
        arith,
        done.first.after,
        up_to_none (λ j. get_or l j 0),
        up_to_flat (λ j. get_or l j 0) 0 (q - 1) (omega arith) (λ j 0<j j<q. before_first j 0<j (omega (arith, done.first.after))),
        up_to_last (λ j. get_or l j 0) q (omega (arith, done.first.after)),
      )

  -- ---- one prefix more, the cells stay

  -- a corner after t is one after t - 1
  after_wider : (u : ℕ) → After C t u → After C (t - 1) u
  after_wider u later = (omega (arith, later.0), later.1)

  -- t is covered if it is a corner that is not spent
  filling_stays : 0 < t → (get_or l 0 0 < t → C t ≡ true → Cover n f l t) → Filling n C f (t - 1) l q
  filling_stays 0<t here =
      let c = done.covers in
      record {
        covers = record {
          inside = c.inside;
          corner = λ some. after_wider (get_or l 0 0) (c.corner some);
          none = c.none;
          ends = λ i 0<i i≤n some.
              let end = c.ends i 0<i i≤n some in
              record { past = end.past; corner = after_wider i end.corner; sum = end.sum };
          cover = λ u z<u u≤n later.
              dite (ℕ_discrete u t) (λ e. subst (Cover n f l) (sym e) (here (omega arith) (sym (ap C e) ∙ later.1)))
              (λ ne. c.cover u z<u u≤n (omega (arith, later.0), later.1));
        };
        first = record {
          after = omega (arith, done.first.after);
          inside = done.first.inside;
          stands = done.first.stands;
          gap = λ i t≤i i<q. before_first i (omega arith) i<q;
        };
        clean = λ i 0<i i<t. done.clean i 0<i (omega arith);
      }

  pub filling_skip : 0 < t → C t ≡ false → Filling n C f (t - 1) l q
  filling_skip 0<t flat = filling_stays 0<t (λ z<t corner. absurd (true≢false (sym corner ∙ flat)))

  -- a later corner is spent
  pub filling_spent : 0 < t → 0 < get_or l 0 0 → Filling n C f (t - 1) l q
  filling_spent 0<t some = filling_stays 0<t (λ z<t corner. absurd (omega (arith, (done.covers.corner some).0)))

  -- t is covered by the first right end
  pub filling_behind : 0 < t → q ≤ n → get_or l q 0 ≤ f t → Filling n C f (t - 1) l q
  filling_behind 0<t q≤n low =
      filling_stays 0<t
      (λ z<t corner.
      record { at = q; after = omega (arith, done.first.after); inside = q≤n; stands = done.first.stands q≤n; low = omega (arith, sum_first) })

  -- ---- t is the spent corner

  pub filling_zero : 0 < t → t ≤ n → n < length l → get_or l 0 0 ≡ 0 → C t ≡ true → f t ≡ 0 → Filling n C f (t - 1) (set l 0 t) q
  filling_zero 0<t t≤n n<len none corner no_slack =
      let c = done.covers in
      let first' : get_or (set l 0 t) 0 0 ≡ t = get_or-set_same l 0 t 0 (omega arith) in
      let other : (i : ℕ) → 0 < i → get_or (set l 0 t) i 0 ≡ get_or l i 0 = λ i 0<i. get_or-set_other l 0 i t 0 (λ e. omega arith) in
      record {
        covers = record {
          inside = omega arith;
          corner = λ some. subst (After C (t - 1)) (sym first') (omega arith, corner);
          none = λ some. ap f first' ∙ no_slack;
          ends = λ i 0<i i≤n some.
              let end = c.ends i 0<i i≤n (omega (arith, other i 0<i)) in
              record { past = omega (arith, end.corner.0); corner = after_wider i end.corner; sum = sum_to_set_first l t i ∙ end.sum };
          cover = λ u t<u u≤n later.
              let v = c.cover u (omega arith) u≤n (omega arith, later.1) in
              record {
                at = v.at;
                after = v.after;
                inside = v.inside;
                stands = omega (arith, other v.at (omega (arith, v.after)), v.stands);
                low = omega (arith, sum_to_set_first l t v.at, v.low);
              };
        };
        first = record {
          after = omega (arith, done.first.after);
          inside = done.first.inside;
          stands = λ q≤n. omega (arith, other q (omega (arith, done.first.after)), done.first.stands q≤n);
          gap = λ i t≤i i<q. other i (omega arith) ∙ before_first i (omega arith) i<q;
        };
        clean = λ i 0<i i<t. other i 0<i ∙ done.clean i 0<i (omega arith);
      }
