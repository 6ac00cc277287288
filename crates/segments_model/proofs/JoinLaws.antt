-- A fall of the slack after which nothing is left at t, the first right end after the slot; p is the last right end up to the slot, or 0.
-- With p above 0 the segment of p is joined to that of t (`covers_join`): t covers what p covered, as the sum at t is that at p and one more
-- (`sum_previous`). With p = 0 the leftmost segment is spent (`covers_spend`). No contract cites this file. Assumes nothing.
use mathlib.Core.Path.{◌≡◌, sym, ap, subst}
use mathlib.Core.Bool.{Bool, true}
use mathlib.Core.Logic.{⊎_elim, dite}
use mathlib.Core.List.{List}
use Prim.Native.Nat.{ℕ, ◌+◌, ◌-◌, ◌≤◌, ◌<◌}
use native.Mathlib.Nat.{le_refl}
use native.Mathlib.Decide.{ℕ_discrete, dec_lt}
use native.Mathlib.Omega.{arith}
use lib.ListN.{get_or}
use Rattle.segments_model.specs.Cells.{sum_to}
use Rattle.segments_model.specs.Covers.{Cover, Covers, Corner}
use Rattle.segments_model.specs.Fall.{fallen}
use Rattle.segments_model.specs.Search.{Next, Previous}
use Rattle.segments_model.proofs.SumLaws.{up_to_none, up_to_flat, up_to_last}
use Rattle.segments_model.proofs.StoreLaws.{Joined, Emptied}
use Rattle.segments_model.proofs.FallLaws.{Falling, fallen_low, fallen_high, spent_corner, spent_none, split, end_sum, cover_sum}

-- the right ends up to t are those up to p, and t
pub sum_previous : {n slot t p : ℕ} {l : List ℕ} → Next n slot l t → Previous slot l p → sum_to l t ≡ sum_to l p + get_or l t 0
sum_previous {slot = slot} {t = t} {p = p} {l = l} next prev =
    omega (
      arith,
      next.after,
      up_to_last (λ i. get_or l i 0) t (omega (arith, next.after)),
      up_to_flat (λ i. get_or l i 0) p (t - 1) (omega (arith, prev.before, next.after))
          (λ i p<i i<t.
          dite (dec_lt slot i) (λ slot<i. next.gap i (omega arith) (omega (arith, next.after))) (λ i≤slot. prev.gap i (omega arith) (omega arith))),
    )

-- a right end up to the slot that is not p lies before it
previous_before : {slot p : ℕ} {l : List ℕ} → Previous slot l p → (i : ℕ) → (i ≡ p → ⊥) → i ≤ slot → 0 < get_or l i 0 → i < p
previous_before {p = p} prev i i≢p i≤slot some =
    dite (dec_lt i p) (λ i<p. i<p) (λ p≤i. absurd (omega (arith, prev.gap i (omega arith) (omega arith))))

module _ {n slot : ℕ} {C : ℕ → Bool} {f : ℕ → ℕ} {l : List ℕ} (falling : Falling n slot C f l)
    {t : ℕ} (next : Next n slot l t) (t≤n : t ≤ n) {p : ℕ} (prev : Previous slot l p) where
  -- ---- joined
  module _ (l' : List ℕ) (0<p : 0 < p) (join : Joined l l' p t) where
    join_some : (i : ℕ) → 0 < get_or l' i 0 → get_or l t 0 ≡ 1 → (i ≡ p → ⊥) × (0 < get_or l i 0)
    join_some i some one_left =
        let i≢p : i ≡ p → ⊥ = λ e. omega (arith, ap (λ (j : ℕ). get_or l' j 0) e, join.gone) in
        (i≢p, dite (ℕ_discrete i t) (λ e. omega (arith, ap (λ (j : ℕ). get_or l j 0) e)) (λ ne. omega (arith, join.other i ne i≢p)))

    -- what covered u up to the slot: p, for which t stands in, or another
    join_early : (u : ℕ) (v : Cover n f l u) → v.at ≤ slot → get_or l t 0 ≡ 1 → Cover n (fallen f slot) l' u
    join_early u v early one_left =
        let same = fallen_low f slot u (omega (arith, v.after)) in
        dite (ℕ_discrete v.at p)
        (λ e.
        record {
          at = t;
          after = omega (arith, next.after, v.after);
          inside = t≤n;
          stands = omega (arith, join.here, prev.stands 0<p);
          low = omega (arith, join.above t (le_refl _), sum_previous next prev, ap (λ (j : ℕ). sum_to l j) e, v.low);
        })
        (λ ne.
        record {
          at = v.at;
          after = v.after;
          inside = v.inside;
          stands = omega (arith, join.other v.at (λ e. omega (arith, next.after)) ne, v.stands);
          low = omega (arith, join.below v.at (previous_before prev v.at ne early v.stands), v.low);
        })

    join_late : (u : ℕ) (v : Cover n f l u) → u ≤ n → C u ≡ true → t ≤ v.at → Cover n (fallen f slot) l' u
    join_late u v u≤n corner late =
        record {
          at = v.at;
          after = v.after;
          inside = v.inside;
          stands =
              dite (ℕ_discrete v.at t) (λ e. omega (arith, ap (λ (j : ℕ). get_or l' j 0) e, join.here, prev.stands 0<p))
              (λ ne. omega (arith, join.other v.at ne (λ e. omega (arith, next.after, prev.before)), v.stands));
          low = cover_sum falling next l' join.above u v.at u≤n corner late v.low;
        }

    pub covers_join : get_or l t 0 ≡ 1 → Covers n (Corner C) (fallen f slot) l'
    covers_join one_left =
        record {
          inside = omega (arith, join.first, falling.covered.inside);
          corner = spent_corner falling l' join.first;
          none = spent_none falling l' join.first;
          ends = λ i 0<i i≤n some'.
              let some = join_some i some' one_left in
              let end = falling.covered.ends i 0<i i≤n some.1 in
              record {
                past = omega (arith, join.first, end.past);
                corner = end.corner;
                sum = end_sum falling next l' join.above i 0<i i≤n some.1
                    (λ i≤slot. join.below i (previous_before prev i some.0 i≤slot some.1));
              };
          cover = λ u z<u u≤n corner.
              let v = falling.covered.cover u (omega (arith, join.first)) u≤n corner in
              ⊎_elim (λ early. join_early u v early one_left) (λ late. join_late u v u≤n corner late) (split falling next v.at v.stands);
        }

  -- ---- spent
  -- the slack of the leftmost right end is its cell
  pub slack_one : p ≡ 0 → get_or l t 0 ≡ 1 → f t ≡ 1
  slack_one none one_left =
      let end = falling.covered.ends t (omega (arith, next.after)) t≤n (next.stands t≤n) in
      omega (arith, end.sum, sum_previous next prev, ap (λ (j : ℕ). sum_to l j) none, up_to_none (λ i. get_or l i 0))

  pub covers_spend : (l' : List ℕ) → p ≡ 0 → Emptied l l' t → get_or l t 0 ≡ 1 → Covers n (Corner C) (fallen f slot) l'
  covers_spend l' none empty one_left =
      let here = falling.covered.ends t (omega (arith, next.after)) t≤n (next.stands t≤n) in
      record {
        inside = omega (arith, empty.first);
        corner = λ some. subst (Corner C) (sym empty.first) here.corner;
        none = λ some.
            omega (arith, ap (fallen f slot) empty.first, slack_one none one_left, fallen_high falling t next.after t≤n here.corner);
        ends = λ i 0<i i≤n some'.
            let i≢t : i ≡ t → ⊥ = λ e. omega (arith, ap (λ (j : ℕ). get_or l' j 0) e, empty.here) in
            let some : 0 < get_or l i 0 = omega (arith, empty.other i i≢t 0<i) in
            let t≤i : t ≤ i =
            ⊎_elim (λ early. absurd (omega (arith, prev.gap i (omega arith) (omega arith)))) (λ late. late) (split falling next i some) in
            record {
              past = omega (arith, empty.first);
              corner = (falling.covered.ends i 0<i i≤n some).corner;
              sum = end_sum falling next l' empty.above i 0<i i≤n some (λ i≤slot. absurd (omega (arith, next.after)));
            };
        cover = λ u z<u u≤n corner.
            let v = falling.covered.cover u (omega (arith, empty.first, next.after, falling.free)) u≤n corner in
            let t<v : t < v.at = omega (arith, empty.first, v.after) in
            record {
              at = v.at;
              after = v.after;
              inside = v.inside;
              stands = omega (arith, empty.other v.at (λ e. omega arith) (omega arith), v.stands);
              low = cover_sum falling next l' empty.above u v.at u≤n corner (omega arith) v.low;
            };
      }
