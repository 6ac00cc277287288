-- A fall of the slack by one after a slot, in the form of specs/Covers.antt, where the spent corner is not after the slot (`Falling`).
-- Here: no right end after the slot (`covers_still`), and the first one, t, keeps something (`covers_less`). A right end is at most the slot or
-- at least t (`split`), and from t on the sums fall by one with the slack (`end_sum`, `cover_sum`): these serve each way of the fall.
-- No contract cites this file. Assumes nothing.
use mathlib.Core.Path.{◌≡◌, refl, sym, ap, ◌∙◌, subst}
use mathlib.Core.Bool.{Bool, true}
use mathlib.Core.Logic.{◌⊎◌, inl, inr, ⊎_elim, dite}
use mathlib.Core.List.{List}
use Prim.Native.Nat.{ℕ, ◌+◌, ◌≤◌, ◌<◌}
use native.Mathlib.Decide.{ℕ_discrete, dec_lt}
use native.Mathlib.Omega.{arith}
use lib.ListN.{get_or}
use borrow.Author.Tests.{lt-ltb, le-ltb}
use Rattle.segments_model.specs.Cells.{sum_to}
use Rattle.segments_model.specs.Covers.{Covers, Corner}
use Rattle.segments_model.specs.Fall.{fallen}
use Rattle.segments_model.specs.Search.{Next}
use Rattle.segments_model.proofs.SumLaws.{up_to_grows, sum_to_cell}
use Rattle.segments_model.proofs.StoreLaws.{Lessened}

pub record Falling (n slot : ℕ) (C : ℕ → Bool) (f : ℕ → ℕ) (l : List ℕ) : Type 0 where
  pub covered : Covers n (Corner C) f l
  pub free : get_or l 0 0 ≤ slot

-- ---- the slack after the fall

pub fallen_low : (f : ℕ → ℕ) (slot u : ℕ) → u ≤ slot → fallen f slot u ≡ f u
fallen_low f slot u u≤slot = rw (le-ltb slot u u≤slot) (omega arith)

module _ {n slot : ℕ} {C : ℕ → Bool} {f : ℕ → ℕ} {l : List ℕ} (falling : Falling n slot C f l) where
  pub fallen_high : (u : ℕ) → slot < u → u ≤ n → C u ≡ true → fallen f slot u + 1 ≡ f u
  fallen_high u slot<u u≤n corner =
      let v = falling.covered.cover u (omega (arith, falling.free)) u≤n corner in
      rw (lt-ltb slot u slot<u) (omega (arith, v.after, v.stands, v.low, sum_to_cell l v.at (omega (arith, v.after))))

  -- where cell 0 stays, what it says stays
  module _ (l' : List ℕ) (first : get_or l' 0 0 ≡ get_or l 0 0) where
    pub spent_corner : 0 < get_or l' 0 0 → C (get_or l' 0 0) ≡ true
    spent_corner some = subst (Corner C) (sym first) (falling.covered.corner (omega arith))

    pub spent_none : 0 < get_or l' 0 0 → fallen f slot (get_or l' 0 0) ≡ 0
    spent_none some = ap (fallen f slot) first ∙ fallen_low f slot (get_or l 0 0) falling.free ∙ falling.covered.none (omega arith)

  -- ---- no right end after the slot

  pub corners_none : (t : ℕ) → Next n slot l t → n < t → (u : ℕ) → slot < u → u ≤ n → C u ≡ true → ⊥
  corners_none t next n<t u slot<u u≤n corner =
      let v = falling.covered.cover u (omega (arith, falling.free)) u≤n corner in
      omega (arith, v.stands, next.gap v.at (omega (arith, v.after)) (omega (arith, v.inside)))

  pub covers_still : (t : ℕ) → Next n slot l t → n < t → Covers n (Corner C) (fallen f slot) l
  covers_still t next n<t =
      let same : (u : ℕ) → u ≤ n → C u ≡ true → fallen f slot u ≡ f u =
      λ u u≤n corner.
      dite (dec_lt slot u) (λ slot<u. absurd (corners_none t next n<t u slot<u u≤n corner)) (λ u≤slot. fallen_low f slot u (omega arith)) in
      let c = falling.covered in
      record {
        inside = c.inside;
        corner = c.corner;
        none = spent_none l refl;
        ends = λ i 0<i i≤n some.
            let end = c.ends i 0<i i≤n some in
            record { past = end.past; corner = end.corner; sum = end.sum ∙ sym (same i i≤n end.corner) };
        cover = λ u z<u u≤n corner.
            let v = c.cover u z<u u≤n corner in
            record { at = v.at; after = v.after; inside = v.inside; stands = v.stands; low = omega (arith, v.low, same u u≤n corner) };
      }

  -- ---- t is the first right end after the slot

  module _ {t : ℕ} (next : Next n slot l t) where
    pub split : (i : ℕ) → 0 < get_or l i 0 → (i ≤ slot) ⊎ (t ≤ i)
    split i some =
        dite (dec_lt slot i)
        (λ slot<i. dite (dec_lt i t) (λ i<t. absurd (omega (arith, next.gap i (omega arith) i<t))) (λ t≤i. inr (omega arith)))
        (λ i≤slot. inl (omega arith))

    -- the corners after the slot have no less slack than t
    pub after_sum : (u : ℕ) → slot < u → u ≤ n → C u ≡ true → sum_to l t ≤ f u
    after_sum u slot<u u≤n corner =
        let v = falling.covered.cover u (omega (arith, falling.free)) u≤n corner in
        ⊎_elim (λ early. absurd (omega (arith, v.after))) (λ late. omega (arith, v.low, up_to_grows (λ i. get_or l i 0) t v.at late))
        (split v.at v.stands)

    -- the sums fall by one from t on
    module _ (l' : List ℕ) (above : (i : ℕ) → t ≤ i → sum_to l' i + 1 ≡ sum_to l i) where
      pub end_sum : (i : ℕ) → 0 < i → i ≤ n → 0 < get_or l i 0 → (i ≤ slot → sum_to l' i ≡ sum_to l i) → sum_to l' i ≡ fallen f slot i
      end_sum i 0<i i≤n some below =
          let end = falling.covered.ends i 0<i i≤n some in
          dite (dec_lt slot i)
          (λ slot<i.
          ⊎_elim (λ early. absurd (omega arith)) (λ late. omega (arith, end.sum, above i late, fallen_high i slot<i i≤n end.corner)) (split i some))
          (λ i≤slot. below (omega arith) ∙ end.sum ∙ sym (fallen_low f slot i (omega arith)))

      pub cover_sum : (u w : ℕ) → u ≤ n → C u ≡ true → t ≤ w → sum_to l w ≤ f u → sum_to l' w ≤ fallen f slot u
      cover_sum u w u≤n corner t≤w low =
          dite (dec_lt slot u) (λ slot<u. omega (arith, above w t≤w, fallen_high u slot<u u≤n corner))
          (λ u≤slot. omega (arith, above w t≤w, fallen_low f slot u (omega arith)))

    -- more than one is left at t
    pub covers_less : (l' : List ℕ) → Lessened l l' t → 1 < get_or l t 0 → Covers n (Corner C) (fallen f slot) l'
    covers_less l' less more =
        record {
          inside = omega (arith, less.first, falling.covered.inside);
          corner = spent_corner l' less.first;
          none = spent_none l' less.first;
          ends = λ i 0<i i≤n some'.
              let some : 0 < get_or l i 0 =
              dite (ℕ_discrete i t) (λ e. omega (arith, ap (λ (j : ℕ). get_or l j 0) e)) (λ ne. omega (arith, less.other i ne)) in
              let end = falling.covered.ends i 0<i i≤n some in
              record {
                past = omega (arith, less.first, end.past);
                corner = end.corner;
                sum = end_sum l' less.above i 0<i i≤n some (λ i≤slot. less.below i (omega (arith, next.after)));
              };
          cover = λ u z<u u≤n corner.
              let v = falling.covered.cover u (omega (arith, less.first)) u≤n corner in
              record {
                at = v.at;
                after = v.after;
                inside = v.inside;
                stands = dite (ℕ_discrete v.at t) (λ e. omega (arith, ap (λ (j : ℕ). get_or l' j 0) e, less.here))
                    (λ ne. omega (arith, less.other v.at ne, v.stands));
                low = ⊎_elim
                    (λ early. omega (arith, less.below v.at (omega (arith, next.after)), v.low, fallen_low f slot u (omega (arith, v.after))))
                    (λ late. cover_sum l' less.above u v.at u≤n corner late v.low) (split v.at v.stands);
              };
        }
