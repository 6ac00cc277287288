-- `Cells` of specs/Cells.antt and `Covers` of specs/Covers.antt say the same: `cells_of_covers`, `covers_of_cells`. A later corner has more slack
-- since a right end at it or after it covers it, and sums over the cells grow (`sum_to_rises`). No contract cites this file.
-- Assumes nothing.
use mathlib.Core.Path.{◌≡◌, ap}
use mathlib.Core.Bool.{Bool, true}
use mathlib.Core.Logic.{inl, inr, dite}
use mathlib.Core.List.{List}
use Prim.Native.Nat.{ℕ, ◌+◌, ◌-◌, ◌≤◌, ◌<◌}
use native.Mathlib.Nat.{le_refl}
use native.Mathlib.Decide.{ℕ_discrete, dec_lt}
use native.Mathlib.Omega.{arith}
use lib.ListN.{get_or}
use Rattle.segments_model.specs.Cells.{Stands, Cells}
use Rattle.segments_model.specs.Covers.{Cover, Covers, Corner}
use Rattle.segments_model.proofs.SumLaws.{sum_to_cell, sum_to_rises}
use Rattle.segments_model.proofs.LowestLaws.{Found, lowest}

-- a right end lies after each corner without slack
stands_past : (n : ℕ) (C : ℕ → Bool) (f : ℕ → ℕ) (z t : ℕ) → z ≤ n → (0 < z → C z ≡ true) → (0 < z → f z ≡ 0) → 0 < t → Stands n C f t → z < t
stands_past n C f z t z≤n corner none 0<t stands =
    dite (dec_lt z t) (λ z<t. z<t)
    (λ t≤z.
    dite (ℕ_discrete t z) (λ e. absurd (omega (arith, none (omega arith), ap f e, stands.slack)))
    (λ t≢z. absurd (omega (arith, none (omega arith), stands.least z (omega arith) z≤n (corner (omega arith))))))

-- ---- cells from covers

module _ (n : ℕ) (C : ℕ → Bool) (f : ℕ → ℕ) (cells : List ℕ) (covers : Covers n (Corner C) f cells) where
  covers_stands : (t : ℕ) → 0 < t → t ≤ n → 0 < get_or cells t 0 → Stands n C f t
  covers_stands t 0<t t≤n some =
      let end = covers.ends t 0<t t≤n some in
      record {
        corner = end.corner;
        slack = omega (arith, end.sum, sum_to_cell cells t 0<t);
        least = λ u t<u u≤n corner.
            let v = covers.cover u (omega (arith, end.past)) u≤n corner in
            omega (arith, end.sum, v.low, sum_to_rises cells t v.at (omega (arith, v.after)) v.stands);
      }

  covers_held : (t : ℕ) → 0 < t → t ≤ n → Stands n C f t → 0 < get_or cells t 0
  covers_held t 0<t t≤n stands =
      let v = covers.cover t (stands_past n C f (get_or cells 0 0) t covers.inside covers.corner covers.none 0<t stands) t≤n stands.corner in
      dite (ℕ_discrete v.at t) (λ e. rw e at v.stands)
      (λ ne.
      let end = covers.ends v.at (omega (arith, v.after)) v.inside v.stands in
      absurd (omega (arith, end.sum, v.low, v.after, stands.least v.at (omega (arith, v.after)) v.inside end.corner)))

  pub cells_of_covers : Cells n C f cells
  cells_of_covers =
      record {
        spent = record {
          inside = covers.inside;
          corner = covers.corner;
          none = covers.none;
          last = λ u z<u u≤n corner.
              let v = covers.cover u z<u u≤n corner in
              omega (arith, v.low, v.stands, v.after, sum_to_cell cells v.at (omega (arith, v.after)));
        };
        stands = covers_stands;
        held = covers_held;
        sums = λ t 0<t t≤n stands. (covers.ends t 0<t t≤n (covers_held t 0<t t≤n stands)).sum;
      }

-- ---- covers from cells

module _ (n : ℕ) (C : ℕ → Bool) (f : ℕ → ℕ) (cells : List ℕ) (held : Cells n C f cells) where
  cells_cover : (u : ℕ) → get_or cells 0 0 < u → u ≤ n → C u ≡ true → Found n C f u → Cover n f cells u
  cells_cover u z<u u≤n corner (inl none) = absurd (none u (le_refl _) u≤n corner)
  cells_cover u z<u u≤n corner (inr (w, lo)) =
      let stands : Stands n C f w =
      record { corner = lo.corner; slack = held.spent.last w (omega (arith, lo.from)) lo.inside lo.corner; least = lo.last } in
      let 0<w : 0 < w = omega (arith, lo.from) in
      record {
        at = w;
        after = lo.from;
        inside = lo.inside;
        stands = held.held w 0<w lo.inside stands;
        low = omega (arith, held.sums w 0<w lo.inside stands, lo.least u (le_refl _) u≤n corner);
      }

  pub covers_of_cells : Covers n (Corner C) f cells
  covers_of_cells =
      let spent = held.spent in
      record {
        inside = spent.inside;
        corner = spent.corner;
        none = spent.none;
        ends = λ t 0<t t≤n some.
            let stands = held.stands t 0<t t≤n some in
            record {
              past = stands_past n C f (get_or cells 0 0) t spent.inside spent.corner spent.none 0<t stands;
              corner = stands.corner;
              sum = held.sums t 0<t t≤n stands;
            };
        cover = λ u z<u u≤n corner. cells_cover u z<u u≤n corner (lowest n C f (n + 1 - u) u (omega arith));
      }
