-- The laws of `gain`, `loss`, `slack_of` and `Segments` of specs/Lines.antt. `slack_of_falls`: a mask that costs the slack one lowers it by one after
-- its slot, as a fall does. `segments_falls`, `segments_stays`: what this does to the segments. `segments_same`: only the line up to n matters.
-- `segments_spent`, `segments_stands`, `segments_holds`, `segments_standing`: the spent corner and the right ends up to n are those of the line.
-- No contract cites this file. Assumes nothing.
use mathlib.Core.Path.{◌≡◌, refl, sym, ap₂, ◌∙◌}
use mathlib.Core.Bool.{Bool, true, false}
use mathlib.Core.Logic.{dite}
use mathlib.Core.List.{List}
use Prim.Native.Nat.{ℕ, ◌+◌, ◌-◌, ◌≤◌, ◌<◌}
use native.Mathlib.Decide.{dec_lt}
use native.Mathlib.Omega.{arith}
use lib.ListN.{length, get_or, set}
use lib.Seq.{get_or-set_same, get_or-set_other}
use borrow.Author.Tests.{lt-ltb, le-ltb}
use Rattle.segments_model.specs.Fall.{fallen, MoreThan}
use Rattle.segments_model.specs.Lines.{corner_of, tick, count_of, gain, loss, slack_of, Change, reserve, row_corners, row_slack, BrokenAt, Segments}
use Rattle.segments_model.specs.Cells.{Stands, Spent, standing_in, standing}
use Rattle.segments_model.specs.Links.{gaps, Held}
use Rattle.segments_model.proofs.SumLaws.{count_before, count_after}
use Rattle.segments_model.proofs.CellsLaws.{held_same}
use Rattle.segments_model.proofs.CountsLaws.{count_of_bound}
use Rattle.segments_model.proofs.EndLaws.{reserve_lasts, reserve_above, with_reserve_inner, with_reserve_end, with_end_same, with_reserve_same}
use Rattle.segments_model.proofs.EndLaws.{stands_inner, stands_outer, spent_inner}
use Rattle.segments_model.proofs.LinesLaws.{corner_of_same}
use Rattle.segments_model.proofs.LinksLaws.{held_spent}
use Rattle.segments_model.proofs.StandingLaws.{standing_words}

-- ---- slack_of, where one mask changes

module _ (u : ℕ → ℕ) (M : List ℕ) (s m : ℕ) (inside : s < length M) (v : ℕ) where
  tick_other : (kind : Bool) (r : ℕ) → (r ≡ s → ⊥) → tick kind (get_or (set M s m) r 0) v ≡ tick kind (get_or M r 0) v
  tick_other kind r r≢s = rw (get_or-set_other M s r m 0 r≢s)

  tick_same : (kind : Bool) → tick kind (get_or (set M s m) s 0) v ≡ tick kind m v
  tick_same kind = rw (get_or-set_same M s m 0 inside)

  count_less : (kind : Bool) (t : ℕ) → t ≤ s → count_of kind (set M s m) v t ≡ count_of kind M v t
  count_less kind t t≤s = count_before (λ r. tick kind (get_or M r 0) v) (λ r. tick kind (get_or (set M s m) r 0) v) s (tick_other kind) t t≤s

  count_more : (kind : Bool) (t : ℕ) → s < t → count_of kind (set M s m) v t + tick kind (get_or M s 0) v ≡ count_of kind M v t + tick kind m v
  count_more kind t s<t =
      omega (arith, tick_same kind, count_after (λ r. tick kind (get_or M r 0) v) (λ r. tick kind (get_or (set M s m) r 0) v) s (tick_other kind) t s<t)

  -- the two parts of the slack, without subtraction
  pub change_before : (kind : Bool) (t : ℕ) → t ≤ s → gain kind u M v t + loss kind u (set M s m) v t ≡ gain kind u (set M s m) v t + loss kind u M v t
  change_before true t t≤s = omega (arith, count_less true t t≤s)
  change_before false t t≤s = omega (arith, count_less false t t≤s)

  pub change_after : (kind : Bool) (t d : ℕ) → Change kind (get_or M s 0) m v d → s < t
      → gain kind u M v t + loss kind u (set M s m) v t ≡ gain kind u (set M s m) v t + loss kind u M v t + d
  change_after true t d change s<t = omega (arith, count_more true t s<t)
  change_after false t d change s<t = omega (arith, count_more false t s<t)

  module _ (kind : Bool) where
    pub change_none : Change kind (get_or M s 0) m v 0 → (t : ℕ)
        → gain kind u M v t + loss kind u (set M s m) v t ≡ gain kind u (set M s m) v t + loss kind u M v t
    change_none change t = dite (dec_lt s t) (λ s<t. omega (arith, change_after kind t 0 change s<t)) (λ t≤s. change_before kind t (omega arith))

    pub slack_of_stays : Change kind (get_or M s 0) m v 0 → (t : ℕ) → slack_of kind u M v t ≡ slack_of kind u (set M s m) v t
    slack_of_stays change t = omega (arith, change_none change t)

    pub slack_of_falls : Change kind (get_or M s 0) m v 1 → (t : ℕ) → fallen (slack_of kind u M v) s t ≡ slack_of kind u (set M s m) v t
    slack_of_falls change t =
        dite (dec_lt s t) (λ s<t. rw (lt-ltb s t s<t) (omega (arith, change_after kind t 1 change s<t)))
        (λ t≤s. rw (le-ltb s t (omega arith)) (omega (arith, change_before kind t (omega arith))))

    -- ---- reserve

    counted_stays : (b : Bool) → Change b (get_or M s 0) m v 0 → (t : ℕ) → count_of b (set M s m) v t ≡ count_of b M v t
    counted_stays true change t =
        dite (dec_lt s t) (λ s<t. omega (arith, count_more true t s<t)) (λ t≤s. count_less true t (omega arith))
    counted_stays false change t =
        dite (dec_lt s t) (λ s<t. omega (arith, count_more false t s<t)) (λ t≤s. count_less false t (omega arith))

    reserve_stays : (b : Bool) → Change b (get_or M s 0) m v 0 → (n : ℕ) → reserve b M v n ≡ reserve b (set M s m) v n
    reserve_stays true change n = omega (arith, counted_stays true change n)
    reserve_stays false change n = omega (arith, counted_stays false change n)

    reserve_falls : (b : Bool) → Change b (get_or M s 0) m v 1 → (n : ℕ) → s < n → reserve b M v n - 1 ≡ reserve b (set M s m) v n
    reserve_falls true change n s<n = omega (arith, count_more true n s<n)
    reserve_falls false change n s<n = omega (arith, count_more false n s<n, count_of_bound false (set M s m) v n)

    -- ---- Segments

    module _ {n : ℕ} {cells : List ℕ} (segments : Segments kind n u M v cells) where
      pub segments_stays : Change kind (get_or M s 0) m v 0 → Segments kind n u (set M s m) v cells
      segments_stays change =
          record {
            held =
                held_same (n + 1) (row_corners kind n u) (row_corners kind n u) (row_slack kind n u M v) (row_slack kind n u (set M s m) v) cells
                (λ t 0<t t≤n. refl)
                (λ t 0<t t≤n.
                with_reserve_same n (reserve kind M v n) (reserve kind (set M s m) v n) (slack_of kind u M v) (slack_of kind u (set M s m) v) t
                (reserve_stays kind change n) (λ _. slack_of_stays change t))
                segments.held;
            kept = λ t 0<t t≤n corner. omega (arith, segments.kept t 0<t t≤n corner, change_none change t);
            under = segments.under;
          }

      module _ (s<n : s < n) (change : Change kind (get_or M s 0) m v 1) where
        row_falls : (t : ℕ) → fallen (row_slack kind n u M v) s t ≡ row_slack kind n u (set M s m) v t
        row_falls t =
            dite (dec_lt n t)
            (λ n<t.
            rw (
              lt-ltb s t (omega arith),
              with_reserve_end n (reserve kind M v n) (slack_of kind u M v) t n<t,
              with_reserve_end n (reserve kind (set M s m) v n) (slack_of kind u (set M s m) v) t n<t,
            )
            (reserve_falls kind change n s<n))
            (λ t≤n.
            rw (
              with_reserve_inner n (reserve kind M v n) (slack_of kind u M v) t (omega arith),
              with_reserve_inner n (reserve kind (set M s m) v n) (slack_of kind u (set M s m) v) t (omega arith),
            )
            (slack_of_falls change t))

        pub segments_falls : (cells' : List ℕ) → Held (n + 1) (row_corners kind n u) (fallen (row_slack kind n u M v) s) cells'
            → MoreThan n (corner_of kind n u) (slack_of kind u M v) s 0 → Segments kind n u (set M s m) v cells'
        segments_falls cells' fell more =
            record {
              held =
                  held_same (n + 1) (row_corners kind n u) (row_corners kind n u) (fallen (row_slack kind n u M v) s) (row_slack kind n u (set M s m) v)
                  cells' (λ t 0<t t≤n. refl) (λ t 0<t t≤n. row_falls t) fell;
              kept = λ t 0<t t≤n corner.
                  dite (dec_lt s t) (λ s<t. omega (arith, more t s<t t≤n corner, change_after kind t 1 change s<t))
                  (λ t≤s. omega (arith, segments.kept t 0<t t≤n corner, change_before kind t (omega arith)));
              under = segments.under;
            }

-- lines that are equal up to n
module _ (kind : Bool) {n : ℕ} {u w : ℕ → ℕ} (same : (i : ℕ) → i ≤ n → u i ≡ w i) (M : List ℕ) (v : ℕ) where
  gain_same : (b : Bool) (t : ℕ) → t ≤ n → gain b u M v t ≡ gain b w M v t
  gain_same true t t≤n = refl
  gain_same false t t≤n = same t t≤n

  loss_same : (b : Bool) (t : ℕ) → t ≤ n → loss b u M v t ≡ loss b w M v t
  loss_same true t t≤n = same t t≤n
  loss_same false t t≤n = refl

  pub segments_same : {cells : List ℕ} → Segments kind n u M v cells → Segments kind n w M v cells
  segments_same {cells} segments =
      record {
        held =
            held_same (n + 1) (row_corners kind n u) (row_corners kind n w) (row_slack kind n u M v) (row_slack kind n w M v) cells
            (λ t 0<t t≤n+1. with_end_same n (corner_of kind n u) (corner_of kind n w) t (corner_of_same kind n u w same t))
            (λ t 0<t t≤n+1.
            with_reserve_same n (reserve kind M v n) (reserve kind M v n) (slack_of kind u M v) (slack_of kind w M v) t refl
            (λ t≤n. ap₂ ◌-◌ (gain_same kind t t≤n) (loss_same kind t t≤n)))
            segments.held;
        kept = λ t 0<t t≤n corner.
            omega (arith, segments.kept t 0<t t≤n (corner_of_same kind n u w same t t≤n ∙ corner), gain_same kind t t≤n, loss_same kind t t≤n);
        under = λ t t≤n. omega (arith, segments.under t t≤n, same t t≤n);
      }

  pub broken_same : (t : ℕ) → BrokenAt kind n u M v t → BrokenAt kind n w M v t
  broken_same t b =
      record {
        above = b.above;
        inside = b.inside;
        corner = sym (corner_of_same kind n u w same t b.inside) ∙ b.corner;
        broken = omega (arith, b.broken, gain_same kind t b.inside, loss_same kind t b.inside);
      }

-- the line's own corners and right ends
module _ {kind : Bool} {n : ℕ} {u : ℕ → ℕ} {M : List ℕ} {v : ℕ} {cells : List ℕ} (segments : Segments kind n u M v cells) where
  pub segments_spent : Spent n (corner_of kind n u) (slack_of kind u M v) (get_or cells 0 0)
  segments_spent =
      spent_inner n (corner_of kind n u) (slack_of kind u M v) (reserve kind M v n) (get_or cells 0 0) (omega (arith, reserve_lasts M v n kind))
      (held_spent segments.held)

  pub segments_stands : (t : ℕ) → 0 < t → t ≤ n → 0 < get_or (gaps cells) t 0 → Stands n (corner_of kind n u) (slack_of kind u M v) t
  segments_stands t 0<t t≤n some =
      stands_inner n (corner_of kind n u) (slack_of kind u M v) (reserve kind M v n) t t≤n (segments.held.cells.stands t 0<t (omega arith) some)

  pub segments_holds : (t : ℕ) → 0 < t → t ≤ n → Stands n (corner_of kind n u) (slack_of kind u M v) t → 0 < get_or (gaps cells) t 0
  segments_holds t 0<t t≤n stands =
      let below = reserve_above M v n kind u t t≤n (segments.under t t≤n) in
      segments.held.cells.held t 0<t (omega arith)
      (stands_outer n (corner_of kind n u) (slack_of kind u M v) (reserve kind M v n) t t≤n below stands)

  pub segments_standing : standing_in (gaps cells) n ≡ standing n (corner_of kind n u) (slack_of kind u M v)
  segments_standing = standing_words n (corner_of kind n u) (slack_of kind u M v) (gaps cells) segments_stands segments_holds
