-- The laws of specs/Fall.antt, on plain values: one for each way through a fall of the slack. `clashed`, `quiet_none` (no right end after the
-- slot), `quiet_less` (something is left at t), `quiet_join` (nothing is left, and a right end stands before), `reached_spend` (none does).
-- Each is one of `Cells` on the gaps and one of `Linked` on the stored cells. No contract cites this file. Assumes nothing.
use mathlib.Core.Path.{◌≡◌, refl, sym, ◌∙◌}
use mathlib.Core.Bool.{Bool}
use mathlib.Core.List.{List}
use Prim.Native.Nat.{ℕ, ◌+◌, ◌-◌, ◌≤◌, ◌<◌}
use native.Mathlib.Omega.{arith}
use lib.ListN.{length, get_or, set}
use Rattle.segments_model.specs.Cells.{Cells}
use Rattle.segments_model.specs.Fall.{fallen, MoreThan, Meets, Quieted, Clashed, ReachedAt}
use Rattle.segments_model.specs.Links.{gap_of, gaps, next_of, Held}
use Rattle.segments_model.specs.Search.{Next, Previous}
use Rattle.segments_model.proofs.SumLaws.{sum_to_cell, sum_to_rises}
use Rattle.segments_model.proofs.CoversLaws.{cells_of_covers, covers_of_cells}
use Rattle.segments_model.proofs.StoreLaws.{lessened, joined, emptied}
use Rattle.segments_model.proofs.FallLaws.{Falling, corners_none, covers_still, after_sum, covers_less}
use Rattle.segments_model.proofs.JoinLaws.{sum_previous, slack_one, covers_join, covers_spend}
use Rattle.segments_model.proofs.LinksLaws.{gap_of_end, gap_of_link, gaps_length, gaps_first, gaps_at, gaps_set, gaps_set_first, gaps_end, end_gaps, held_spent, next_stands, next_first}
use Rattle.segments_model.proofs.LinkedLaws.{linked_set, linked_join, linked_spend}

-- ---- on the gaps

module _ {n slot : ℕ} {C : ℕ → Bool} {f : ℕ → ℕ} {l : List ℕ} (held : Cells n C f l) (free : get_or l 0 0 ≤ slot) {t : ℕ} (next : Next n slot l t) where
  falling : Falling n slot C f l
  falling = record { covered = covers_of_cells n C f l held; free = free }

  cells_none : n < t → Cells n C (fallen f slot) l
  cells_none n<t = cells_of_covers n C (fallen f slot) l (covers_still falling t next n<t)

  more_none : n < t → MoreThan n C f slot 1
  more_none n<t u slot<u u≤n corner = absurd (corners_none falling t next n<t u slot<u u≤n corner)

  module _ (t≤n : t ≤ n) (n<len : n < length l) where
    cells_less : 1 < get_or l t 0 → Cells n C (fallen f slot) (set l t (get_or l t 0 - 1))
    cells_less more =
        let less = lessened l t (get_or l t 0 - 1) (omega arith) (omega (arith, next.after)) (omega arith) in
        cells_of_covers n C (fallen f slot) _ (covers_less falling next _ less more)

    more_less : 1 < get_or l t 0 → MoreThan n C f slot 1
    more_less more u slot<u u≤n corner = omega (arith, after_sum falling next u slot<u u≤n corner, sum_to_cell l t (omega (arith, next.after)))

    module _ (one_left : get_or l t 0 ≡ 1) {p : ℕ} (prev : Previous slot l p) where
      cells_join : 0 < p → Cells n C (fallen f slot) (set (set l t (get_or l p 0)) p 0)
      cells_join 0<p =
          let join = joined l p t (omega arith) 0<p (omega (arith, next.after, prev.before)) one_left in
          cells_of_covers n C (fallen f slot) _ (covers_join falling next t≤n prev _ 0<p join one_left)

      more_join : 0 < p → MoreThan n C f slot 1
      more_join 0<p u slot<u u≤n corner =
          omega (arith, after_sum falling next u slot<u u≤n corner, sum_previous next prev, sum_to_cell l p 0<p, prev.stands 0<p)

      module _ (none : p ≡ 0) where
        cells_spend : Cells n C (fallen f slot) (set (set l t 0) 0 t)
        cells_spend =
            let empty = emptied l t (omega arith) (omega (arith, next.after)) one_left in
            cells_of_covers n C (fallen f slot) _ (covers_spend falling next t≤n prev _ none empty one_left)

        meets_spend : Meets n C f slot 1 t
        meets_spend =
            record {
              after = next.after;
              inside = t≤n;
              corner = (held.stands t (omega (arith, next.after)) t≤n (next.stands t≤n)).corner;
              slack = slack_one falling next t≤n prev none one_left;
            }

        past_spend : MoreThan n C f t 1
        past_spend u t<u u≤n corner =
            let v = falling.covered.cover u (omega (arith, next.after)) u≤n corner in
            omega (
              arith,
              v.low,
              sum_to_cell l t (omega (arith, next.after)),
              sum_to_rises l t v.at (omega (arith, v.after)) v.stands,
              next.stands t≤n,
            )

-- ---- on the stored cells

module _ {n : ℕ} (slot : ℕ) {C : ℕ → Bool} {f : ℕ → ℕ} {l : List ℕ} (held : Held n C f l) where
  pub clashed : slot < get_or l 0 0 → Clashed n C f slot l l
  clashed slot<z =
      let spent = held_spent held in
      record {
        same = refl;
        meets = record { after = slot<z; inside = spent.inside; corner = spent.corner (omega arith); slack = spent.none (omega arith) };
      }

  module _ (free : get_or l 0 0 ≤ slot) (slot≤n : slot ≤ n) (n<len : n < length l) {t : ℕ} (found : t ≡ next_of n slot l) where
    free_gaps : get_or (gaps l) 0 0 ≤ slot
    free_gaps = omega (arith, gaps_first l)

    next : Next n slot (gaps l) t
    next = next_first slot≤n l found held.linked n<len

    pub quiet_none : n < t → Quieted n C f slot l
    quiet_none n<t =
        record {
          held = record { cells = cells_none held.cells free_gaps next n<t; linked = held.linked };
          more = more_none held.cells free_gaps next n<t;
        }

    module _ (t≤n : t ≤ n) where
      0<t : 0 < t
      0<t = omega (arith, next.after)

      here : get_or (gaps l) t 0 ≡ get_or l t 0 + 1
      here = gaps_end l t 0<t (omega arith) (next_stands slot≤n l found t≤n)

      n<gaps : n < length (gaps l)
      n<gaps = omega (arith, gaps_length l)

      pub quiet_less : 0 < get_or l t 0 → Quieted n C f slot (set l t (get_or l t 0 - 1))
      quiet_less more =
          let d = get_or l t 0 in
          let left : gap_of (d - 1) ≡ get_or (gaps l) t 0 - 1 =
          gap_of_end (d - 1) (omega (arith, next_stands slot≤n l found t≤n)) ∙ omega (arith, here) in
          record {
            held = record {
              cells = rw (gaps_set l t (d - 1) 0<t, left) (cells_less held.cells free_gaps next t≤n n<gaps (omega (arith, here)));
              linked = linked_set l t (d - 1) 0<t (omega arith) held.linked (λ none. absurd (omega (arith, here)))
                  (λ link. absurd (omega (arith, next_stands slot≤n l found t≤n)));
            };
            more = more_less held.cells free_gaps next t≤n n<gaps (omega (arith, here));
          }

      module _ (last : get_or l t 0 ≡ 0) {p : ℕ} (prev : Previous slot (gaps l) p) where
        one_left : get_or (gaps l) t 0 ≡ 1
        one_left = omega (arith, here)

        pub quiet_join : 0 < p → Quieted n C f slot (set (set l t (get_or l p 0)) p (1024 + (t - p - 1)))
        quiet_join 0<p =
            let p<len : p < length l = omega (arith, prev.before) in
            record {
              held = record {
                cells =
                    rw (
                      gaps_set (set l t (get_or l p 0)) p (1024 + (t - p - 1)) 0<p,
                      gaps_set l t (get_or l p 0) 0<t,
                      gap_of_link (1024 + (t - p - 1)) (omega arith),
                      sym (gaps_at l p 0<p p<len),
                    ) (cells_join held.cells free_gaps next t≤n n<gaps one_left prev 0<p);
                linked = linked_join held.linked n<len next t≤n prev 0<p (end_gaps l p 0<p p<len (prev.stands 0<p));
              };
              more = more_join held.cells free_gaps next t≤n n<gaps one_left prev 0<p;
            }

        pub reached_spend : p ≡ 0 → ReachedAt n C f slot (set (set l t 1024) 0 t) t
        reached_spend none =
            record {
              held = record {
                cells =
                    rw (gaps_set_first (set l t 1024) t, gaps_set l t 1024 0<t, gap_of_link 1024 (omega arith))
                    (cells_spend held.cells free_gaps next t≤n n<gaps one_left prev none);
                linked = linked_spend held.linked n<len next t≤n;
              };
              more = λ u slot<u u≤n corner. (held_spent held).last u (omega arith) u≤n corner;
              meets = meets_spend held.cells free_gaps next t≤n n<gaps one_left prev none;
              past = past_spend held.cells free_gaps next t≤n n<gaps one_left prev none;
            }
