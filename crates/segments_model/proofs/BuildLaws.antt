-- The laws of `Done` of specs/Build.antt: the start (`done_none`; with the corner at n + 1 `done_end`), one prefix more (`done_skip`, `done_insert`), cells pointed at the first right
-- end (`done_point`), and the end (`segments_done`). No contract cites this file. Assumes nothing.
use mathlib.Core.Path.{◌≡◌, refl, sym, ap, ◌∙◌}
use mathlib.Core.Bool.{Bool, true, false, true≢false}
use mathlib.Core.Logic.{dite}
use mathlib.Core.List.{List}
use Prim.Native.Nat.{ℕ, ◌+◌, ◌-◌, ◌≤◌, ◌<◌}
use native.Mathlib.Decide.{ℕ_discrete}
use native.Mathlib.Omega.{arith}
use lib.ListN.{length, get_or}
use Rattle.segments_model.specs.Lines.{corner_of, gain, loss, reserve, with_end, with_reserve, row_corners, row_slack, Broken, Unbroken, Segments}
use Rattle.segments_model.specs.Links.{gaps, Fresh}
use Rattle.segments_model.specs.Build.{Laid, Inserted, Pointed, Done}
use Rattle.segments_model.proofs.CellsLaws.{held_same}
use Rattle.segments_model.proofs.EndLaws.{with_end_inner, with_end_end, with_reserve_inner, with_reserve_end, with_reserve_less}
use Rattle.segments_model.proofs.FillingLaws.{filling_none, filling_all, filling_skip}
use Rattle.segments_model.proofs.LinksLaws.{gaps_first, gaps_link, link_next}
use Rattle.segments_model.proofs.LinkedLaws.{gaps_pointed, linked_pointed}

laid_none : (n : ℕ) (C : ℕ → Bool) (f : ℕ → ℕ) (l : List ℕ) → n < length l → get_or l 0 0 ≡ 0 → Fresh n l → Laid n C f n l (n + 1)
laid_none n C f l n<len none fresh =
    record {
      filling = filling_none n C f (gaps l)
          (λ i 0≤i i≤n.
          dite (ℕ_discrete i 0) (λ e. rw e (gaps_first l ∙ none))
          (λ ne. gaps_link l i (omega arith) (omega arith) (omega (arith, fresh i (omega arith) (omega arith)))));
      linked = record { each = λ w 0<w w≤n link. link_next n l w w≤n (fresh w 0<w w≤n) };
      fresh = fresh;
    }

pub done_none : (n : ℕ) (C : ℕ → Bool) (g h : ℕ → ℕ) (l : List ℕ) → n < length l → get_or l 0 0 ≡ 0 → Fresh n l → Done n C g h n l (n + 1)
done_none n C g h l n<len none fresh =
    record { laid = laid_none n C (λ w. g w - h w) l n<len none fresh; kept = λ w n<w w≤n corner. absurd (omega arith) }

module _ {n : ℕ} {C : ℕ → Bool} {g h : ℕ → ℕ} {t : ℕ} {l : List ℕ} {q : ℕ} (done : Done n C g h t l q) (0<t : 0 < t) where
  kept_more : (C t ≡ true → h t ≤ g t) → Unbroken n C g h (t - 1)
  kept_more here w t≤w w≤n corner =
      dite (ℕ_discrete w t) (λ e. rw e (here (sym (ap C e) ∙ corner))) (λ ne. done.kept w (omega arith) w≤n corner)

  pub done_skip : C t ≡ false → Done n C g h (t - 1) l q
  done_skip flat =
      record {
        laid = record {
          filling = filling_skip done.laid.filling 0<t flat;
          linked = done.laid.linked;
          fresh = λ i 0<i i<t. done.laid.fresh i 0<i (omega arith);
        };
        kept = kept_more (λ corner. absurd (true≢false (sym corner ∙ flat)));
      }

  pub done_insert : (l' : List ℕ) (x q' : ℕ) → C t ≡ true → h t ≤ g t → g t - h t ≡ x → Inserted n t x q l l' q' → Done n C g h (t - 1) l' q'
  done_insert l' x q' corner kept slack inserted =
      record { laid = inserted.laid C (λ w. g w - h w) done.laid corner slack; kept = kept_more (λ _. kept) }

pub done_point : {n : ℕ} {C : ℕ → Bool} {g h : ℕ → ℕ} {s : ℕ} {l : List ℕ} {q : ℕ} → Done n C g h s l q → n < length l → (past : ℕ) → past ≤ q
    → (l' : List ℕ) → Pointed (s + 1) past q l l' → Done n C g h s l' q
done_point {n} {C} {g} {h} {s} {l} {q} done n<len past past≤q l' pointed =
    let laid = done.laid in
    let first = laid.filling.first in
    record {
      laid = record {
        filling = rw (gaps_pointed first n<len past≤q pointed) laid.filling;
        linked = linked_pointed first n<len past≤q pointed laid.linked;
        fresh = λ i 0<i i≤s. pointed.before i (omega arith) ∙ laid.fresh i 0<i i≤s;
      };
      kept = done.kept;
    }

-- ---- with the corner at n + 1 and its slack x

module _ (n : ℕ) (C : ℕ → Bool) (g h : ℕ → ℕ) (x : ℕ) where
  -- the first corner that is put in
  pub done_end : (l l' : List ℕ) (past q : ℕ) → past ≡ n + 2 → n + 1 < length l → get_or l 0 0 ≡ 0 → Fresh (n + 1) l
      → Inserted (n + 1) (n + 1) x past l l' q
      → Done (n + 1) (with_end n C) (with_reserve n x g) (with_reserve n 0 h) n l' q
  done_end l l' past q past_is n<len none fresh inserted =
      let before : n + 1 - 1 ≡ n = omega arith in
      let end : n + 1 + 1 ≡ past = omega arith in
      let gained = with_reserve_end n x g (n + 1) (omega arith) in
      let lost = with_reserve_end n 0 h (n + 1) (omega arith) in
      let start : Done (n + 1) (with_end n C) (with_reserve n x g) (with_reserve n 0 h) (n + 1) l past =
      rw end at (done_none (n + 1) (with_end n C) (with_reserve n x g) (with_reserve n 0 h) l n<len none fresh) in
      rw before at
      (done_insert start (omega arith) l' x q (with_end_end n C (n + 1) (omega arith)) (omega (arith, lost)) (omega (arith, gained, lost)) inserted)

  pub broken_inner : (t : ℕ) → t ≤ n → Broken (n + 1) (with_end n C) (with_reserve n x g) (with_reserve n 0 h) t → Broken n C g h t
  broken_inner t t≤n broken =
      record {
        above = broken.above;
        inside = t≤n;
        corner = sym (with_end_inner n C t t≤n) ∙ broken.corner;
        broken = omega (arith, broken.broken, with_reserve_inner n x g t t≤n, with_reserve_inner n 0 h t t≤n);
      }

pub segments_done : {kind : Bool} {n : ℕ} {u : ℕ → ℕ} {M : List ℕ} {v : ℕ} {l : List ℕ} {q : ℕ}
    → Done (n + 1) (row_corners kind n u) (with_reserve n (reserve kind M v n) (gain kind u M v)) (with_reserve n 0 (loss kind u M v)) 0 l q
    → ((t : ℕ) → t ≤ n → u t ≤ n) → Segments kind n u M v l
segments_done {kind} {n} {u} {M} {v} {l} {q} done under =
    let x = reserve kind M v n in
    let g = gain kind u M v in
    let h = loss kind u M v in
    let f : ℕ → ℕ = λ w. with_reserve n x g w - with_reserve n 0 h w in
    record {
      held =
          held_same (n + 1) (row_corners kind n u) (row_corners kind n u) f (row_slack kind n u M v) l (λ t 0<t t≤n+1. refl)
          (λ t 0<t t≤n+1. with_reserve_less n x g h t)
          (record { cells = filling_all (n + 1) (row_corners kind n u) f (gaps l) q done.laid.filling; linked = done.laid.linked });
      kept = λ t 0<t t≤n corner.
          omega (
            arith,
            done.kept t 0<t (omega arith) (with_end_inner n (corner_of kind n u) t t≤n ∙ corner),
            with_reserve_inner n x g t t≤n,
            with_reserve_inner n 0 h t t≤n,
          );
      under = under;
    }
