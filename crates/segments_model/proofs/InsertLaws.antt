-- The laws of `Inserted` of specs/Build.antt, one for each way of inserting a corner t with slack x before those that the cells hold: a later one
-- is spent, t is spent, t is alone, t lies behind the first right end, or stands before it. No contract cites this file. Assumes nothing.
use mathlib.Core.Path.{◌≡◌, refl, sym, ap, ◌∙◌, subst}
use mathlib.Core.Bool.{Bool, true}
use mathlib.Core.Logic.{dite}
use mathlib.Core.List.{List}
use Prim.Native.Nat.{ℕ, ◌+◌, ◌-◌, ◌≤◌, ◌<◌}
use native.Mathlib.Nat.{le_refl}
use native.Mathlib.Decide.{ℕ_discrete, dec_lt}
use native.Mathlib.Omega.{arith}
use lib.ListN.{length, get_or, set, length-set}
use lib.Seq.{get_or-set_same, get_or-set_other}
use Rattle.segments_model.specs.Cells.{sum_to}
use Rattle.segments_model.specs.Covers.{Cover}
use Rattle.segments_model.specs.Build.{Filling, Laid, Inserted, Pointed}
use Rattle.segments_model.specs.Links.{gap_of, gaps, Fresh}
use Rattle.segments_model.specs.Search.{Next}
use Rattle.segments_model.proofs.SumLaws.{up_to_none, up_to_flat, up_to_last, sum_to_set_after}
use Rattle.segments_model.proofs.FillingLaws.{before_first, from_first, filling_spent, filling_behind, filling_zero}
use Rattle.segments_model.proofs.LinksLaws.{gap_of_end, gaps_length, gaps_first, gaps_set, gaps_set_first, gaps_end, end_gaps}
use Rattle.segments_model.proofs.LinkedLaws.{gaps_set_same, gaps_set_other, linked_set, linked_set_first, linked_insert, gaps_pointed, linked_pointed}

-- ---- t is a right end

-- in a list l' with the right ends after t
filling_stands : (n : ℕ) (C : ℕ → Bool) (f : ℕ → ℕ) (t : ℕ) (l' : List ℕ) → 0 < t → t ≤ n → C t ≡ true → 0 < f t
    → get_or l' 0 0 ≡ 0 → get_or l' t 0 ≡ f t → ((i : ℕ) → 0 < i → i < t → get_or l' i 0 ≡ 0)
    → ((i : ℕ) → t < i → i ≤ n → 0 < get_or l' i 0 → (C i ≡ true) × (sum_to l' i ≡ f i))
    → ((u : ℕ) → t < u → u ≤ n → C u ≡ true → Cover n f l' u) → Filling n C f (t - 1) l' t
filling_stands n C f t l' 0<t t≤n corner slack none here clean later_ends later_covers =
    let sum : sum_to l' t ≡ f t =
    omega (
      arith,
      up_to_last (λ j. get_or l' j 0) t 0<t,
      up_to_none (λ j. get_or l' j 0),
      up_to_flat (λ j. get_or l' j 0) 0 (t - 1) (omega arith) (λ j 0<j j<t. clean j 0<j (omega arith)),
    )
    in
    record {
      covers = record {
        inside = omega arith;
        corner = λ some. absurd (omega arith);
        none = λ some. absurd (omega arith);
        ends = λ i 0<i i≤n some.
            dite (ℕ_discrete i t)
            (λ e. record { past = omega arith; corner = (omega arith, ap C e ∙ corner); sum = ap (sum_to l') e ∙ sum ∙ sym (ap f e) })
            (λ ne.
            dite (dec_lt i t) (λ i<t. absurd (omega (arith, clean i 0<i i<t)))
            (λ t≤i.
            let end = later_ends i (omega arith) i≤n some in
            record { past = omega arith; corner = (omega arith, end.0); sum = end.1 }));
        cover = λ u z<u u≤n later.
            dite (ℕ_discrete u t)
            (λ e. record { at = t; after = omega arith; inside = t≤n; stands = omega arith; low = omega (arith, sum, ap f e) })
            (λ ne. later_covers u (omega (arith, later.0)) u≤n later.1);
      };
      first = record { after = omega arith; inside = omega arith; stands = λ _. omega arith; gap = λ i t≤i i<t. absurd (omega arith) };
      clean = λ i 0<i i<t. clean i (omega arith) (omega arith);
    }

module _ {n : ℕ} {C : ℕ → Bool} {f : ℕ → ℕ} {t : ℕ} {l : List ℕ} {q : ℕ} (done : Filling n C f t l q)
    (0<t : 0 < t) (t≤n : t ≤ n) (n<len : n < length l) (none : get_or l 0 0 ≡ 0) where
  filling_alone : C t ≡ true → 0 < f t → n < q → Filling n C f (t - 1) (set l t (f t)) t
  filling_alone corner slack n<q =
      let l' = set l t (f t) in
      let other : (i : ℕ) → (i ≡ t → ⊥) → get_or l' i 0 ≡ get_or l i 0 = λ i i≢t. get_or-set_other l t i (f t) 0 i≢t in
      filling_stands n C f t l' 0<t t≤n corner slack (other 0 (λ e. omega arith) ∙ none) (get_or-set_same l t (f t) 0 (omega arith))
      (λ i 0<i i<t. other i (λ e. omega arith) ∙ done.clean i 0<i (omega arith))
      (λ i t<i i≤n some. absurd (omega (arith, other i (λ e. omega arith), before_first done i (omega arith) (omega arith))))
      (λ u t<u u≤n corner_u.
      let v = done.covers.cover u (omega arith) u≤n (t<u, corner_u) in
      absurd (omega (arith, v.stands, before_first done v.at (omega (arith, v.after)) (omega (arith, v.inside)))))

  -- the first right end so far gives up the slack of t
  filling_before : C t ≡ true → 0 < f t → q ≤ n → f t < get_or l q 0 → Filling n C f (t - 1) (set (set l q (get_or l q 0 - f t)) t (f t)) t
  filling_before corner slack q≤n less =
      let y = get_or l q 0 - f t in
      let m = set l q y in
      let l' = set m t (f t) in
      let t<q : t < q = done.first.after in
      let t<len : t < length m = omega (arith, length-set l q y) in
      let other : (i : ℕ) → (i ≡ t → ⊥) → (i ≡ q → ⊥) → get_or l' i 0 ≡ get_or l i 0 =
      λ i i≢t i≢q. get_or-set_other m t i (f t) 0 i≢t ∙ get_or-set_other l q i y 0 i≢q in
      let at_q : get_or l' q 0 ≡ y = get_or-set_other m t q (f t) 0 (λ e. omega arith) ∙ get_or-set_same l q y 0 (omega arith) in
      let m_t : get_or m t 0 ≡ 0 = get_or-set_other l q t y 0 (λ e. omega arith) ∙ done.clean t 0<t (omega arith) in
      let sums : (i : ℕ) → q ≤ i → sum_to l' i ≡ sum_to l i =
      λ i q≤i. omega (arith, sum_to_set_after m (f t) t i t<len 0<t (omega arith), sum_to_set_after l y q i (omega arith) (omega arith) q≤i) in
      filling_stands n C f t l' 0<t t≤n corner slack (other 0 (λ e. omega arith) (λ e. omega arith) ∙ none) (get_or-set_same m t (f t) 0 t<len)
      (λ i 0<i i<t. other i (λ e. omega arith) (λ e. omega arith) ∙ done.clean i 0<i (omega arith))
      (λ i t<i i≤n some'.
      let some : 0 < get_or l i 0 =
      dite (ℕ_discrete i q) (λ e. omega (arith, ap (λ (j : ℕ). get_or l j 0) e)) (λ ne. omega (arith, other i (λ e. omega arith) ne)) in
      let end = done.covers.ends i (omega arith) i≤n some in
      (end.corner.1, sums i (from_first done i (omega arith) some) ∙ end.sum))
      (λ u t<u u≤n corner_u.
      let v = done.covers.cover u (omega arith) u≤n (t<u, corner_u) in
      record {
        at = v.at;
        after = v.after;
        inside = v.inside;
        stands = dite (ℕ_discrete v.at q) (λ e. omega (arith, ap (λ (j : ℕ). get_or l' j 0) e, at_q))
            (λ ne. omega (arith, other v.at (λ e. omega (arith, v.after)) ne, v.stands));
        low = omega (arith, sums v.at (from_first done v.at (omega (arith, v.after)) v.stands), v.low);
      })

-- ---- Inserted

module _ (n t x q : ℕ) (l : List ℕ) (0<t : 0 < t) (t≤n : t ≤ n) (n<len : n < length l) where
  n<gaps : n < length (gaps l)
  n<gaps = omega (arith, gaps_length l)

  -- the cells stay
  laid_stays : {C : ℕ → Bool} {f : ℕ → ℕ} → Laid n C f t l q → Filling n C f (t - 1) (gaps l) q → Laid n C f (t - 1) l q
  laid_stays laid filling = record { filling = filling; linked = laid.linked; fresh = λ i 0<i i<t. laid.fresh i 0<i (omega arith) }

  pub inserted_spent : 0 < get_or l 0 0 → Inserted n t x q l l q
  inserted_spent some =
      record {
        size = refl;
        laid = λ C f laid corner slack. laid_stays laid (filling_spent laid.filling 0<t (omega (arith, gaps_first l)));
      }

  -- the cell of a right end is one less than its gap
  first_end : {C : ℕ → Bool} {f : ℕ → ℕ} → Laid n C f t l q → q ≤ n → (get_or l q 0 < 1024) × (get_or (gaps l) q 0 ≡ get_or l q 0 + 1)
  first_end laid q≤n =
      let first = laid.filling.first in
      let 0<q : 0 < q = omega (arith, first.after) in
      let end = end_gaps l q 0<q (omega arith) (first.stands q≤n) in
      (end, gaps_end l q 0<q (omega arith) end)

  pub inserted_behind : q ≤ n → get_or l q 0 < x → Inserted n t x q l l q
  inserted_behind q≤n low =
      record {
        size = refl;
        laid = λ C f laid corner slack. laid_stays laid (filling_behind laid.filling 0<t q≤n (omega (arith, (first_end laid q≤n).1)));
      }

  module _ (none : get_or l 0 0 ≡ 0) where
    none_gaps : get_or (gaps l) 0 0 ≡ 0
    none_gaps = gaps_first l ∙ none

    pub inserted_zero : x ≡ 0 → Inserted n t x q l (set l 0 t) q
    inserted_zero no_slack =
        record {
          size = length-set l 0 t;
          laid = λ C f laid corner slack.
              record {
                filling = rw (gaps_set_first l t) (filling_zero laid.filling 0<t t≤n n<gaps none_gaps corner (slack ∙ no_slack));
                linked = linked_set_first l t n<len laid.linked;
                fresh = λ i 0<i i<t. get_or-set_other l 0 i t 0 (λ e. omega arith) ∙ laid.fresh i 0<i (omega arith);
              };
        }

    module _ (some : 0 < x) (x≤n : x ≤ 1024) where
      own_gap : gap_of (x - 1) ≡ x
      own_gap = gap_of_end (x - 1) (omega arith) ∙ omega arith

      -- the cells between t and q, which was the first right end, are pointed at it
      laid_point : {C : ℕ → Bool} {f : ℕ → ℕ} (l₁ l' : List ℕ) → length l₁ ≡ length l → Next n t (gaps l₁) q → Pointed (t + 1) q q l₁ l'
          → Laid n C f (t - 1) l₁ t → Laid n C f (t - 1) l' t
      laid_point l₁ l' size next pointed laid =
          record {
            filling = rw (gaps_pointed next (omega arith) (le_refl q) pointed) laid.filling;
            linked = linked_pointed next (omega arith) (le_refl q) pointed laid.linked;
            fresh = λ i 0<i i<t. pointed.before i (omega arith) ∙ laid.fresh i 0<i i<t;
          }

      pub inserted_alone : n < q → (l' : List ℕ) → Pointed (t + 1) q q (set l t (x - 1)) l' → Inserted n t x q l l' t
      inserted_alone n<q l' pointed =
          let l₁ = set l t (x - 1) in
          record {
            size = pointed.size ∙ length-set l t (x - 1);
            laid = λ C f laid corner slack.
                let first = laid.filling.first in
                let next : Next n t (gaps l₁) q =
                record {
                  after = first.after;
                  inside = first.inside;
                  stands = λ q≤n. absurd (omega arith);
                  gap = λ i t<i i<q. gaps_set_other l t (x - 1) 0<t (omega arith) i (λ e. omega arith) ∙ first.gap i t<i i<q;
                } in
                laid_point l₁ l' (length-set l t (x - 1)) next pointed
                (record {
                  filling =
                      rw (gaps_set l t (x - 1) 0<t, own_gap)
                      (subst (λ (y : ℕ). Filling n C f (t - 1) (set (gaps l) t y) t) slack
                      (filling_alone laid.filling 0<t t≤n n<gaps none_gaps corner (omega arith) n<q));
                  linked = linked_insert l t (x - 1) 0<t (omega arith) laid.linked laid.fresh (omega arith);
                  fresh = λ i 0<i i<t. get_or-set_other l t i (x - 1) 0 (λ e. omega arith) ∙ laid.fresh i 0<i (omega arith);
                });
          }

      pub inserted_before : q ≤ n → x ≤ get_or l q 0 → (l' : List ℕ) → Pointed (t + 1) q q (set (set l q (get_or l q 0 - x)) t (x - 1)) l'
          → Inserted n t x q l l' t
      inserted_before q≤n less l' pointed =
          let y = get_or l q 0 - x in
          let l₁ = set l q y in
          let l₂ = set l₁ t (x - 1) in
          let size₁ = length-set l q y in
          let size₂ : length l₂ ≡ length l = length-set l₁ t (x - 1) ∙ size₁ in
          record {
            size = pointed.size ∙ size₂;
            laid = λ C f laid corner slack.
                let first = laid.filling.first in
                let t<q : t < q = first.after in
                let end = first_end laid q≤n in
                let rest : gap_of y ≡ get_or (gaps l) q 0 - x = gap_of_end y (omega (arith, end.0)) ∙ omega (arith, end.1) in
                let fresh : Fresh t l₁ = λ i 0<i i≤t. get_or-set_other l q i y 0 (λ e. omega arith) ∙ laid.fresh i 0<i i≤t in
                let at_q : get_or (gaps l₂) q 0 ≡ gap_of y =
                gaps_set_other l₁ t (x - 1) 0<t (omega (arith, size₁)) q (λ e. omega arith) ∙ gaps_set_same l q y (omega arith) (omega arith) in
                let next : Next n t (gaps l₂) q =
                record {
                  after = t<q;
                  inside = first.inside;
                  stands = λ _. omega (arith, at_q, rest, end.1);
                  gap = λ i t<i i<q.
                      gaps_set_other l₁ t (x - 1) 0<t (omega (arith, size₁)) i (λ e. omega arith)
                      ∙ gaps_set_other l q y (omega arith) (omega arith) i (λ e. omega arith) ∙ first.gap i t<i i<q;
                } in
                laid_point l₂ l' size₂ next pointed
                (record {
                  filling =
                      rw (gaps_set l₁ t (x - 1) 0<t, gaps_set l q y (omega arith), own_gap, rest)
                      (subst (λ (w : ℕ). Filling n C f (t - 1) (set (set (gaps l) q (get_or (gaps l) q 0 - w)) t w) t) slack
                      (filling_before laid.filling 0<t t≤n n<gaps none_gaps corner (omega arith) q≤n (omega (arith, end.1))));
                  linked = linked_insert l₁ t (x - 1) 0<t (omega (arith, size₁))
                      (linked_set l q y (omega arith) (omega arith) laid.linked (λ empty. absurd (omega (arith, end.1)))
                      (λ link. absurd (omega (arith, end.0)))) fresh (omega arith);
                  fresh = λ i 0<i i<t. get_or-set_other l₁ t i (x - 1) 0 (λ e. omega arith) ∙ fresh i 0<i (omega arith);
                });
          }
