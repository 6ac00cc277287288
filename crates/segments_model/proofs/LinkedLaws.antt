-- `Linked` of specs/Links.antt across stores: of a right end for a right end, or of a link that passes none (`linked_set`), of the spent corner
-- (`linked_set_first`), of a new right end behind fresh cells (`linked_insert`); a fall that joins or spends (`linked_join`, `linked_spend`); and
-- cells pointed at the first right end (`linked_pointed`). One cell more: `pointed_more`, `fresh_more`. No contract cites this file. Assumes nothing.
use mathlib.Core.Path.{◌≡◌, refl, sym, ap, ◌∙◌}
use mathlib.Core.Logic.{dite}
use mathlib.Core.List.{List}
use Prim.Native.Nat.{ℕ, ◌+◌, ◌-◌, ◌≤◌, ◌<◌}
use native.Mathlib.Decide.{ℕ_discrete, dec_lt}
use native.Mathlib.Omega.{arith}
use lib.ListN.{length, get_or, set, length-set}
use lib.Seq.{get_or-set_same, get_or-set_other, ext_get_or}
use Rattle.segments_model.specs.Build.{Pointed}
use Rattle.segments_model.specs.Links.{gap_of, gaps, target, Link, Linked, Fresh}
use Rattle.segments_model.specs.Search.{Gap, Next, Previous}
use Rattle.segments_model.proofs.LinksLaws.{gap_of_link, gaps_length, gaps_first, gaps_at, gaps_set, gaps_link, link_kept, link_next}

-- ---- one store

module _ (l : List ℕ) (t c : ℕ) (0<t : 0 < t) (t<len : t < length l) where
  pub gaps_set_same : get_or (gaps (set l t c)) t 0 ≡ gap_of c
  gaps_set_same = rw (gaps_set l t c 0<t) (get_or-set_same (gaps l) t (gap_of c) 0 (omega (arith, gaps_length l)))

  pub gaps_set_other : (i : ℕ) → (i ≡ t → ⊥) → get_or (gaps (set l t c)) i 0 ≡ get_or (gaps l) i 0
  gaps_set_other i i≢t = rw (gaps_set l t c 0<t) (get_or-set_other (gaps l) t i (gap_of c) 0 i≢t)

  module _ {n : ℕ} (links : Linked n l) where
    pub linked_set : (get_or (gaps l) t 0 ≡ 0 → 1024 ≤ c) → (1024 ≤ c → Link n l t c) → Linked n (set l t c)
    linked_set none link =
        let fewer : (i : ℕ) → get_or (gaps l) i 0 ≡ 0 → get_or (gaps (set l t c)) i 0 ≡ 0 =
        λ i empty.
        dite (ℕ_discrete i t) (λ e. rw e (gaps_set_same ∙ gap_of_link c (none (rw e at empty)))) (λ ne. gaps_set_other i ne ∙ empty) in
        record {
          each = λ w 0<w w≤n links_on.
              dite (ℕ_discrete w t)
              (λ e.
              let here : get_or (set l t c) w 0 ≡ c = ap (λ (j : ℕ). get_or (set l t c) j 0) e ∙ get_or-set_same l t c 0 t<len in
              rw (here, e) (link_kept (link (omega (arith, here))) (λ i _ _. fewer i)))
              (λ ne.
              let same : get_or (set l t c) w 0 ≡ get_or l w 0 = get_or-set_other l t w c 0 ne in
              rw same (link_kept (links.each w 0<w w≤n (omega (arith, same))) (λ i _ _. fewer i)));
        }

    -- the links before t lead to the next place
    pub linked_insert : Fresh t l → c < 1024 → Linked n (set l t c)
    linked_insert fresh end =
        record {
          each = λ w 0<w w≤n links_on.
              dite (ℕ_discrete w t)
              (λ e. absurd (omega (arith, ap (λ (j : ℕ). get_or (set l t c) j 0) e, get_or-set_same l t c 0 t<len)))
              (λ ne.
              let same : get_or (set l t c) w 0 ≡ get_or l w 0 = get_or-set_other l t w c 0 ne in
              dite (dec_lt w t) (λ w<t. link_next n (set l t c) w w≤n (same ∙ fresh w 0<w (omega arith)))
              (λ t≤w.
              rw same
              (link_kept (links.each w 0<w w≤n (omega (arith, same))) (λ i w<i _ empty. gaps_set_other i (λ e. absurd (omega arith)) ∙ empty))));
        }

pub linked_set_first : {n : ℕ} (l : List ℕ) (z : ℕ) → n < length l → Linked n l → Linked n (set l 0 z)
linked_set_first {n} l z n<len links =
    let same : (i : ℕ) → 0 < i → get_or (set l 0 z) i 0 ≡ get_or l i 0 = λ i 0<i. get_or-set_other l 0 i z 0 (λ e. absurd (omega arith)) in
    record {
      each = λ w 0<w w≤n links_on.
          rw (same w 0<w)
          (link_kept (links.each w 0<w w≤n (omega (arith, same w 0<w)))
          (λ i w<i i≤n empty.
          gaps_at (set l 0 z) i (omega arith) (omega (arith, length-set l 0 z)) ∙ ap gap_of (same i (omega arith))
          ∙ sym (gaps_at l i (omega arith) (omega arith)) ∙ empty));
    }

-- ---- a fall

module _ {n slot : ℕ} {l : List ℕ} (links : Linked n l) (n<len : n < length l) {t : ℕ} (next : Next n slot (gaps l) t) (t≤n : t ≤ n) where
  pub linked_join : {p : ℕ} → Previous slot (gaps l) p → 0 < p → get_or l p 0 < 1024
      → Linked n (set (set l t (get_or l p 0)) p (1024 + (t - p - 1)))
  linked_join {p} prev 0<p stands =
      let d = get_or l p 0 in
      let l₁ = set l t d in
      let 0<t : 0 < t = omega (arith, next.after) in
      let between : Gap (gaps l₁) (p + 1) t =
      λ i p<i i<t.
      gaps_set_other l t d 0<t (omega arith) i (λ e. absurd (omega arith))
      ∙ dite (dec_lt slot i) (λ slot<i. next.gap i (omega arith) i<t) (λ i≤slot. prev.gap i p<i (omega arith)) in
      let to : target p (1024 + (t - p - 1)) ≡ t = omega (arith, next.after, prev.before) in
      linked_set l₁ p (1024 + (t - p - 1)) 0<p (omega (arith, length-set l t d, next.after, prev.before))
      (linked_set l t d 0<t (omega arith) links (λ none. absurd (omega (arith, next.stands t≤n))) (λ link. absurd (omega arith)))
      (λ none. omega arith)
      (λ _. record { inside = omega arith; gap = λ i p<i i<to. between i p<i (omega arith) })

  pub linked_spend : Linked n (set (set l t 1024) 0 t)
  linked_spend =
      linked_set_first (set l t 1024) t (omega (arith, length-set l t 1024))
      (linked_set l t 1024 (omega (arith, next.after)) (omega arith) links (λ none. omega arith) (λ _. link_next n l t t≤n refl))

-- ---- cells pointed at the first right end

module _ {n s past q : ℕ} {l l' : List ℕ} (next : Next n s (gaps l) q) (n<len : n < length l) (past≤q : past ≤ q) (pointed : Pointed (s + 1) past q l l') where
  pub gaps_pointed : gaps l' ≡ gaps l
  gaps_pointed =
      ext_get_or 0 (gaps l') (gaps l) (gaps_length l' ∙ pointed.size ∙ sym (gaps_length l))
      (λ i i<len.
      let inside : i < length l' = omega (arith, gaps_length l') in
      let kept : get_or l' i 0 ≡ get_or l i 0 → get_or (gaps l') i 0 ≡ get_or (gaps l) i 0 =
      λ same.
      dite (dec_lt 0 i)
      (λ 0<i. gaps_at l' i 0<i inside ∙ ap gap_of same ∙ sym (gaps_at l i 0<i (omega (arith, pointed.size))))
      (λ none. let e : i ≡ 0 = omega arith in rw e (gaps_first l' ∙ (rw e at same) ∙ sym (gaps_first l))) in
      dite (dec_lt s i)
      (λ s<i.
      dite (dec_lt i past)
      (λ i<past.
      gaps_link l' i (omega arith) inside (omega (arith, pointed.links i (omega arith) i<past)) ∙ sym (next.gap i (omega arith) (omega arith)))
      (λ past≤i. kept (pointed.after i (omega arith))))
      (λ i≤s. kept (pointed.before i (omega arith))))

  pub linked_pointed : Linked n l → Linked n l'
  linked_pointed links =
      let kept : (w : ℕ) → 0 < w → w ≤ n → get_or l' w 0 ≡ get_or l w 0 → 1024 ≤ get_or l' w 0 → Link n l' w (get_or l' w 0) =
      λ w 0<w w≤n same link.
      rw same (link_kept (links.each w 0<w w≤n (omega (arith, same))) (λ i _ _ empty. ap (λ (m : List ℕ). get_or m i 0) gaps_pointed ∙ empty)) in
      record {
        each = λ w 0<w w≤n link.
            dite (dec_lt s w)
            (λ s<w.
            dite (dec_lt w past)
            (λ w<past.
            let to : target w (get_or l' w 0) ≡ q = omega (arith, pointed.links w (omega arith) w<past) in
            record {
              inside = omega (arith, to, next.inside);
              gap = λ i w<i i<to. ap (λ (m : List ℕ). get_or m i 0) gaps_pointed ∙ next.gap i (omega arith) (omega (arith, to));
            })
            (λ past≤w. kept w 0<w w≤n (pointed.after w (omega arith)) link))
            (λ w≤s. kept w 0<w w≤n (pointed.before w (omega arith)) link);
      }

-- ---- Pointed and Fresh, one cell more

pub pointed_none : (from next : ℕ) (l : List ℕ) → Pointed from from next l l
pointed_none from next l = record { size = refl; links = λ i from≤i i<from. absurd (omega arith); before = λ i _. refl; after = λ i _. refl }

pub pointed_more : {from i next : ℕ} {l₀ l : List ℕ} → Pointed from i next l₀ l → from ≤ i → i < length l
    → Pointed from (i + 1) next l₀ (set l i (1024 + (next - i - 1)))
pointed_more {i = i} {next = next} {l = l} pointed from≤i i<len =
    let c = 1024 + (next - i - 1) in
    record {
      size = length-set l i c ∙ pointed.size;
      links = λ j from≤j j≤i.
          dite (ℕ_discrete j i) (λ e. rw e (get_or-set_same l i c 0 i<len))
          (λ ne. get_or-set_other l i j c 0 ne ∙ pointed.links j from≤j (omega arith));
      before = λ j j<from. get_or-set_other l i j c 0 (λ e. absurd (omega arith)) ∙ pointed.before j j<from;
      after = λ j i<j. get_or-set_other l i j c 0 (λ e. absurd (omega arith)) ∙ pointed.after j (omega arith);
    }

pub fresh_more : (l : List ℕ) (t : ℕ) → 0 < t → t < length l → Fresh (t - 1) l → Fresh t (set l t 1024)
fresh_more l t 0<t t<len fresh i 0<i i≤t =
    dite (ℕ_discrete i t) (λ e. rw e (get_or-set_same l t 1024 0 t<len)) (λ ne. get_or-set_other l t i 1024 0 ne ∙ fresh i 0<i (omega arith))
