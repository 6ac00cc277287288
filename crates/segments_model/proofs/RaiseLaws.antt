-- The laws of specs/Raise.antt: what `risen` is for each tag (`risen_lowered`, `risen_joined`, `risen_spent`; `parted_end`, `parted_past`, `parted_some`), and
-- that each way of a fall is taken back by its tag and its note (`reversal_none`, `reversal_less`, `reversal_join`, `reversal_spend`), whatever the other
-- links: a join leaves one to where it joined. No contract cites this file. Assumes nothing.
use mathlib.Core.Path.{◌≡◌, refl, sym, ap, ◌∙◌}
use mathlib.Core.List.{List}
use Prim.Native.Nat.{ℕ, ◌+◌, ◌-◌, ◌≤◌, ◌<◌, zero-le}
use native.Mathlib.Omega.{arith}
use lib.ListN.{length, get_or, set, length-set}
use lib.Seq.{get_or-set_same, get_or-set_other, set-get_or, set-set, set_comm}
use borrow.Author.Tests.{lt-ltb, le-ltb, ne_eqb}
use Rattle.segments_model.specs.Links.{target, next_of}
use Rattle.segments_model.specs.Raise.{end_of, lifted, parted, risen, Reversal}
use Rattle.segments_model.proofs.LinksLaws.{next_after, next_stands}

-- ---- the tags

module _ (n note : ℕ) (l : List ℕ) {tag : ℕ} where
  pub risen_lowered : tag < 2 → risen n tag note l ≡ lifted (end_of tag note) l
  unfolding risen
  risen_lowered low = rw (lt-ltb tag 2 low) refl

  pub risen_spent : 2 ≤ tag → (tag ≡ 2 → ⊥) → {z : ℕ} → z ≡ get_or l 0 0 → risen n tag note l ≡ set (set l z 0) 0 note
  unfolding risen
  risen_spent high not_2 z_is = rw (z_is, le-ltb tag 2 high, ne_eqb tag 2 not_2) refl

  pub risen_joined : tag ≡ 2 → risen n tag note l ≡ parted n note l
  unfolding risen
  risen_joined is = rw is refl

-- the cell at the note is c
module _ (n note : ℕ) (l : List ℕ) {c : ℕ} (read : c ≡ get_or l note 0) where
  pub parted_end : c < 1024 → parted n note l ≡ l
  parted_end end = rw (← read, lt-ltb c 1024 end) refl

  module _ (link : 1024 ≤ c) where
    pub parted_past : n < target note c → parted n note l ≡ l
    parted_past past = rw (← read, le-ltb c 1024 link, lt-ltb n (target note c) past) refl

    pub parted_some : {t : ℕ} → t ≡ target note c → t ≤ n → parted n note l ≡ set (set l note (get_or l t 0)) t 0
    parted_some {t} leads t≤n = rw (← read, ← leads, le-ltb c 1024 link, le-ltb n t t≤n) refl

-- ---- falls

set_last : (l : List ℕ) (t : ℕ) → get_or l t 0 ≡ 0 → set l t 0 ≡ l
set_last l t is = ap (λ (x : ℕ). set l t x) (sym is) ∙ set-get_or l t 0

module _ (n slot : ℕ) (l : List ℕ) (slot≤n : slot ≤ n) (free : get_or l 0 0 ≤ slot) where
  pub reversal_none : n < 1024 → Reversal n slot 2 0 l l
  reversal_none few =
      record {
        raisable = record { known = omega arith; inside = λ no. absurd (omega arith); fits = λ no. absurd (omega arith); low = λ _. zero-le; spent = omega arith };
        back = risen_joined n 0 l refl ∙ parted_end n 0 l refl (omega arith);
      }

  module _ {t : ℕ} (found : t ≡ next_of n slot l) (t≤n : t ≤ n) (n<len : n < length l) where
    slot<t : slot < t
    slot<t = next_after slot≤n l found

    pub reversal_less : 0 < get_or l t 0 → (tag note : ℕ) → tag < 2 → end_of tag note ≡ t → Reversal n slot tag note l (set l t (get_or l t 0 - 1))
    reversal_less more tag note lowered end =
        let d = get_or l t 0 in
        let l' = set l t (d - 1) in
        let here : get_or l' t 0 ≡ d - 1 = get_or-set_same l t (d - 1) 0 (omega arith) in
        let first : get_or l' 0 0 ≡ get_or l 0 0 = get_or-set_other l t 0 (d - 1) 0 (λ e. absurd (omega (arith, slot<t))) in
        let whole : d - 1 + 1 ≡ d = omega arith in
        record {
          raisable = record {
            known = omega arith;
            inside = λ _. omega arith;
            fits = λ _. rw end (omega (arith, here, next_stands slot≤n l found t≤n));
            low = λ no. absurd (omega arith);
            spent = omega (arith, first);
          };
          back = risen_lowered n note l' lowered ∙ rw (end, here, whole, set-set l t (d - 1) d) (set-get_or l t 0);
        }

    module _ (last : get_or l t 0 ≡ 0) where
      pub reversal_join : (p : ℕ) → p ≤ slot → 0 < p → Reversal n slot 2 p l (set (set l t (get_or l p 0)) p (1024 + (t - p - 1)))
      reversal_join p p≤slot 0<p =
          let d = get_or l p 0 in
          let link = 1024 + (t - p - 1) in
          let l₁ = set l t d in
          let l' = set l₁ p link in
          let p≢t : (t ≡ p → ⊥) = λ e. absurd (omega (arith, slot<t)) in
          let here : get_or l' t 0 ≡ d = get_or-set_other l₁ p t link 0 p≢t ∙ get_or-set_same l t d 0 (omega arith) in
          let gone : get_or l' p 0 ≡ link = get_or-set_same l₁ p link 0 (omega (arith, length-set l t d, slot<t)) in
          let first : get_or l' 0 0 ≡ get_or l 0 0 =
          get_or-set_other l₁ p 0 link 0 (λ e. absurd (omega arith)) ∙ get_or-set_other l t 0 d 0 (λ e. absurd (omega (arith, slot<t))) in
          record {
            raisable = record {
              known = omega arith;
              inside = λ no. absurd (omega arith);
              fits = λ no. absurd (omega arith);
              low = λ _. p≤slot;
              spent = omega (arith, first);
            };
            back =
                risen_joined n p l' refl ∙ parted_some n p l' (sym gone) (omega arith) (omega (arith, slot<t)) t≤n
                ∙ rw (here, set-set l₁ p link d, set_comm l t p d d p≢t, set-set (set l p d) t d 0, set-get_or l p 0) (set_last l t last);
          }

      pub reversal_spend : Reversal n slot 3 (get_or l 0 0) l (set (set l t 1024) 0 t)
      reversal_spend =
          let z = get_or l 0 0 in
          let l₁ = set l t 1024 in
          let l' = set l₁ 0 t in
          let first : get_or l' 0 0 ≡ t = get_or-set_same l₁ 0 t 0 (omega (arith, length-set l t 1024)) in
          record {
            raisable = record {
              known = omega arith;
              inside = λ no. absurd (omega arith);
              fits = λ no. absurd (omega arith);
              low = λ _. free;
              spent = omega (arith, first);
            };
            back =
                risen_spent n z l' (omega arith) (λ no. absurd (omega arith)) (sym first)
                ∙ rw (set_comm l₁ 0 t t 0 (λ e. absurd (omega (arith, slot<t))), set-set l t 1024 0, set_last l t last, set-set l 0 t z) (set-get_or l 0 0);
          }
