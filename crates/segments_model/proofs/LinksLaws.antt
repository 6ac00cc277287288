-- The laws of specs/Links.antt: the gaps of a store (`gaps_set`, `gaps_set_first`) and of a cell (`gaps_at`); that links stay links where no right
-- end is added (`link_kept`); and the search: where it ends a right end stands (`next_stands`), with valid links it is the first one
-- (`next_first`); one turn of it (`Seeking`). No contract cites this file. Assumes nothing.
use mathlib.Core.Path.{◌≡◌, refl, sym, ap, ◌∙◌, subst}
use mathlib.Core.Bool.{Bool}
use mathlib.Core.Logic.{dite}
use mathlib.Core.List.{List, [], ◌∷◌}
use Prim.Native.Nat.{ℕ, zero, suc, ◌+◌, ◌-◌, ◌≤◌, ◌<◌}
use native.Mathlib.Nat.{le_refl}
use native.Mathlib.Decide.{ℕ_discrete, dec_lt}
use native.Mathlib.Omega.{arith}
use lib.ListN.{length, get_or, set}
use borrow.Author.Tests.{lt-ltb, le-ltb}
use Rattle.segments_model.specs.Cells.{Spent}
use Rattle.segments_model.specs.Links.{gap_of, gaps_of, gaps, target, Link, Linked, seek, next_of, Held}
use Rattle.segments_model.specs.Search.{Gap, Next}

-- ---- gap_of

pub gap_of_end : (c : ℕ) → c < 1024 → gap_of c ≡ c + 1
unfolding gap_of
gap_of_end c end = rw (lt-ltb c 1024 end) refl

pub gap_of_link : (c : ℕ) → 1024 ≤ c → gap_of c ≡ 0
unfolding gap_of
gap_of_link c link = rw (le-ltb c 1024 link) refl

pub end_gap_of : (c : ℕ) → 0 < gap_of c → c < 1024
end_gap_of c some = dite (dec_lt c 1024) (λ end. end) (λ link. absurd (omega (arith, gap_of_link c (omega arith))))

-- ---- gaps

gaps_of_length : (l : List ℕ) → length (gaps_of l) ≡ length l
unfolding gaps_of
gaps_of_length [] = refl
gaps_of_length (c ∷ l) = ap suc (gaps_of_length l)

gaps_of_at : (l : List ℕ) (t : ℕ) → t < length l → get_or (gaps_of l) t 0 ≡ gap_of (get_or l t 0)
unfolding gaps_of
gaps_of_at [] t inside = absurd (omega arith)
gaps_of_at (c ∷ l) zero inside = refl
gaps_of_at (c ∷ l) (suc t) inside = gaps_of_at l t (omega arith)

gaps_of_set : (l : List ℕ) (t c : ℕ) → gaps_of (set l t c) ≡ set (gaps_of l) t (gap_of c)
unfolding gaps_of
gaps_of_set [] t c = refl
gaps_of_set (x ∷ l) zero c = refl
gaps_of_set (x ∷ l) (suc t) c = ap (λ (m : List ℕ). gap_of x ∷ m) (gaps_of_set l t c)

pub gaps_length : (l : List ℕ) → length (gaps l) ≡ length l
unfolding gaps
gaps_length [] = refl
gaps_length (z ∷ l) = ap suc (gaps_of_length l)

pub gaps_first : (l : List ℕ) → get_or (gaps l) 0 0 ≡ get_or l 0 0
unfolding gaps
gaps_first [] = refl
gaps_first (z ∷ l) = refl

pub gaps_at : (l : List ℕ) (t : ℕ) → 0 < t → t < length l → get_or (gaps l) t 0 ≡ gap_of (get_or l t 0)
unfolding gaps
gaps_at [] t 0<t inside = absurd (omega arith)
gaps_at (z ∷ l) zero 0<t inside = absurd (omega arith)
gaps_at (z ∷ l) (suc t) 0<t inside = gaps_of_at l t (omega arith)

pub gaps_set : (l : List ℕ) (t c : ℕ) → 0 < t → gaps (set l t c) ≡ set (gaps l) t (gap_of c)
unfolding gaps
gaps_set [] t c 0<t = refl
gaps_set (z ∷ l) zero c 0<t = absurd (omega arith)
gaps_set (z ∷ l) (suc t) c 0<t = ap (λ (m : List ℕ). z ∷ m) (gaps_of_set l t c)

pub gaps_set_first : (l : List ℕ) (z : ℕ) → gaps (set l 0 z) ≡ set (gaps l) 0 z
unfolding gaps
gaps_set_first [] z = refl
gaps_set_first (x ∷ l) z = refl

module _ (l : List ℕ) (t : ℕ) (0<t : 0 < t) (inside : t < length l) where
  pub gaps_end : get_or l t 0 < 1024 → get_or (gaps l) t 0 ≡ get_or l t 0 + 1
  gaps_end end = gaps_at l t 0<t inside ∙ gap_of_end (get_or l t 0) end

  pub gaps_link : 1024 ≤ get_or l t 0 → get_or (gaps l) t 0 ≡ 0
  gaps_link link = gaps_at l t 0<t inside ∙ gap_of_link (get_or l t 0) link

  pub end_gaps : 0 < get_or (gaps l) t 0 → get_or l t 0 < 1024
  end_gaps some = end_gap_of (get_or l t 0) (omega (arith, gaps_at l t 0<t inside))

-- ---- Link

-- no right end is added after w
pub link_kept : {n : ℕ} {l l' : List ℕ} {w c : ℕ} → Link n l w c
    → ((i : ℕ) → w < i → i ≤ n → get_or (gaps l) i 0 ≡ 0 → get_or (gaps l') i 0 ≡ 0) → Link n l' w c
link_kept link fewer =
    record { inside = link.inside; gap = λ i w<i i<to. fewer i (omega arith) (omega (arith, link.inside)) (link.gap i w<i i<to) }

pub link_next : (n : ℕ) (l : List ℕ) (w : ℕ) {c : ℕ} → w ≤ n → c ≡ 1024 → Link n l w c
link_next n l w w≤n next = record { inside = omega arith; gap = λ i w<i i≤w. absurd (omega arith) }

-- ---- Held

pub held_spent : {n : ℕ} {C : ℕ → Bool} {f : ℕ → ℕ} {l : List ℕ} → Held n C f l → Spent n C f (get_or l 0 0)
held_spent {l = l} held = rw (gaps_first l) at held.cells.spent

-- ---- seek

seek_past : (left n a : ℕ) (l : List ℕ) → n < a → seek left n a l ≡ a
unfolding seek
seek_past zero n a l n<a = refl
seek_past (suc left) n a l n<a = rw (lt-ltb n a n<a) refl

module _ (n a : ℕ) (l : List ℕ) (a≤n : a ≤ n) where
  pub seek_end : (left : ℕ) → get_or l a 0 < 1024 → seek left n a l ≡ a
  unfolding seek
  seek_end zero end = refl
  seek_end (suc left) end = rw (le-ltb n a a≤n, lt-ltb (get_or l a 0) 1024 end) refl

  pub seek_link : (left : ℕ) → 1024 ≤ get_or l a 0 → seek (suc left) n a l ≡ seek left n (target a (get_or l a 0)) l
  unfolding seek
  seek_link left link = rw (le-ltb n a a≤n, le-ltb (get_or l a 0) 1024 link) refl

-- the search goes past n, or ends at a right end, or takes a link
module _ (n : ℕ) (l : List ℕ) (P : ℕ → ℕ → Type 0) (past : (a : ℕ) → n < a → P a a) (end : (a : ℕ) → a ≤ n → get_or l a 0 < 1024 → P a a)
    (link : (a t : ℕ) → a ≤ n → 1024 ≤ get_or l a 0 → P (target a (get_or l a 0)) t → P a t) where
  seek_cases : (left a : ℕ) → n < a + left → P a (seek left n a l)
  seek_cases zero a enough = subst (P a) (sym (seek_past zero n a l (omega arith))) (past a (omega arith))
  seek_cases (suc left) a enough =
      dite (dec_lt n a) (λ n<a. subst (P a) (sym (seek_past (suc left) n a l n<a)) (past a n<a))
      (λ a≤n.
      dite (dec_lt (get_or l a 0) 1024) (λ ends. subst (P a) (sym (seek_end n a l (omega arith) (suc left) ends)) (end a (omega arith) ends))
      (λ links.
      subst (P a) (sym (seek_link n a l (omega arith) left (omega arith)))
      (link a _ (omega arith) (omega arith) (seek_cases left (target a (get_or l a 0)) (omega arith)))))

record Sought (n : ℕ) (l : List ℕ) (a t : ℕ) : Type 0 where
  after : a ≤ t
  stands : t ≤ n → get_or l t 0 < 1024
  inside : Linked n l → 0 < a → a ≤ n + 1 → t ≤ n + 1
  gap : Linked n l → 0 < a → a ≤ n + 1 → n < length l → Gap (gaps l) a t

sought : (n : ℕ) (l : List ℕ) (left a : ℕ) → n < a + left → Sought n l a (seek left n a l)
sought n l =
    seek_cases n l (Sought n l)
    (λ a n<a.
    record {
      after = le_refl a;
      stands = λ a≤n. absurd (omega arith);
      inside = λ links 0<a a≤n. a≤n;
      gap = λ links 0<a a≤n n<len i a≤i i<a. absurd (omega arith);
    })
    (λ a a≤n ends.
    record { after = le_refl a; stands = λ _. ends; inside = λ links 0<a a≤n. a≤n; gap = λ links 0<a a≤n n<len i a≤i i<a. absurd (omega arith) })
    (λ a t a≤n link rest.
    record {
      after = omega (arith, rest.after);
      stands = rest.stands;
      inside = λ links 0<a _. rest.inside links (omega arith) (links.each a 0<a a≤n link).inside;
      gap = λ links 0<a _ n<len i a≤i i<t.
          let here = links.each a 0<a a≤n link in
          dite (ℕ_discrete i a) (λ e. rw e (gaps_link l a 0<a (omega arith) link))
          (λ ne.
          dite (dec_lt i (target a (get_or l a 0))) (λ i<to. here.gap i (omega arith) i<to)
          (λ to≤i. rest.gap links (omega arith) here.inside n<len i (omega arith) i<t));
    })

-- ---- next_of

module _ {n slot : ℕ} (slot≤n : slot ≤ n) (l : List ℕ) {t : ℕ} (found : t ≡ next_of n slot l) where
  next_sought : Sought n l (slot + 1) t
  next_sought = rw found (sought n l (n - slot) (slot + 1) (omega arith))

  pub next_after : slot < t
  next_after = omega (arith, next_sought.after)

  pub next_stands : t ≤ n → get_or l t 0 < 1024
  next_stands = next_sought.stands

  pub next_first : Linked n l → n < length l → Next n slot (gaps l) t
  next_first links n<len =
      record {
        after = next_after;
        inside = next_sought.inside links (omega arith) (omega arith);
        stands = λ t≤n. omega (arith, gaps_end l t (omega (arith, next_after)) (omega arith) (next_stands t≤n));
        gap = next_sought.gap links (omega arith) (omega arith) n<len;
      }

-- ---- the search under way: from t on it ends where it would from the slot

pub record Seeking (n slot : ℕ) (l : List ℕ) (t : ℕ) : Type 0 where
  pub left : ℕ
  pub enough : n < t + left
  pub same : seek left n t l ≡ next_of n slot l

seeking_start : (n slot : ℕ) (l : List ℕ) → slot ≤ n → Seeking n slot l (slot + 1)
seeking_start n slot l slot≤n = record { left = n - slot; enough = omega arith; same = refl }

module _ {n slot : ℕ} {l : List ℕ} {t : ℕ} (seeking : Seeking n slot l t) where
  pub seeking_past : n < t → t ≡ next_of n slot l
  seeking_past n<t = sym (seek_past seeking.left n t l n<t) ∙ seeking.same

  module _ (t≤n : t ≤ n) where
    pub seeking_end : get_or l t 0 < 1024 → t ≡ next_of n slot l
    seeking_end end = sym (seek_end n t l t≤n seeking.left end) ∙ seeking.same

    seeking_link : 1024 ≤ get_or l t 0 → Seeking n slot l (target t (get_or l t 0))
    seeking_link link = go seeking.left seeking.enough seeking.same
      where
        go : (left : ℕ) → n < t + left → seek left n t l ≡ next_of n slot l → Seeking n slot l (target t (get_or l t 0))
        go zero enough same = absurd (omega arith)
        go (suc left) enough same = record { left = left; enough = omega arith; same = sym (seek_link n t l t≤n left link) ∙ same }

    -- a link is followed; a right end, 1023 at most, leads nowhere
    pub seeking_hop : {c : ℕ} → c ≡ get_or l t 0 → Seeking n slot l (t + (c - 1023))
    seeking_hop {c} read =
        dite (dec_lt c 1024) (λ end. let stays : t ≡ t + (c - 1023) = omega arith in subst (λ (w : ℕ). Seeking n slot l w) stays seeking)
        (λ link.
        let on : target t (get_or l t 0) ≡ t + (c - 1023) = omega arith in
        subst (λ (w : ℕ). Seeking n slot l w) on (seeking_link (omega arith)))

-- the first hop, from the place after the slot
pub seeking_first : {n slot c h : ℕ} (l : List ℕ) → slot < n → c ≡ get_or l (slot + 1) 0 → h ≡ c - 1023 → Seeking n slot l (slot + 1 + h)
seeking_first {n} {slot} l slot<n read far = rw far (seeking_hop (seeking_start n slot l (omega arith)) (omega arith) read)
