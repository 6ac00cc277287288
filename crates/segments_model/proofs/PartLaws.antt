-- The laws of specs/Part.antt: a part that was lent and came back (`lent`), as it was (`lent_same`), a part that lies apart from it (`lent_apart`), and a part to which a
-- function was applied (`over_lent`), or is to be applied to have the list as it was (`over_back`).
-- No contract cites this file. Assumes nothing.
use mathlib.Core.Path.{◌≡◌, refl, sym, ap, ◌∙◌}
use mathlib.Core.Logic.{◌⊎◌, ⊎_elim, dite}
use mathlib.Core.List.{List, ◌++◌}
use Prim.Native.Nat.{ℕ, ◌+◌, ◌-◌, ◌≤◌, ◌<◌}
use native.Mathlib.Decide.{dec_lt}
use native.Mathlib.Omega.{arith}
use lib.ListN.{length, get_or, take, drop, length-drop}
use lib.Seq.{take_at, drop_at, length-take-le, get_or-take, get_or-drop, drop-drop, ext_get_or}
use borrow.Rule.Slice.PartMut.{mid_of, post_of, put_mid, same_len_mid, mid_len, put_same, take_put, drop_put}
use Rattle.segments_model.specs.Part.{part, over, Lent}

pub lent_map : {base j : ℕ} {P Q : List ℕ → List ℕ → Type 0} {l l' : List ℕ} → ((a b : List ℕ) → P a b → Q a b) → Lent base j P l l' → Lent base j Q l l'
lent_map P_Q lent = record { does = P_Q _ _ lent.does; size = lent.size; before = lent.before; after = lent.after }

-- ---- a part that came back

module _ (a k : ℕ) (l ys : List ℕ) (inside : a + k ≤ length l) (size : length ys ≡ k) where
  part_put : part a k (put_mid a k l ys) ≡ ys
  part_put =
      ap (take k) (drop_at (take a l) (ys ++ post_of a k l) a (length-take-le a l (omega arith))) ∙ take_at ys (post_of a k l) k size

  put_before : (i : ℕ) → i < a → get_or (put_mid a k l ys) i 0 ≡ get_or l i 0
  put_before i i<a =
      sym (get_or-take a (put_mid a k l ys) i 0 i<a) ∙ ap (λ (m : List ℕ). get_or m i 0) (take_put a k l ys (omega arith)) ∙ get_or-take a l i 0 i<a

put_after : (a e : ℕ) (l ys : List ℕ) → a ≤ e → e ≤ length l → length ys ≡ e - a → (i : ℕ) → e ≤ i → get_or (put_mid a (e - a) l ys) i 0 ≡ get_or l i 0
put_after a e l ys a≤e e≤len size i e≤i =
    let at : e + (i - e) ≡ i = omega arith in
    ap (λ (j : ℕ). get_or (put_mid a (e - a) l ys) j 0) (sym at) ∙ sym (get_or-drop e (put_mid a (e - a) l ys) (i - e) 0)
    ∙ ap (λ (m : List ℕ). get_or m (i - e) 0) (drop_put a e l ys a≤e e≤len size) ∙ get_or-drop e l (i - e) 0 ∙ ap (λ (j : ℕ). get_or l j 0) at

-- what was done to the n + 2 cells from base on is done to their place
pub lent : (base n : ℕ) (P : List ℕ → List ℕ → Type 0) (l ys : List ℕ) → base + n + 1 < length l → length ys ≡ length (mid_of base (base + n + 2 - base) l)
    → P (mid_of base (base + n + 2 - base) l) ys → Lent base (n + 2) P l (put_mid base (base + n + 2 - base) l ys)
lent base n P l ys inside kept does =
    let k : base + n + 2 - base ≡ n + 2 = omega arith in
    let size : length ys ≡ base + n + 2 - base = kept ∙ mid_len base (base + n + 2) l (omega arith) in
    record {
      does =
          let done : P (part base (n + 2) l) ys = rw k at does in
          let put : part base (n + 2) (put_mid base (base + n + 2 - base) l ys) ≡ ys = rw k (part_put base (n + 2) l ys (omega arith) (size ∙ k)) in
          rw put done;
      size = same_len_mid base (base + n + 2 - base) l ys kept;
      before = put_before base (base + n + 2 - base) l ys (omega arith) size;
      after = λ i past. put_after base (base + n + 2) l ys (omega arith) (omega arith) size i (omega arith);
    }

-- what is known of the n + 2 cells from base on is known of what is lent
pub part_mid : (base n : ℕ) (P : List ℕ → Type 0) (l : List ℕ) → P (part base (n + 2) l) → P (mid_of base (base + n + 2 - base) l)
part_mid base n P l known = let k : base + n + 2 - base ≡ n + 2 = omega arith in rw k known

-- ---- a part that lies apart

part_at : (a k : ℕ) (l : List ℕ) (i : ℕ) → i < k → get_or (part a k l) i 0 ≡ get_or l (a + i) 0
part_at a k l i i<k = get_or-take k (drop a l) i 0 i<k ∙ get_or-drop a l i 0

part_length : (a k : ℕ) (l : List ℕ) → a + k ≤ length l → length (part a k l) ≡ k
part_length a k l inside = length-take-le k (drop a l) (omega (arith, length-drop a l))

pub lent_apart : {base k : ℕ} {P : List ℕ → List ℕ → Type 0} {l l' : List ℕ} → Lent base k P l l' → (a j : ℕ) → a + j ≤ length l
    → (a + j ≤ base) ⊎ (base + k ≤ a) → part a j l' ≡ part a j l
lent_apart {l = l} {l' = l'} came a j inside apart =
    ext_get_or 0 (part a j l') (part a j l) (part_length a j l' (omega (arith, came.size)) ∙ sym (part_length a j l inside))
    (λ i i<len.
    let i<j : i < j = omega (arith, part_length a j l' (omega (arith, came.size))) in
    part_at a j l' i i<j
    ∙ ⊎_elim (λ left. came.before (a + i) (omega arith)) (λ right. came.after (a + i) (omega arith)) apart
    ∙ sym (part_at a j l i i<j))

-- a part that came back as it was leaves the list as it was
pub lent_same : {base k : ℕ} {l l' : List ℕ} → Lent base k (λ a b. b ≡ a) l l' → l' ≡ l
lent_same {base} {k} {l} {l'} came =
    ext_get_or 0 l' l came.size
    (λ i i<len.
    dite (dec_lt i base) (λ before. came.before i before)
    (λ from.
    dite (dec_lt i (base + k))
    (λ inside.
    let at : base + (i - base) ≡ i = omega arith in
    ap (λ (p : ℕ). get_or l' p 0) (sym at) ∙ sym (part_at base k l' (i - base) (omega arith))
    ∙ ap (λ (m : List ℕ). get_or m (i - base) 0) came.does ∙ part_at base k l (i - base) (omega arith) ∙ ap (λ (p : ℕ). get_or l p 0) at)
    (λ past. came.after i (omega arith))))

-- ---- a function over a part

module _ {base k : ℕ} {P : List ℕ → List ℕ → Type 0} {l l' : List ℕ} (came : Lent base k P l l') (inside : base + k ≤ length l) where
  lent_front : take base l' ≡ take base l
  lent_front =
      ext_get_or 0 (take base l') (take base l)
      (length-take-le base l' (omega (arith, came.size)) ∙ sym (length-take-le base l (omega arith)))
      (λ i i<len.
      let i<base : i < base = omega (arith, length-take-le base l' (omega (arith, came.size))) in
      get_or-take base l' i 0 i<base ∙ came.before i i<base ∙ sym (get_or-take base l i 0 i<base))

  lent_rest : drop k (drop base l') ≡ drop k (drop base l)
  lent_rest =
      drop-drop k base l'
      ∙ ext_get_or 0 (drop (base + k) l') (drop (base + k) l) (omega (arith, length-drop (base + k) l', length-drop (base + k) l, came.size))
      (λ i i<len. get_or-drop (base + k) l' i 0 ∙ came.after (base + k + i) (omega arith) ∙ sym (get_or-drop (base + k) l i 0))
      ∙ sym (drop-drop k base l)

  -- the rest of the list being as it was, its part tells the list
  lent_put : (ys : List ℕ) → take base l' ++ (ys ++ drop k (drop base l')) ≡ put_mid base k l ys
  lent_put ys = rw (lent_front, lent_rest) refl

pub over_lent : (base k : ℕ) (f : List ℕ → List ℕ) {l l' : List ℕ} → base + k ≤ length l → Lent base k (λ a b. b ≡ f a) l l' → l' ≡ over base k f l
over_lent base k f {l} {l'} inside came =
    sym (put_same base k l') ∙ lent_put came inside (part base k l') ∙ ap (λ (ys : List ℕ). put_mid base k l ys) came.does

pub over_back : (base k : ℕ) (f : List ℕ → List ℕ) {l l' : List ℕ} → base + k ≤ length l → Lent base k (λ a b. f b ≡ a) l l' → over base k f l' ≡ l
over_back base k f {l} {l'} inside came =
    lent_put came inside (f (part base k l')) ∙ ap (λ (ys : List ℕ). put_mid base k l ys) came.does ∙ put_same base k l
