-- The laws of `specs/Elements.antt`, over the width, and of a loop that writes elements. No contract cites this file.
--   Written w xs out i s    s is out with the first i elements of xs written into its front, w bytes each
-- The law that matters most: `written_more`, one element more.
-- Assumes nothing.
use mathlib.Core.Path.{◌≡◌, refl, sym, ap, ◌∙◌}
use mathlib.Core.List.{List, [], ◌∷◌, ◌++◌, append_assoc, append-nil}
use Prim.Native.Nat.{ℕ, zero, suc, ◌+◌, ◌*◌, ◌≤◌, ◌<◌}
use native.Mathlib.Nat.{add-zero, mul-suc, mul-zero, mul-le-mul_left, le_trans}
use native.Mathlib.Numerals.{add-one}
use native.Mathlib.Omega.{arith}
use lib.ListN.{length, get_or, set, take, drop, length-append, length-set, length-drop, get_or-append}
use lib.Seq.{get_or-append-add, sets, sets-eq, length-sets, take-suc, take_at, drop-append-add, drop-drop, length-take-le}
use Rattle.elements.specs.Elements.{digits, bytes_of}

-- ---- sets
-- stores behind stores are one run of stores
pub sets_append : (out : List ℕ) (i : ℕ) (xs ys : List ℕ) (j : ℕ) → j ≡ i + length xs → sets (sets out i xs) j ys ≡ sets out i (xs ++ ys)
sets_append out i [] ys j is = ap (λ (e : ℕ). sets out e ys) (is ∙ add-zero i)
sets_append out i (x ∷ xs) ys j is = sets_append (set out i x) (suc i) xs ys j (omega arith)

pub length_two : (out : List ℕ) (i j x y : ℕ) → length (set (set out i x) j y) ≡ length out
length_two out i j x y = length-set (set out i x) j y ∙ length-set out i x

-- ---- digits

pub length_digits : (w x : ℕ) → length (digits w x) ≡ w
length_digits zero x = refl
length_digits (suc w) x = ap suc (length_digits w _)

-- ---- bytes_of

pub bytes_of_empty : (w : ℕ) → bytes_of w [] ≡ []
unfolding bytes_of
bytes_of_empty w = refl

pub length_bytes_of : (w : ℕ) (xs : List ℕ) → length (bytes_of w xs) ≡ w * length xs
unfolding bytes_of
length_bytes_of w [] = sym (mul-zero w)
length_bytes_of w (x ∷ xs) = length-append (digits w x) (bytes_of w xs) ∙ omega (arith, length_digits w x, length_bytes_of w xs, mul-suc w (length xs))

pub bytes_of_append : (w : ℕ) (xs ys : List ℕ) → bytes_of w (xs ++ ys) ≡ bytes_of w xs ++ bytes_of w ys
unfolding bytes_of
bytes_of_append w [] ys = refl
bytes_of_append w (x ∷ xs) ys = rw (bytes_of_append w xs ys, append_assoc)

pub bytes_of_one : (w x : ℕ) → bytes_of w (x ∷ []) ≡ digits w x
unfolding bytes_of
bytes_of_one w x = append-nil (digits w x)

-- the first i + 1 elements: the first i, then element i
pub bytes_of_more : (w : ℕ) (xs : List ℕ) (i : ℕ) → i < length xs → bytes_of w (take (i + 1) xs) ≡ bytes_of w (take i xs) ++ digits w (get_or xs i 0)
bytes_of_more w xs i i<m =
    ap (bytes_of w) (ap (λ (j : ℕ). take j xs) (add-one i) ∙ take-suc xs i 0 i<m)
    ∙ bytes_of_append w (take i xs) (get_or xs i 0 ∷ [])
    ∙ ap (λ (r : List ℕ). bytes_of w (take i xs) ++ r) (bytes_of_one w (get_or xs i 0))

-- byte j of element i, whatever comes behind the elements
pub bytes_of_byte : (w : ℕ) (xs rest : List ℕ) (i j : ℕ) → i < length xs → j < w
    → get_or (bytes_of w xs ++ rest) (w * i + j) 0 ≡ get_or (digits w (get_or xs i 0)) j 0
unfolding bytes_of
bytes_of_byte w [] rest i j i<m j<w = absurd (omega arith)
bytes_of_byte w (x ∷ xs) rest zero j i<m j<w =
    ap (λ (p : ℕ). get_or ((digits w x ++ bytes_of w xs) ++ rest) p 0) (omega (arith, mul-zero w))
    ∙ ap (λ (l : List ℕ). get_or l j 0) (append_assoc (digits w x) (bytes_of w xs) rest)
    ∙ get_or-append (digits w x) (bytes_of w xs ++ rest) 0 j (omega (arith, length_digits w x))
bytes_of_byte w (x ∷ xs) rest (suc i) j i<m j<w =
    let at : w * suc i + j ≡ length (digits w x) + (w * i + j) = omega (arith, length_digits w x, mul-suc w i) in
    ap (λ (p : ℕ). get_or ((digits w x ++ bytes_of w xs) ++ rest) p 0) at
    ∙ ap (λ (l : List ℕ). get_or l (length (digits w x) + (w * i + j)) 0) (append_assoc (digits w x) (bytes_of w xs) rest)
    ∙ get_or-append-add (digits w x) (bytes_of w xs ++ rest) (w * i + j) 0
    ∙ bytes_of_byte w xs rest i j (omega arith) j<w

-- ---- Written

pub record Written (w : ℕ) (xs out : List ℕ) (i : ℕ) (s : List ℕ) : Type 0 where
  pub within : i ≤ length xs
  pub long : length s ≡ length out
  pub front : s ≡ bytes_of w (take i xs) ++ drop (w * i) out

pub written_none : (w : ℕ) (xs out : List ℕ) → Written w xs out 0 out
written_none w xs out =
    record { within = omega arith; long = refl; front = rw (bytes_of_empty w, mul-zero w) }

-- w bytes stored behind a front, at the place where it ends
sets_behind : (w at : ℕ) (front new out : List ℕ) → length front ≡ at → length new ≡ w → at + w ≤ length out
    → sets (front ++ drop at out) at new ≡ front ++ new ++ drop (at + w) out
sets_behind w at front new out long wide fits =
    let inside : at + length new ≤ length (front ++ drop at out) = omega (arith, length-append front (drop at out), length-drop at out) in
    let rest : drop (at + length new) (front ++ drop at out) ≡ drop (at + w) out =
    rw (wide, sym long) (drop-append-add front (drop (length front) out) w ∙ drop-drop w (length front) out)
    in
    sets-eq new (front ++ drop at out) at inside ∙ rw (take_at front (drop at out) at long, rest)

pub written_more : (w : ℕ) {xs out : List ℕ} (i : ℕ) {s s' : List ℕ} → i < length xs → w * length xs ≤ length out → Written w xs out i s
    → s' ≡ sets s (w * i) (digits w (get_or xs i 0)) → Written w xs out (i + 1) s'
written_more w {xs} {out} i {s} {s'} i<m fits written stored =
    let long : length (bytes_of w (take i xs)) ≡ w * i = length_bytes_of w (take i xs) ∙ ap (λ (j : ℕ). w * j) (length-take-le i xs (omega arith)) in
    let room : w * (i + 1) ≤ length out = le_trans (mul-le-mul_left w (omega arith)) fits in
    let next : w * i + w ≡ w * (i + 1) = omega arith in
    record {
      within = omega arith;
      long = ap length stored ∙ length-sets s (w * i) (digits w (get_or xs i 0)) ∙ written.long;
      front =
          stored ∙ ap (λ (l : List ℕ). sets l (w * i) (digits w (get_or xs i 0))) written.front
          ∙ sets_behind w (w * i) (bytes_of w (take i xs)) (digits w (get_or xs i 0)) out long (length_digits w (get_or xs i 0)) (omega arith)
          ∙ rw (next, bytes_of_more w xs i i<m);
    }
