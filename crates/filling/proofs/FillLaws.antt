-- What a loop that fills a list place by place has done, and the prefix lengths along the places of a table. No contract cites this file.
--   Filled f l p s    s is l with the first p places filled by f
-- The laws that matter most: `filled_more`, one store more; `line_start`, `line_more` and `line_done`, the same on one line (`LineFilled` of
-- specs/Fill.antt); `line_next`, the next line begins where that one ends.
-- Assumes nothing.
use mathlib.Core.Path.{◌≡◌, refl, sym, ap, ◌∙◌}
use mathlib.Core.List.{List, [], ◌∷◌, ◌++◌, append-nil}
use Prim.Native.Nat.{ℕ, zero, suc, ◌+◌, ◌-◌, ◌*◌, ◌/◌, ◌%◌, ◌≤◌, ◌<◌, min}
use native.Mathlib.Nat.{add-zero, div-add-mod', mod-eq_of_lt, mod_self, mul-add-mod_self_right, zero-mod}
use native.Mathlib.Numerals.{add-one}
use native.Mathlib.Omega.{arith}
use lib.ListN.{length, get_or, set, drop, replicate, length-set, replicate-append-replicate}
use lib.Seq.{set_at, drop-cons, drop-length, append_snoc}
use Rattle.book.specs.Layout.{list_of}
use Rattle.book.proofs.LayoutLaws.{length_list_of}
use Rattle.filling.specs.Fill.{prefixes, LineFilled}

-- the same element at every place
pub list_of_const : (m x : ℕ) → list_of m (λ p. x) ≡ replicate m x
unfolding list_of
list_of_const zero x = refl
list_of_const (suc m) x = ap (λ (l : List ℕ). l ++ (x ∷ [])) (list_of_const m x) ∙ replicate-append-replicate m 1 x ∙ ap (λ (j : ℕ). replicate j x) (add-one m)

-- ---- Filled

pub record Filled (f : ℕ → ℕ) (l : List ℕ) (p : ℕ) (s : List ℕ) : Type 0 where
  pub within : p ≤ length l
  pub long : length s ≡ length l
  pub front : s ≡ list_of p f ++ drop p l

pub filled_none : (f : ℕ → ℕ) (l : List ℕ) → Filled f l 0 l
unfolding list_of
filled_none f l = record { within = omega arith; long = refl; front = refl }

pub filled_more : (f : ℕ → ℕ) {l : List ℕ} {p : ℕ} {s : List ℕ} (x : ℕ) → x ≡ f p → p < length l → Filled f l p s → Filled f l (p + 1) (set s p x)
unfolding list_of
filled_more f {l} {p} {s} x x≡ p<m filled =
    record {
      within = omega arith;
      long = length-set s p x ∙ filled.long;
      front =
          rw (add-one, x≡, filled.front, drop-cons l p 0)
          (set_at (list_of p f) (get_or l p 0) (drop (suc p) l) (f p) p (length_list_of p f) ∙ sym (append_snoc (list_of p f) (f p) (drop (suc p) l)));
    }

pub filled_all : (f : ℕ → ℕ) {l : List ℕ} {p : ℕ} {s : List ℕ} → p ≡ length l → Filled f l p s → s ≡ list_of (length l) f
filled_all f {l} {p} {s} all filled =
    filled.front ∙ ap (λ (j : ℕ). list_of j f ++ drop j l) all
    ∙ ap (λ (r : List ℕ). list_of (length l) f ++ r) (drop-length l) ∙ append-nil (list_of (length l) f)

-- ---- the prefix lengths along a line that begins at base

-- the first t places of the line are filled besides those before it
abbrev pub LineUpTo : ℕ → ℕ → List ℕ → ℕ → List ℕ → Type 0
LineUpTo n base s₀ t s = (l : List ℕ) → Filled (prefixes n) l base s₀ → Filled (prefixes n) l (base + t) s

pub line_start : (n base : ℕ) (s : List ℕ) → LineUpTo n base s 0 s
line_start n base s l filled = rw (add-zero base) filled

prefix_at : (n base t : ℕ) → base % (n + 1) ≡ 0 → t ≤ n → t ≡ (base + t) % (n + 1)
prefix_at n base t begins t≤n =
    let e : base + t ≡ base / (n + 1) * (n + 1) + t = omega (arith, div-add-mod' base (n + 1)) in
    sym (rw e (mul-add-mod_self_right (base / (n + 1)) (n + 1) t ∙ mod-eq_of_lt (omega arith)))

pub line_more : (n base t : ℕ) (s₀ s : List ℕ) → base % (n + 1) ≡ 0 → t ≤ n → base + t < length s₀ → LineUpTo n base s₀ t s
    → LineUpTo n base s₀ (t + 1) (set s (base + t) t)
line_more n base t s₀ s begins t≤n inside upto l filled =
    let e : base + (t + 1) ≡ base + t + 1 = omega arith in
    rw e (filled_more (prefixes n) t (prefix_at n base t begins t≤n) (omega (arith, filled.long)) (upto l filled))

pub line_done : (n base m : ℕ) (s s' : List ℕ) → base < length s → m ≡ min (length s - base) (n + 1) → length s' ≡ length s → LineUpTo n base s m s'
    → LineFilled n base s s' (base + m)
line_done n base m s s' inside m_is long upto =
    record {
      size = long;
      end = omega arith;
      filled = λ l same front. (upto l (record { within = omega arith; long = same; front = front })).front;
    }

-- p is the end of what is filled, and where it is not the end of the list a line begins there
pub record LinesInv (n : ℕ) (l : List ℕ) (p : ℕ) (s : List ℕ) : Type 0 where
  pub filled : Filled (prefixes n) l p s
  pub begins : p < length l → p % (n + 1) ≡ 0

pub lines_start : (n : ℕ) (l : List ℕ) → LinesInv n l 0 l
lines_start n l = record { filled = filled_none (prefixes n) l; begins = λ _. zero-mod (n + 1) }

next_begins : (n base : ℕ) → base % (n + 1) ≡ 0 → (base + (n + 1)) % (n + 1) ≡ 0
next_begins n base begins =
    let e : base + (n + 1) ≡ base / (n + 1) * (n + 1) + (n + 1) = omega (arith, div-add-mod' base (n + 1)) in
    rw e (mul-add-mod_self_right (base / (n + 1)) (n + 1) (n + 1) ∙ mod_self (n + 1))

pub line_next : (n : ℕ) (l : List ℕ) (p : ℕ) (s s' : List ℕ) (r : ℕ) → p < length l → LinesInv n l p s → LineFilled n p s s' r → LinesInv n l r s'
line_next n l p s s' r p<m inv line =
    record {
      filled =
          record {
            within = omega (arith, line.end, inv.filled.long);
            long = line.size ∙ inv.filled.long;
            front = line.filled l inv.filled.long inv.filled.front;
          };
      begins = λ r<m.
          let e : r ≡ p + (n + 1) = omega (arith, line.end, inv.filled.long) in
          rw e (next_begins n p (inv.begins p<m));
    }
