-- The laws of `specs/Refusal.antt`, in its order. No contract cites this file. The ones that matter most: `first_none` and `none_first`
-- (no fault below m), `first_more` and `first_at` (a turn of a loop over slots or rows), `refusal_header`, `refusal_masks` and
-- `refusal_rows` (which part of a book refuses it), `refusal_le_8`.
-- Assumes nothing.
use mathlib.Core.Path.{◌≡◌, refl, sym, ap, ◌∙◌}
use mathlib.Core.Logic.{◌⊎◌, ⊎_elim, dite}
use mathlib.Core.Bool.{Bool, true, false, not, ◌&&◌, ◌||◌}
use mathlib.Core.List.{List}
use Prim.Native.Nat.{ℕ, zero, suc, ◌+◌, ◌/◌, ◌^◌, ◌≤◌, ◌<◌, zero-le}
use native.Mathlib.Nat.{le_refl, le_trans, div-eq_of_lt, div-lt_iff_lt-mul, one-mul}
use native.Mathlib.Omega.{arith}
use native.Mathlib.Decide.{ℕ_discrete, dec_lt, dec_le}
use lib.Dec.{eqb, ltb, leb, lit≤}
use lib.Pow.{pow_pos}
use lib.ListN.{length}
use borrow.Author.Tests.{lt-ltb, le-ltb, le-leb, lt-leb, eq-eqb, ne_eqb, eqb-true, eqb-false, not-true, not-false}
use Rattle.answer.specs.Answer as Answer
use Rattle.answer.specs.declared.Refusal.{Refusal}
use Rattle.book.specs.declared.Limits.{Limits}
use Rattle.book.specs.declared.Row.{Row}
use Rattle.book.specs.Layout.{slots, values, idle, row_count, mask_at, rows_part, row_at}
use Rattle.book.specs.Refusal.{fault, ◌or_else◌, first_of, within, out_of_range, misplaced, header_fault, mask_fault, row_fault, refusal}

-- ---- conditions
-- neither holds; both hold
pub none_of_or : (a b : Bool) → (a || b) ≡ false → (a ≡ false) × (b ≡ false)
none_of_or true b none = absurd (let z : ◌≡◌ {A = ℕ} 0 1 = cc in omega arith)
none_of_or false b none = (refl, none)

pub both_of_and : (a b : Bool) → (a && b) ≡ true → (a ≡ true) × (b ≡ true)
both_of_and true b both = (refl, both)
both_of_and false b both = absurd (let z : ◌≡◌ {A = ℕ} 0 1 = cc in omega arith)

-- the same test the other way round
pub not_leb : (a b : ℕ) → not (leb a b) ≡ ltb b a
not_leb a b =
    dite (dec_le a b) (λ a≤b. simp (le-leb a b a≤b, le-ltb b a a≤b)) (λ a≰b. simp (lt-leb a b (omega arith), lt-ltb b a (omega arith)))

-- what a flag that says whether x is 0 tells, where the code tests its negation
pub zero_of_test : (x : ℕ) {flag : Bool} → flag ≡ eqb x 0 → not flag ≡ false → x ≡ 0
zero_of_test x says left = eqb-true x 0 (sym says ∙ not-false _ left)

pub nonzero_of_test : (x : ℕ) {flag : Bool} → flag ≡ eqb x 0 → not flag ≡ true → x ≡ 0 → ⊥
nonzero_of_test x says taken = eqb-false x 0 (sym says ∙ not-true _ taken)

-- ---- fault
-- no number: the condition does not hold; a number: it is the fault's own
pub fault_none : (x : ℕ) (bad : Bool) → 0 < x → fault x bad ≡ 0 → bad ≡ false
fault_none x true 0<x none = absurd (omega arith)
fault_none x false 0<x none = refl

fault_some : (x : ℕ) (bad : Bool) → (fault x bad ≡ 0 → ⊥) → fault x bad ≡ x
fault_some x true some = refl
fault_some x false some = absurd (some refl)

fault_le : (x : ℕ) (bad : Bool) → fault x bad ≤ x
fault_le x true = le_refl x
fault_le x false = zero-le

-- ---- _orElse_
pub or_else_none : (x y : ℕ) → x ≡ 0 → x or_else y ≡ y
or_else_none zero y none = refl
or_else_none (suc x) y none = absurd (omega arith)

pub or_else_some : (x y : ℕ) → (x ≡ 0 → ⊥) → x or_else y ≡ x
or_else_some zero y some = absurd (some refl)
or_else_some (suc x) y some = refl

-- 0: both are
pub none_of_or_else : (x y : ℕ) → x or_else y ≡ 0 → (x ≡ 0) × (y ≡ 0)
none_of_or_else zero y none = (refl, none)
none_of_or_else (suc x) y none = absurd (omega arith)

or_else_le : (x y most : ℕ) → x ≤ most → y ≤ most → (x or_else y) ≤ most
or_else_le zero y most x≤ y≤ = y≤
or_else_le (suc x) y most x≤ y≤ = x≤

-- ---- first_of
-- none below m: none at any place below m; both directions
pub first_none : (m : ℕ) (f : ℕ → ℕ) → first_of m f ≡ 0 → (i : ℕ) → i < m → f i ≡ 0
unfolding first_of
first_none zero f none i i<m = absurd (omega arith)
first_none (suc m) f none i i<m =
    let both = none_of_or_else (first_of m f) (f m) none in
    dite (ℕ_discrete i m) (λ i≡m. ap f i≡m ∙ both.1) (λ i≢m. first_none m f both.0 i (omega arith))

pub none_first : (m : ℕ) (f : ℕ → ℕ) → ((i : ℕ) → i < m → f i ≡ 0) → first_of m f ≡ 0
unfolding first_of
none_first zero f none = refl
none_first (suc m) f none = or_else_none (first_of m f) (f m) (none_first m f (λ i i<m. none i (omega arith))) ∙ none m (omega arith)

-- a turn of a loop, none found so far: none at i, or x at i
pub first_more : (f : ℕ → ℕ) (i : ℕ) → first_of i f ≡ 0 → f i ≡ 0 → first_of (i + 1) f ≡ 0
first_more f i none here =
    none_first (i + 1) f (λ j j<i+1. dite (ℕ_discrete j i) (λ j≡i. ap f j≡i ∙ here) (λ j≢i. first_none i f none j (omega arith)))

first_own : (m : ℕ) (f : ℕ → ℕ) (i : ℕ) → first_of i f ≡ 0 → i < m → (f i ≡ 0 → ⊥) → first_of m f ≡ f i
unfolding first_of
first_own zero f i none i<m some = absurd (omega arith)
first_own (suc m) f i none i<m some =
    dite (ℕ_discrete i m)
    (λ i≡m. or_else_none (first_of m f) (f m) (ap (λ (j : ℕ). first_of j f) (sym i≡m) ∙ none) ∙ ap f (sym i≡m))
    (λ i≢m.
    let before = first_own m f i none (omega arith) some in
    or_else_some (first_of m f) (f m) (λ e. some (sym before ∙ e)) ∙ before)

pub first_at : (m : ℕ) (f : ℕ → ℕ) (i x : ℕ) → first_of i f ≡ 0 → i < m → x ≡ f i → (x ≡ 0 → ⊥) → x ≡ first_of m f
first_at m f i x none i<m here some = here ∙ sym (first_own m f i none i<m (λ e. some (here ∙ e)))

first_le : (m : ℕ) (f : ℕ → ℕ) (most : ℕ) → ((i : ℕ) → f i ≤ most) → first_of m f ≤ most
unfolding first_of
first_le zero f most each = zero-le
first_le (suc m) f most each = or_else_le (first_of m f) (f m) most (first_le m f most each) (each m)

-- ---- within
pub within_out : (most x : ℕ) → (x ≡ 0) ⊎ (most < x) → within most x ≡ false
within_out most x = ⊎_elim (λ x≡0. simp (lt-leb 1 x (omega arith))) (λ most<x. simp (le-leb 1 x (omega arith), lt-leb x most most<x))

pub within_in : (most x : ℕ) → 1 ≤ x → x ≤ most → within most x ≡ true
within_in most x 1≤x x≤most = simp (le-leb 1 x 1≤x, le-leb x most x≤most)

-- ---- header_fault
-- byte 3 is looked at before the layout
pub header_fault_idle : (limits : Limits) (b : List ℕ) → ltb (length b) 12 ≡ false → out_of_range limits b ≡ false → values b < idle b → header_fault limits b ≡ 3
unfolding header_fault
header_fault_idle limits b long in_range above = simp (long, in_range, lt-ltb (values b) (idle b) above)

header_fault_le : (limits : Limits) (b : List ℕ) → header_fault limits b ≤ 4
unfolding header_fault
header_fault_le limits b =
    or_else_le _ _ 4 (le_trans (fault_le 1 (ltb (length b) 12)) (lit≤ tt))
    (or_else_le _ _ 4 (le_trans (fault_le 2 (out_of_range limits b)) (lit≤ tt))
    (or_else_le _ _ 4 (le_trans (fault_le 3 (ltb (values b) (idle b))) (lit≤ tt)) (fault_le 4 (misplaced b))))

-- ---- mask_fault
-- of a mask that is not 0: its digits from k up are 0
pub mask_fault_shift : (k m : ℕ) → (m ≡ 0 → ⊥) → eqb (m / 2 ^ k) 0 ≡ eqb (mask_fault k m) 0
unfolding mask_fault
mask_fault_shift k m m≢0 =
    dite (dec_lt m (2 ^ k)) (λ below. simp (eq-eqb (m / 2 ^ k) 0 (div-eq_of_lt below), ne_eqb m 0 m≢0, lt-leb (2 ^ k) m below))
    (λ above.
    simp (
      ne_eqb (m / 2 ^ k) 0 (λ high. above (rw one-mul at ((div-lt_iff_lt-mul {k = 2 ^ k} {x = m} {y = 1} (pow_pos k)).0 (omega arith)))),
      ne_eqb m 0 m≢0,
      le-leb (2 ^ k) m (omega arith),
    ))

-- where there is a fault it is 5
pub mask_fault_some : (k m : ℕ) → (mask_fault k m ≡ 0 → ⊥) → mask_fault k m ≡ 5
unfolding mask_fault
mask_fault_some k m some = fault_some 5 (eqb m 0 || leb (2 ^ k) m) some

mask_fault_le : (k m : ℕ) → mask_fault k m ≤ 5
unfolding mask_fault
mask_fault_le k m = fault_le 5 (eqb m 0 || leb (2 ^ k) m)

-- ---- row_fault
row_fault_le : (n k : ℕ) (row : Row) → row_fault n k row ≤ 8
unfolding row_fault
row_fault_le n k row =
    or_else_le _ _ 8 (le_trans (fault_le 6 (leb k row.value || not (eqb row.reserved 0))) (lit≤ tt))
    (or_else_le _ _ 8 (le_trans (fault_le 7 (not (within n row.end))) (lit≤ tt))
    (fault_le 8 (ltb 256 row.lower || (ltb 256 row.upper && not (eqb row.upper 65535)))))

-- ---- refusal
-- the fault of each mask and of each row, and the first of each
abbrev pub mask_fault_at : List ℕ → ℕ → ℕ
mask_fault_at b s = mask_fault (values b) (mask_at b s)

abbrev pub mask_faults : List ℕ → ℕ
mask_faults b = first_of (slots b) (mask_fault_at b)

abbrev pub row_fault_at : List ℕ → ℕ → ℕ
row_fault_at b i = row_fault (slots b) (values b) (row_at (rows_part b) i)

abbrev pub row_faults : List ℕ → ℕ
row_faults b = first_of (row_count b) (row_fault_at b)

-- what refuses a book: its header; else its first bad mask; else its first bad row
pub refusal_header : (limits : Limits) (b : List ℕ) (x : ℕ) → x ≡ header_fault limits b → (x ≡ 0 → ⊥) → x ≡ refusal limits b
unfolding refusal
refusal_header limits b x header some = header ∙ sym (or_else_some (header_fault limits b) _ (λ e. some (header ∙ e)))

pub refusal_masks : (limits : Limits) (b : List ℕ) (x : ℕ) → header_fault limits b ≡ 0 → x ≡ mask_faults b → (x ≡ 0 → ⊥) → x ≡ refusal limits b
unfolding refusal
refusal_masks limits b x header masks some =
    masks ∙ sym (or_else_none (header_fault limits b) _ header ∙ or_else_some (mask_faults b) (row_faults b) (λ e. some (masks ∙ e)))

pub refusal_rows : (limits : Limits) (b : List ℕ) → header_fault limits b ≡ 0 → mask_faults b ≡ 0 → row_faults b ≡ refusal limits b
unfolding refusal
refusal_rows limits b header masks = sym (or_else_none (header_fault limits b) _ header ∙ or_else_none (mask_faults b) (row_faults b) masks)

-- document 01's numbers for a book end at 8
pub refusal_le_8 : (limits : Limits) (b : List ℕ) → refusal limits b ≤ 8
unfolding refusal
refusal_le_8 limits b =
    or_else_le (header_fault limits b) _ 8 (le_trans (header_fault_le limits b) (lit≤ tt))
    (or_else_le (mask_faults b) (row_faults b) 8
    (first_le (slots b) (mask_fault_at b) 8 (λ s. le_trans (mask_fault_le (values b) (mask_at b s)) (lit≤ tt)))
    (first_le (row_count b) (row_fault_at b) 8 (λ i. row_fault_le (slots b) (values b) (row_at (rows_part b) i))))

-- ---- what a test says
pub some_number : (e : Refusal) → Answer.number_of e ≡ 0 → ⊥
some_number e = grind arith

-- a refusal of the header, of a mask, or of a row is that of the book
pub header_refuses : (limits : Limits) (b : List ℕ) (e : Refusal) → Answer.number_of e ≡ header_fault limits b
    → Answer.number_of e ≡ refusal limits b
header_refuses limits b e says = refusal_header limits b (Answer.number_of e) says (some_number e)

pub masks_refuse : (limits : Limits) (b : List ℕ) (e : Refusal) → header_fault limits b ≡ 0 → Answer.number_of e ≡ mask_faults b
    → Answer.number_of e ≡ refusal limits b
masks_refuse limits b e none says = refusal_masks limits b (Answer.number_of e) none says (some_number e)
