-- Books that differ in the idle byte alone (`specs/Idle.antt`) have the same slots, values, masks and rows (`slots_same` .. `rows_same`), and are refused by
-- the same number where byte 3 of each is at most k (`refusal_same`). No contract cites this file. Assumes nothing.
use mathlib.Core.Path.{◌≡◌, refl, sym, ap, ◌∙◌}
use mathlib.Core.List.{List}
use Prim.Native.Nat.{ℕ, zero, suc, ◌+◌, ◌*◌}
use native.Mathlib.Omega.{arith}
use lib.ListN.{drop, length-drop}
use lib.Seq.{ext_get_or, get_or-drop}
use borrow.Author.Tests.{le-ltb}
use Rattle.book.specs.declared.Limits.{Limits}
use Rattle.book.specs.Idle.{OnlyByte3, OtherIdle}
use Rattle.book.specs.Layout.{slots, values, idle, row_count, masks_offset, rows_offset, book_length, mask_at, rows_part, row_at, list_of, masks, rows}
use Rattle.book.specs.Refusal.{first_of, header_fault, mask_fault, row_fault, refusal}

list_of_same : {A : Type 0} (m : ℕ) (f g : ℕ → A) → ((i : ℕ) → f i ≡ g i) → list_of m f ≡ list_of m g
unfolding list_of
list_of_same zero f g same = refl
list_of_same (suc m) f g same = rw (list_of_same m f g same, same m) refl

first_of_same : (m : ℕ) (f g : ℕ → ℕ) → ((i : ℕ) → f i ≡ g i) → first_of m f ≡ first_of m g
unfolding first_of
first_of_same zero f g same = refl
first_of_same (suc m) f g same = rw (first_of_same m f g same, same m) refl

module _ {b c : List ℕ} (only : OnlyByte3 b c) where
  -- ---- the header
  pub slots_same : slots c ≡ slots b
  slots_same = omega (arith, only.bytes 0 (λ e. absurd (omega arith)), only.bytes 1 (λ e. absurd (omega arith)))

  pub values_same : values c ≡ values b
  values_same = only.bytes 2 (λ e. absurd (omega arith))

  pub row_count_same : row_count c ≡ row_count b
  row_count_same = omega (arith, only.bytes 4 (λ e. absurd (omega arith)), only.bytes 5 (λ e. absurd (omega arith)))

  masks_offset_same : masks_offset c ≡ masks_offset b
  masks_offset_same = omega (arith, only.bytes 6 (λ e. absurd (omega arith)), only.bytes 7 (λ e. absurd (omega arith)))

  rows_offset_same : rows_offset c ≡ rows_offset b
  rows_offset_same = omega (arith, only.bytes 8 (λ e. absurd (omega arith)), only.bytes 9 (λ e. absurd (omega arith)))

  book_length_same : book_length c ≡ book_length b
  book_length_same = omega (arith, only.bytes 10 (λ e. absurd (omega arith)), only.bytes 11 (λ e. absurd (omega arith)))

  -- ---- masks and rows
  mask_at_same : (s : ℕ) → mask_at c s ≡ mask_at b s
  mask_at_same s =
      omega (
        arith,
        only.bytes (12 + 4 * s) (λ e. absurd (omega arith)),
        only.bytes (12 + 4 * s + 1) (λ e. absurd (omega arith)),
        only.bytes (12 + 4 * s + 2) (λ e. absurd (omega arith)),
        only.bytes (12 + 4 * s + 2 + 1) (λ e. absurd (omega arith)),
      )

  pub masks_same : masks c ≡ masks b
  masks_same = ap (λ (n : ℕ). list_of n (mask_at c)) slots_same ∙ list_of_same (slots b) (mask_at c) (mask_at b) mask_at_same

  rows_part_same : rows_part c ≡ rows_part b
  rows_part_same =
      let from = 12 + 4 * slots b in
      ap (λ (n : ℕ). drop (12 + 4 * n) c) slots_same
      ∙ ext_get_or 0 (drop from c) (drop from b) (omega (arith, length-drop from c, length-drop from b, only.size))
      (λ i inside. get_or-drop from c i 0 ∙ only.bytes (from + i) (λ e. absurd (omega arith)) ∙ sym (get_or-drop from b i 0))

  pub rows_same : rows c ≡ rows b
  rows_same = ap (λ (r : ℕ). list_of r (row_at (rows_part c))) row_count_same ∙ ap (λ (p : List ℕ). list_of (row_count b) (row_at p)) rows_part_same

-- ---- the refusal
module _ {b c : List ℕ} (other : OtherIdle b c) (limits : Limits) where
  header_fault_same : header_fault limits c ≡ header_fault limits b
  unfolding header_fault
  header_fault_same =
      let only = other.only in
      rw (
        only.size,
        slots_same only,
        le-ltb (values c) (idle c) other.also_known,
        le-ltb (values b) (idle b) other.known,
        values_same only,
        row_count_same only,
        masks_offset_same only,
        rows_offset_same only,
        book_length_same only,
      )
      refl

  masks_fault_same : first_of (slots c) (λ s. mask_fault (values c) (mask_at c s)) ≡ first_of (slots b) (λ s. mask_fault (values b) (mask_at b s))
  masks_fault_same =
      let only = other.only in
      rw (slots_same only, values_same only)
      (first_of_same (slots b) (λ s. mask_fault (values b) (mask_at c s)) (λ s. mask_fault (values b) (mask_at b s))
      (λ s. ap (mask_fault (values b)) (mask_at_same only s)))

  rows_fault_same : first_of (row_count c) (λ i. row_fault (slots c) (values c) (row_at (rows_part c) i))
      ≡ first_of (row_count b) (λ i. row_fault (slots b) (values b) (row_at (rows_part b) i))
  rows_fault_same =
      let only = other.only in
      ap (λ (p : List ℕ). first_of (row_count c) (λ i. row_fault (slots c) (values c) (row_at p i))) (rows_part_same only)
      ∙ ap (λ (r : ℕ). first_of r (λ i. row_fault (slots c) (values c) (row_at (rows_part b) i))) (row_count_same only)
      ∙ ap (λ (n : ℕ). first_of (row_count b) (λ i. row_fault n (values c) (row_at (rows_part b) i))) (slots_same only)
      ∙ ap (λ (k : ℕ). first_of (row_count b) (λ i. row_fault (slots b) k (row_at (rows_part b) i))) (values_same only)

  pub refusal_same : refusal limits c ≡ refusal limits b
  unfolding refusal
  refusal_same = rw (header_fault_same, masks_fault_same, rows_fault_same) refl
