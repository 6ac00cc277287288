-- The laws of `specs/Layout.antt`, in its order. No contract cites this file. The ones that matter most: `length_list_of` and
-- `get_d_list_of` (the masks and the rows as lists), `length_rows_part` (how long the rows' part is).
-- Assumes nothing.
use mathlib.Core.Path.{◌≡◌, refl, sym, ap, ◌∙◌}
use mathlib.Core.Logic.{dite}
use mathlib.Core.List.{List, [], ◌∷◌, ◌++◌}
use Prim.Native.Nat.{ℕ, zero, suc, ◌+◌, ◌-◌, ◌*◌, ◌<◌}
use native.Mathlib.Decide.{ℕ_discrete}
use native.Mathlib.Omega.{arith}
use lib.ListN.{length, get_or, take, drop, length-append, length-drop, get_or-append}
use lib.Seq.{take_all, get_or_at}
use Rattle.book.specs.declared.Row.{Row}
use Rattle.book.specs.Layout.{slots, row_count, mask_at, rows_part, row_at, list_of, masks, rows}

-- ---- rows_part
-- a part to the end, as a slice from m is cut
pub rest_drop : (m n : ℕ) (b : List ℕ) → m ≡ n → take (length b - m) (drop m b) ≡ drop n b
rest_drop m n b m≡n = take_all (length b - m) (drop m b) (omega (arith, length-drop m b)) ∙ ap (λ (j : ℕ). drop j b) m≡n

-- of a book as long as its header says
pub length_rows_part : (b : List ℕ) → length b ≡ 12 + 4 * slots b + 8 * row_count b → length (rows_part b) ≡ 8 * row_count b
length_rows_part b lent = omega (arith, length-drop (12 + 4 * slots b) b)

-- ---- list_of
module _ {ℓ} {A : Type ℓ} where
  pub length_list_of : (m : ℕ) (f : ℕ → A) → length (list_of m f) ≡ m
  unfolding list_of
  length_list_of zero f = refl
  length_list_of (suc m) f = length-append (list_of m f) (f m ∷ []) ∙ omega (arith, length_list_of m f)

  -- one more element stands at the end
  pub list_of_suc : (m : ℕ) (f : ℕ → A) → list_of (suc m) f ≡ list_of m f ++ (f m ∷ [])
  unfolding list_of
  list_of_suc m f = refl

  pub get_d_list_of : (m : ℕ) (f : ℕ → A) (i : ℕ) (d : A) → i < m → get_or (list_of m f) i d ≡ f i
  unfolding list_of
  get_d_list_of zero f i d i<m = absurd (omega arith)
  get_d_list_of (suc m) f i d i<m =
      dite (ℕ_discrete i m) (λ i≡m. get_or_at (list_of m f) (f m) [] d i (length_list_of m f ∙ sym i≡m) ∙ ap f (sym i≡m))
      (λ i≢m. get_or-append (list_of m f) (f m ∷ []) d i (omega (arith, length_list_of m f)) ∙ get_d_list_of m f i d (omega arith))

-- ---- masks, rows
pub length_masks : (b : List ℕ) → length (masks b) ≡ slots b
length_masks b = length_list_of (slots b) (mask_at b)

pub get_d_masks : (b : List ℕ) (s : ℕ) → s < slots b → get_or (masks b) s 0 ≡ mask_at b s
get_d_masks b s s<n = get_d_list_of (slots b) (mask_at b) s 0 s<n

pub length_rows : (b : List ℕ) → length (rows b) ≡ row_count b
length_rows b = length_list_of (row_count b) (row_at (rows_part b))

pub get_d_rows : (b : List ℕ) (i : ℕ) (d : Row) → i < row_count b → get_or (rows b) i d ≡ row_at (rows_part b) i
get_d_rows b i d i<r = get_d_list_of (row_count b) (row_at (rows_part b)) i d i<r
