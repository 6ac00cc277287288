-- A row whose lower is above its upper or its end is no refusal, and such a book is dead (document 01, 'The book'): `crossed_row_closing`,
-- `crossed_row_settling`. The starting table keeps every row at its own place: `row_lower_lem`, `row_upper_lem`, `upper_upto`.
-- No contract cites this file. Assumes nothing.
use mathlib.Core.Path.{◌≡◌, refl}
use mathlib.Core.Bool.{Bool, true, false, cond}
use mathlib.Core.Logic.{◌⊎◌, inl, inr}
use mathlib.Core.List.{List, [], ◌∷◌}
use mathlib.Core.Option.{none}
use Prim.Native.Nat.{ℕ, zero, suc, ◌≤◌, ◌<◌, min, max}
use native.Mathlib.Decide.{ℕ_discrete}
use native.Mathlib.Omega.{arith}
use borrow.Author.Tests.{eq-eqb}
use Rattle.book.specs.declared.Limits.{Limits}
use Rattle.book.specs.declared.Row.{Row}
use Rattle.book.specs.Layout.{slots, values, row_count, rows_part, row_at, rows, list_of}
use Rattle.book.specs.Refusal.{GoodBook}
use Rattle.book.specs.GoodFacts.{RowFacts}
use Rattle.book.proofs.BookLaws.{good_facts}
use Rattle.closing_model.specs.Start.{speaks, low_of, high_of}
use Rattle.closing_model.specs.Table.{place, size, NoneClosed}
use Rattle.closing_model.proofs.PlaceLaws.{place_below, place_value, place_prefix}
use Rattle.closing_model.proofs.StartLaws.{low_of_last, high_of_last, start_lowers_length, start_uppers_length, start_lowers_at, start_uppers_at}
use Rattle.closing_model.proofs.ClosingLaws.{none_closing}
use Rattle.settling_model.specs.Book.{book_start, closed_book, settled_book, none_closed}
use Rattle.settling_model.proofs.BookLaws.{dead_settled_book}

-- ---- low_of, high_of
speaks_itself : (r : Row) → speaks r r.value r.end ≡ true
speaks_itself r = rw (eq-eqb r.value r.value refl) (eq-eqb r.end r.end refl)

own_lower : (r : Row) (rs : List Row) → r.lower ≤ low_of (r ∷ rs) r.value r.end
unfolding low_of
own_lower r rs = rw (speaks_itself r) (omega arith)

own_upper : (r : Row) (rs : List Row) → high_of (r ∷ rs) r.value r.end ≤ r.upper
unfolding high_of
own_upper r rs = rw (speaks_itself r) (omega arith)

module _ (q : Row) (rs : List Row) (v t : ℕ) where
  lower_more : low_of rs v t ≤ low_of (q ∷ rs) v t
  unfolding low_of
  lower_more = go (speaks q v t)
    where
      go : (says : Bool) → low_of rs v t ≤ cond says (max q.lower (low_of rs v t)) (low_of rs v t)
      go true = omega arith
      go false = omega arith

  upper_less : high_of (q ∷ rs) v t ≤ high_of rs v t
  unfolding high_of
  upper_less = go (speaks q v t)
    where
      go : (says : Bool) → cond says (min q.upper (high_of rs v t)) (high_of rs v t) ≤ high_of rs v t
      go true = omega arith
      go false = omega arith

pub upper_upto : (rs : List Row) (v t : ℕ) → high_of rs v t ≤ t
unfolding high_of
upper_upto [] v t = omega arith
upper_upto (q ∷ rs) v t = omega (arith, upper_less q rs v t, upper_upto rs v t)

module _ (f : ℕ → Row) where
  pub row_lower_lem : (m i : ℕ) → i < m → (f i).lower ≤ low_of (list_of m f) (f i).value (f i).end
  unfolding list_of
  row_lower_lem zero i i<m = absurd (omega arith)
  row_lower_lem (suc m) i i<m = rw (low_of_last (list_of m f) (f m) (f i).value (f i).end) (go (ℕ_discrete i m) (row_lower_lem m i))
    where
      go : Dec (i ≡ m) → (i < m → (f i).lower ≤ low_of (list_of m f) (f i).value (f i).end) → (f i).lower ≤ low_of (f m ∷ list_of m f) (f i).value (f i).end
      go (yes e) before = rw e (own_lower (f m) (list_of m f))
      go (no ne) before = omega (arith, before (omega arith), lower_more (f m) (list_of m f) (f i).value (f i).end)

  pub row_upper_lem : (m i : ℕ) → i < m → high_of (list_of m f) (f i).value (f i).end ≤ (f i).upper
  unfolding list_of
  row_upper_lem zero i i<m = absurd (omega arith)
  row_upper_lem (suc m) i i<m = rw (high_of_last (list_of m f) (f m) (f i).value (f i).end) (go (ℕ_discrete i m) (row_upper_lem m i))
    where
      go : Dec (i ≡ m) → (i < m → high_of (list_of m f) (f i).value (f i).end ≤ (f i).upper) → high_of (f m ∷ list_of m f) (f i).value (f i).end ≤ (f i).upper
      go (yes e) before = rw e (own_upper (f m) (list_of m f))
      go (no ne) before = omega (arith, before (omega arith), upper_less (f m) (list_of m f) (f i).value (f i).end)

-- ---- a row of a good book
abbrev row_of : List ℕ → ℕ → Row
row_of b i = row_at (rows_part b) i

module _ (limits : Limits) (b : List ℕ) (good : GoodBook limits b) (i : ℕ) (inside : i < row_count b)
    (crossed : ((row_of b i).upper < (row_of b i).lower) ⊎ ((row_of b i).end < (row_of b i).lower)) where
  facts : RowFacts (slots b) (values b) (row_of b i)
  facts = (good_facts limits b good).row i inside

  abbrev at : ℕ
  at = place (slots b) (row_of b i).value (row_of b i).end

  at_below : at < size (slots b) (values b)
  at_below = place_below (slots b) (values b) (row_of b i).value (row_of b i).end facts.value_below facts.end_most

  start_low : (row_of b i).lower ≤ (book_start b).lower at
  start_low =
      rw (
        start_lowers_at (slots b) (values b) (rows b) at at_below,
        place_value (slots b) (row_of b i).value (row_of b i).end facts.end_most,
        place_prefix (slots b) (row_of b i).value (row_of b i).end facts.end_most,
      )
      (row_lower_lem (row_of b) (row_count b) i inside)

  start_high : ((book_start b).upper at ≤ (row_of b i).upper) × ((book_start b).upper at ≤ (row_of b i).end)
  start_high =
      rw (
        start_uppers_at (slots b) (values b) (rows b) at at_below,
        place_value (slots b) (row_of b i).value (row_of b i).end facts.end_most,
        place_prefix (slots b) (row_of b i).value (row_of b i).end facts.end_most,
      )
      (row_upper_lem (row_of b) (row_count b) i inside, upper_upto (rows b) (row_of b i).value (row_of b i).end)

  crossed_row_none : NoneClosed (slots b) (values b) (book_start b)
  crossed_row_none T closed within = go crossed
    where
      low : (row_of b i).lower ≤ T.lower at
      low = omega (arith, start_low, within.lowers at at_below)

      met : T.lower at ≤ T.upper at
      met = closed.uncrossed (row_of b i).value (row_of b i).end facts.value_below facts.end_most

      go : ((row_of b i).upper < (row_of b i).lower) ⊎ ((row_of b i).end < (row_of b i).lower) → ⊥
      go (inl above) = omega (arith, low, met, within.uppers at at_below, start_high.0)
      go (inr above) = omega (arith, low, met, within.uppers at at_below, start_high.1)

  pub crossed_row_closing : closed_book b ≡ none
  crossed_row_closing =
      none_closing (slots b) (values b) _ _ (start_lowers_length (slots b) (values b) (rows b))
      (start_uppers_length (slots b) (values b) (rows b)) crossed_row_none

  pub crossed_row_settling : settled_book b ≡ none
  crossed_row_settling = dead_settled_book b (none_closed crossed_row_none)
