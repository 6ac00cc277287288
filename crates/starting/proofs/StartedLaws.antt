-- The starting table of the first rows of a book, row by row. No contract cites this file.
--   Started n k row i L U    L and U hold the starting table of row 0, .., row (i - 1)
-- The law that matters most: `started_more`, one row more.
-- Assumes nothing.
use mathlib.Core.Path.{◌≡◌, sym, ap, ◌∙◌}
use mathlib.Core.List.{List, [], ◌∷◌, ◌++◌}
use Prim.Native.Nat.{ℕ, ◌+◌, ◌*◌, ◌%◌, ◌≤◌, ◌<◌}
use native.Mathlib.Numerals.{add-one}
use native.Mathlib.Omega.{arith}
use lib.ListN.{length, replicate}
use Rattle.book.specs.declared.Row.{Row}
use Rattle.book.specs.Layout.{slots, values, row_count, rows_part, row_at, list_of}
use Rattle.book.specs.GoodFacts.{RowFacts}
use Rattle.closing_model.specs.Table.{size, place}
use Rattle.closing_model.specs.Start.{low_of, high_of, start_lowers, start_uppers}
use Rattle.closing_model.specs.Sweep.{raised, lowered}
use Rattle.closing_model.proofs.PlaceLaws.{place_below}
use Rattle.closing_model.proofs.StartLaws.{start_lowers_more, start_uppers_more, start_lowers_length, start_uppers_length}
use Rattle.filling.proofs.FillLaws.{list_of_const}

pub record Started (n k : ℕ) (row : ℕ → Row) (i : ℕ) (L U : List ℕ) : Type 0 where
  pub lowers : L ≡ start_lowers n k (list_of i row)
  pub uppers : U ≡ start_uppers n k (list_of i row)

module _ (n k : ℕ) (row : ℕ → Row) where
  pub started_none : {L U : List ℕ} → L ≡ replicate (size n k) 0 → U ≡ list_of (size n k) (λ p. p % (n + 1)) → Started n k row 0 L U
  unfolding start_lowers start_uppers low_of high_of list_of
  started_none zeros prefixes = record { lowers = zeros ∙ sym (list_of_const (size n k) 0); uppers = prefixes }

  module _ (i : ℕ) where
    rows_more : list_of (i + 1) row ≡ list_of i row ++ (row i ∷ [])
    unfolding list_of
    rows_more = ap (λ (j : ℕ). list_of j row) (add-one i)

    -- row i applied at its place
    pub started_more : (r : Row) {L U L' U' : List ℕ} → r ≡ row i → RowFacts n k r → Started n k row i L U
        → L' ≡ raised L (place n r.value r.end) r.lower → U' ≡ lowered U (place n r.value r.end) r.upper → Started n k row (i + 1) L' U'
    started_more r is_row good started is_raised is_lowered =
        let rows : list_of (i + 1) row ≡ list_of i row ++ (r ∷ []) = rw is_row rows_more in
        record {
          lowers = is_raised ∙ rw (started.lowers, rows) (sym (start_lowers_more n k r good.value_below good.end_most (list_of i row)));
          uppers = is_lowered ∙ rw (started.uppers, rows) (sym (start_uppers_more n k r good.value_below good.end_most (list_of i row)));
        }

    pub started_length_lowers : {L U : List ℕ} → Started n k row i L U → length L ≡ size n k
    started_length_lowers started = ap length started.lowers ∙ start_lowers_length n k (list_of i row)

    pub started_length_uppers : {L U : List ℕ} → Started n k row i L U → length U ≡ size n k
    started_length_uppers started = ap length started.uppers ∙ start_uppers_length n k (list_of i row)

-- ---- of a book

module _ (b : List ℕ) {n : ℕ} {part : List ℕ} (is_n : n ≡ slots b) (is_part : part ≡ rows_part b) where
  -- a row that is read is as good as the book's
  pub row_read : (i : ℕ) {r : Row} → r ≡ row_at part i → RowFacts (slots b) (values b) (row_at (rows_part b) i) → RowFacts n (values b) r
  row_read i is_row good = rw (is_row, is_part, is_n) good

  -- all rows applied: the starting table
  pub started_all : {i : ℕ} {L U : List ℕ} → i ≡ row_count b → Started n (values b) (row_at part) i L U
      → Started (slots b) (values b) (row_at (rows_part b)) (row_count b) L U
  started_all all started = rw (all, is_part, is_n) at started

-- a good row's place is one of the table's
pub row_place : (n k : ℕ) (row : Row) → RowFacts n k row → place n row.value row.end < size n k
row_place n k row good = place_below n k row.value row.end good.value_below good.end_most
