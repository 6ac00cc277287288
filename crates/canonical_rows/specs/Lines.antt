-- What the functions over the lines of a table rest on, and what they promise. A kind is a Bool: true for the lower bounds.
--   line_in s n v           the line of type v among the entries s of one bound
--   Line n v s             s has an entry for each end of the types up to v, within a book's limits, and the line of v grows by 0 or 1 at each step
--   Lines n v L U          so have both bounds, for type v
--   AllLines n k L U       so have both bounds, for each type below k
--   turned kind a b c      by how much the step from a to b and that from b to c differ in the kind's way: the first less the second, or the second less the
--                          first
--   turning kind s p       the same of the entry at p and the two after it
--   part_rows n T v from m  the canonical rows of type v and the m ends after from
--   RowsWritten rs out p out' q   the bytes of the rows rs stand in out' from p on, all else of it is that of out, and q is the place behind them
-- Assumes nothing.
use Rattle.std.specs.Prelude.{◌≡◌, Bool, true, false, List, [], ◌++◌, ℕ, zero, suc, ◌+◌, ◌-◌, ◌*◌, ◌≤◌, ◌<◌, length, get_or}
use Rattle.std.proofs.lemmas.List.Edits.{sets}
use Rattle.book.specs.declared.Row.{Row}
use Rattle.closing_model.specs.Table.{Table, size}
use Rattle.closing_model.specs.Corners.{line}
use Rattle.filled_model.specs.Filled.{Stepwise}
use Rattle.book_bytes.specs.BookBytes.{rows_bytes}
use Rattle.canonical_model.specs.CornerRows.{corner_rows}

-- ---- lines
abbrev pub line_in : List ℕ → ℕ → ℕ → ℕ → ℕ
line_in s n v = line (λ p. get_or s p 0) n v

pub record Line (n v : ℕ) (s : List ℕ) : Type 0 where
  pub slots : n ≤ 256
  pub value : v < 32
  pub entries : size n (v + 1) ≤ length s
  pub steps : Stepwise n (line_in s n v)

abbrev pub Lines : ℕ → ℕ → List ℕ → List ℕ → Type 0
Lines n v L U = Line n v L × Line n v U

pub record AllLines (n k : ℕ) (L U : List ℕ) : Type 0 where
  pub some : 0 < n
  pub values : k ≤ 32
  pub each : (v : ℕ) → v < k → Lines n v L U

abbrev pub turned : Bool → ℕ → ℕ → ℕ → ℕ
turned true a b c = b - a - (c - b)
turned false a b c = c - b - (b - a)

abbrev pub turning : Bool → List ℕ → ℕ → ℕ
turning kind s p = turned kind (get_or s p 0) (get_or s (p + 1) 0) (get_or s (p + 1 + 1) 0)

-- ---- rows
unfoldable pub part_rows : ℕ → Table → ℕ → ℕ → ℕ → List Row
part_rows n T v from zero = []
part_rows n T v from (suc m) = part_rows n T v from m ++ corner_rows n T v (from + suc m)

pub record RowsWritten (rs : List Row) (out : List ℕ) (p : ℕ) (out' : List ℕ) (q : ℕ) : Type 0 where
  pub bytes : out' ≡ sets out p (rows_bytes rs)
  pub next : q ≡ p + 8 * length rs
