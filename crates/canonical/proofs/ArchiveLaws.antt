-- What the parts of the entry make together: `book_stored` (header, masks and rows one behind the other), `closed_lines` (the lines of a closed table grow by
-- 0 or 1), `book_length_lem`. No contract cites this file. Assumes nothing.
use mathlib.Core.Path.{◌≡◌, refl, sym, ap, ◌∙◌}
use mathlib.Core.Bool.{Bool, true, false}
use mathlib.Core.List.{List, [], ◌++◌}
use Prim.Native.Nat.{ℕ, ◌+◌, ◌*◌, ◌≤◌, ◌<◌}
use native.Mathlib.Nat.{zero-add, mul-le-mul_right}
use native.Mathlib.Omega.{arith}
use lib.ListN.{length, drop, length-append}
use lib.Seq.{sets, sets-eq}
use Rattle.elements.specs.Elements.{bytes_of}
use Rattle.elements.proofs.ElementsLaws.{sets_append, length_bytes_of}
use Rattle.book.specs.declared.Limits.{Limits}
use Rattle.book.specs.declared.Row.{Row}
use Rattle.book.specs.Layout.{slots, values, idle, masks}
use Rattle.book.specs.Refusal.{refusal, GoodBook}
use Rattle.book.proofs.LayoutLaws.{length_masks}
use Rattle.book.proofs.BookLaws.{good_facts}
use Rattle.closing_model.specs.Table.{view, Closed}
use Rattle.closing_model.specs.Start.{entries}
use Rattle.closing.specs.Close.{Outcome, refused, dead, live}
use Rattle.closing.proofs.CloseLaws.{unless_some}
use Rattle.starting.specs.Ready.{Ready}
use Rattle.settling_model.specs.Book.{closed_book}
use Rattle.settling_model.proofs.BookLaws.{closed_book_loosest, closed_book_lengths}
use Rattle.settle_fault.proofs.SettleLaws.{fit_of}
use Rattle.filled_model.specs.Filled.{Stepwise}
use Rattle.filled_model.proofs.FilledLaws.{closed_rules, rules_steps}
use Rattle.book_bytes.specs.BookBytes.{header_bytes, rows_bytes, book_bytes, LimitsFit}
use Rattle.book_bytes.proofs.BookBytesLaws.{rows_bytes_length}
use Rattle.canonical_model.specs.CornerRows.{canonical_rows}
use Rattle.canonical_model.specs.Canonical.{book_rows, canonical_book, archive_of, canonical_of, Canonises}
use Rattle.canonical_rows.specs.Lines.{line_in, Line, Lines, AllLines, RowsWritten}
use Rattle.canonical.specs.Archive.{TableRoom, ClosedTable}

-- ---- header, masks and rows, one behind the other
book_stored : (out : List ℕ) (n k idle r : ℕ) (ms : List ℕ) (rs : List Row) {a b d : List ℕ} → length ms ≡ n → r ≡ length rs
    → a ≡ sets out 0 (header_bytes n k idle r) → b ≡ sets a 12 (bytes_of 4 ms) → d ≡ sets b (12 + 4 * n) (rows_bytes rs)
    → d ≡ sets out 0 (book_bytes n k idle ms rs)
book_stored out n k idle r ms rs long count header masks rows =
    rows
    ∙ ap (λ (l : List ℕ). sets l (12 + 4 * n) (rows_bytes rs))
    (masks ∙ ap (λ (l : List ℕ). sets l 12 (bytes_of 4 ms)) (header ∙ ap (λ (c : ℕ). sets out 0 (header_bytes n k idle c)) count))
    ∙ sets_append (sets out 0 (header_bytes n k idle (length rs))) 12 (bytes_of 4 ms) (rows_bytes rs) (12 + 4 * n) (omega (arith, length_bytes_of 4 ms))
    ∙ sets_append out 0 (header_bytes n k idle (length rs)) (bytes_of 4 ms ++ rows_bytes rs) 12 refl

-- ---- Canonises
pub canonises_refused : (x : ℕ) (out : List ℕ) {o : Outcome} → o ≡ refused x → Canonises o (256 + x) out out
canonises_refused x out is = rw is (record { answers = refl; output = refl })

pub canonises_dead : (out : List ℕ) {o : Outcome} → o ≡ dead 0 → Canonises o 1 out out
canonises_dead out is = rw is (record { answers = refl; output = refl })

pub canonises_written : (bytes out : List ℕ) {o : Outcome} {out' : List ℕ} → o ≡ live bytes [] → length bytes ≤ length out → out' ≡ sets out 0 bytes
    → Canonises o 0 out out'
canonises_written bytes out is fits stored =
    rw is (record { answers = refl; output = stored ∙ sets-eq bytes out 0 (omega arith) ∙ ap (λ (m : ℕ). bytes ++ drop m out) (zero-add (length bytes)) })

-- ---- a good book
module _ (limits : Limits) (b : List ℕ) (small : LimitsFit limits) (good : GoodBook limits b) where
  pub good_room : {L U : List ℕ} → length L ≡ entries b → length U ≡ entries b → TableRoom b L U
  good_room lowers uppers =
      let facts = good_facts limits b good in
      record {
        book = fit_of (record { slots = small.slots; values = small.values }) facts;
        slotted = omega (arith, facts.header.slots_least);
        lowers = lowers;
        uppers = uppers;
      }

pub room_ready : {b L U : List ℕ} → TableRoom b L U → Ready b L U
room_ready room = record { inside = room.book.inside; row = room.book.row; lowers = room.lowers; uppers = room.uppers }

-- ---- the closed table
module _ {b L U : List ℕ} (table : ClosedTable b L U) where
  closed : Closed (slots b) (values b) (view L U)
  closed = (closed_book_loosest b L U table.closes).closed

  small_line : (kind : Bool) (s : List ℕ) → length s ≡ entries b → (v : ℕ) → v < values b → Stepwise (slots b) (line_in s (slots b) v) → Line (slots b) v s
  small_line kind s long v v<k steps =
      record {
        slots = table.book.slots_most;
        value = omega (arith, table.book.values_most);
        entries = omega (arith, long, mul-le-mul_right (slots b + 1) v<k);
        steps = steps;
      }

  both_lines : (v : ℕ) → v < values b → Lines (slots b) v L U
  both_lines v v<k =
      let long = closed_book_lengths b L U table.closes in
      let rules = closed_rules closed in
      (small_line true L long.0 v v<k (rules_steps true rules v v<k), small_line false U long.1 v v<k (rules_steps false rules v v<k))

  -- the lines of a closed table grow by 0 or 1 at each step
  pub closed_lines : {n k : ℕ} → n ≡ slots b → k ≡ values b → AllLines n k L U
  closed_lines n_is k_is = rw (n_is, k_is) (record { some = table.slotted; values = table.book.values_most; each = both_lines })

-- ---- the rows, by the numbers that were read
module _ (b L U : List ℕ) {n k : ℕ} (n_is : n ≡ slots b) (k_is : k ≡ values b) where
  abbrev rs : List Row
  rs = book_rows b (view L U)

  pub rows_are : {r : ℕ} → r ≡ length (canonical_rows n k (view L U)) → r ≡ length rs
  rows_are count = rw (n_is, k_is) at count

  pub rows_room : {r m : ℕ} → r ≡ length rs → 12 + 4 * slots b + 8 * r ≤ m → 12 + 4 * n + 8 * length (canonical_rows n k (view L U)) ≤ m
  rows_room {r} count room = rw (n_is, k_is) (omega arith)

  pub canonical_stored : (out : List ℕ) {i r q : ℕ} {a m d : List ℕ} → i ≡ idle b → r ≡ length rs → a ≡ sets out 0 (header_bytes n k i r)
      → m ≡ sets a 12 (bytes_of 4 (masks b)) → RowsWritten (canonical_rows n k (view L U)) m (12 + 4 * n) d q → d ≡ sets out 0 (canonical_book b (view L U))
  canonical_stored out {i} {r} idle_is count header body rows =
      book_stored out (slots b) (values b) (idle b) r (masks b) rs (length_masks b) count
      (rw (n_is, k_is, idle_is) at header) body (rw (n_is, k_is) at rows.bytes)

-- ---- the outcome
-- how long the canonical book is
pub book_length_lem : (b L U : List ℕ) → length (canonical_book b (view L U)) ≡ 12 + 4 * slots b + 8 * length (book_rows b (view L U))
book_length_lem b L U =
    let all = book_rows b (view L U) in
    length-append (header_bytes (slots b) (values b) (idle b) (length all)) (bytes_of 4 (masks b) ++ rows_bytes all)
    ∙ ap (λ (x : ℕ). 12 + x) (length-append (bytes_of 4 (masks b)) (rows_bytes all))
    ∙ omega (arith, length_bytes_of 4 (masks b), length_masks b, rows_bytes_length all)

pub entry_refused : (limits : Limits) (b : List ℕ) (room x : ℕ) → x ≡ refusal limits b → (x ≡ 0 → ⊥) → canonical_of limits b room ≡ refused x
unfolding canonical_of
entry_refused limits b room x is nonzero = rw (sym is) (unless_some x (archive_of limits b room (closed_book b)) nonzero)
