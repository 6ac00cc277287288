-- What canonical answers and writes, in document 02's words: refused by the number, and the output as it was; dead where no closed table lies within the
-- starting table, and the output as it was; live, and the canonical book of the loosest closed table is in the front of the output.
--   CanonicalMeans b o r o'   of book b and the output o as it is lent: r is canonical's answer, o' the output as it comes back
--   front_book o'              the book in the front of an output, by the length in its bytes 10 and 11
--   SameBook b c              c is a good book of the same slots, types, byte 3 and masks as b, closes and settles to the same, and has the same plans
--   AnswersAlike b c          close, settle, session and probe answer and write of c what they do of b
--   NeededRows b c            rows that fill, type by type, to the loosest closed table of b have one at the type and end of each row of c
--   CanonicalReads b o o'     what a host has after the answer 0: the book in the front of o' is such a one, its own canonical book, and what stood behind it
--                             stays
--   SameParts b c             b and c have the same slots, types, byte 3 and masks
--   SameTables b c            b and c have the same loosest closed table, entry by entry
-- `canonical_means` and `means_canonical` say that the contract of the entry has just this meaning; `canonical_reads` proves `CanonicalReads` and
-- `canonical_alike` `AnswersAlike`; `alike_tables` and `tables_alike`: of two books of the same parts, both answered 0, the books written are equal exactly
-- when the closed tables are. Assumes nothing.
use Rattle.std.specs.Prelude.{◌≡◌, List, ℕ, suc, ◌+◌, ◌≤◌, ◌<◌, length, take, drop}
use Rattle.book.specs.declared.Row.{Row}
use Rattle.book.specs.Layout.{slots, values, idle, masks, rows, book_length}
use Rattle.book.specs.Lists.{All}
use Rattle.book.specs.Refusal.{refusal, GoodBook}
use Rattle.closing_model.specs.Table.{Table, view, place, Loosest, NoneClosed}
use Rattle.closing_model.specs.Start.{entries}
use Rattle.closing.specs.Close.{overlay}
use Rattle.settling_model.specs.Book.{book_start, closed_book, settled_book, BookPlan}
use Rattle.filled_model.specs.Filled.{LooselyFilled}
use Rattle.filled_model.specs.Given.{start_of, Gives}
use Rattle.canonical_model.specs.Canonical.{book_rows, canonical_book}
use Rattle.entries_model.specs.Entries.{full_limits, CloseEntry, SettleEntry, SessionEntry, ProbeEntry, CanonicalEntry}

pub data CanonicalMeans (b o : List ℕ) (r : ℕ) (o' : List ℕ) : Type 0 where
  -- the book's own number
  refuses : (x : ℕ) → refusal full_limits b ≡ suc x → r ≡ 256 + suc x → o' ≡ o → CanonicalMeans b o r o'
  -- no closed table lies within the starting table; nothing is written
  dies : GoodBook full_limits b → NoneClosed (slots b) (values b) (book_start b) → r ≡ 1 → o' ≡ o → CanonicalMeans b o r o'
  -- more than 1,024 rows would be needed
  needs_more : GoodBook full_limits b → (lowers uppers : List ℕ) → length lowers ≡ entries b → length uppers ≡ entries b
      → Loosest (slots b) (values b) (book_start b) (view lowers uppers) → 1024 < length (book_rows b (view lowers uppers)) → r ≡ 256 + 19 → o' ≡ o
      → CanonicalMeans b o r o'
  -- the output is shorter than the canonical book
  short : GoodBook full_limits b → (lowers uppers : List ℕ) → length lowers ≡ entries b → length uppers ≡ entries b
      → Loosest (slots b) (values b) (book_start b) (view lowers uppers) → length (book_rows b (view lowers uppers)) ≤ 1024
      → length o < length (canonical_book b (view lowers uppers)) → r ≡ 256 + 9 → o' ≡ o → CanonicalMeans b o r o'
  -- the canonical book of the loosest closed table is written
  writes : GoodBook full_limits b → (lowers uppers : List ℕ) → length lowers ≡ entries b → length uppers ≡ entries b
      → Loosest (slots b) (values b) (book_start b) (view lowers uppers) → length (book_rows b (view lowers uppers)) ≤ 1024
      → length (canonical_book b (view lowers uppers)) ≤ length o → r ≡ 0 → o' ≡ overlay (canonical_book b (view lowers uppers)) o → CanonicalMeans b o r o'

-- ---- what a host has after the answer 0
abbrev pub front_book : List ℕ → List ℕ
front_book o' = take (book_length o') o'

pub record SameParts (b c : List ℕ) : Type 0 where
  pub slots_same : slots c ≡ slots b
  pub types_same : values c ≡ values b
  pub byte_3_same : idle c ≡ idle b
  pub masks_same : masks c ≡ masks b

pub record SameTables (b c : List ℕ) : Type 0 where
  pub each : (T U : Table) → Loosest (slots b) (values b) (book_start b) T → Loosest (slots c) (values c) (book_start c) U
      → (v t : ℕ) → v < values b → t ≤ slots b
      → (T.lower (place (slots b) v t) ≡ U.lower (place (slots b) v t)) × (T.upper (place (slots b) v t) ≡ U.upper (place (slots b) v t))

pub record SameBook (b c : List ℕ) : Type 0 where
  pub good : GoodBook full_limits c
  pub parts : SameParts b c
  pub closes_same : closed_book c ≡ closed_book b
  pub settles_same : settled_book c ≡ settled_book b
  pub plan_to : (p : List ℕ) → BookPlan b p → BookPlan c p
  pub plan_from : (p : List ℕ) → BookPlan c p → BookPlan b p

pub record AnswersAlike (b c : List ℕ) : Type 0 where
  pub close : (L U : List ℕ) (r : ℕ) (L' U' : List ℕ) → CloseEntry b L U r L' U' → CloseEntry c L U r L' U'
  pub settle : (M : List ℕ) (r : ℕ) (M' : List ℕ) → SettleEntry b M r M' → SettleEntry c M r M'
  pub session : (calls A M : List ℕ) (r : ℕ) (A' M' : List ℕ) → SessionEntry b calls A M r A' M' → SessionEntry c calls A M r A' M'
  pub probe : (calls D : List ℕ) (r : ℕ) (D' : List ℕ) → ProbeEntry b calls D r D' → ProbeEntry c calls D r D'

abbrev pub NeededRows : List ℕ → List ℕ → Type 0
NeededRows b c =
    (T : Table) → Loosest (slots b) (values b) (book_start b) T → (rs : List Row) → LooselyFilled (slots b) (values b) (start_of (slots b) (values b) rs) T
    → All (λ row. Gives (λ r. Unit {0}) rs row.value row.end) (rows c)

pub record CanonicalReads (b o o' : List ℕ) : Type 0 where
  pub same : SameBook b (front_book o')
  -- its own rows fill, type by type, to the loosest closed table
  pub fills : (T : Table) → Loosest (slots b) (values b) (book_start b) T
      → LooselyFilled (slots b) (values b) (start_of (slots b) (values b) (rows (front_book o'))) T
  pub needed : NeededRows b (front_book o')
  -- canonical of it is itself
  pub again : (q q' : List ℕ) → length (front_book o') ≤ length q → q' ≡ overlay (front_book o') q → CanonicalEntry (front_book o') q 0 q'
  pub behind : drop (book_length o') o' ≡ drop (book_length o') o
