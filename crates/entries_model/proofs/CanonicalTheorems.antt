-- The promises of canonical as theorems, in document 02's words, for every book and output. No contract cites this file.
--   canonical_means, means_canonical    what the entry's contract means (`specs/CanonicalMeaning.antt`), and no less: the meaning gives back the contract
--   dead_none_closed, none_closed_dead  a good book is answered dead exactly when no closed table lies within its starting table
--   canonical_reads                     what a host has after the answer 0: `CanonicalReads`
--   canonical_alike                     close, settle, session and probe answer and write of it what they do of the book
--   rows_in_order, rows_fewest          its rows stand by type, then end, and no set of rows that fills to the table has fewer
--   alike_tables, tables_alike          of two books of the same parts, both answered 0, the books written are equal exactly when the closed tables are
-- Assumes nothing.
use mathlib.Core.Path.{◌≡◌, refl, sym, ap, ap₂, subst, subst⁻¹, ◌∙◌}
use mathlib.Core.Logic.{dite}
use mathlib.Core.List.{List, []}
use mathlib.Core.Option.{Option, none, some, some-injective}
use Prim.Native.Nat.{ℕ, zero, suc, ◌+◌, ◌/◌, ◌%◌, ◌≤◌, ◌<◌}
use native.Mathlib.Decide.{dec_le}
use native.Mathlib.Omega.{arith}
use lib.ListN.{length, take, drop}
use lib.Seq.{take-append_seam, drop_at, ext_get_or}
use Rattle.book.specs.declared.Row.{Row}
use Rattle.book.specs.Layout.{slots, values, rows, book_length}
use Rattle.book.specs.Refusal.{refusal, GoodBook}
use Rattle.closing_model.specs.Table.{Table, view, size, place, Closed, Within, Loosest, NoneClosed}
use Rattle.closing_model.specs.Start.{entries}
use Rattle.closing_model.proofs.PlaceLaws.{place_below, place_of, value_below, prefix_upto}
use Rattle.closing_model.proofs.StartLaws.{start_lowers_length, start_uppers_length}
use Rattle.closing_model.proofs.TableLaws.{within_trans, loosest_lowers, loosest_uppers}
use Rattle.closing_model.proofs.ClosingLaws.{loosest_closing, none_closing}
use Rattle.closing.specs.Close.{Outcome, live, overlay}
use Rattle.settling_model.specs.Book.{book_start, closed_book}
use Rattle.settling_model.proofs.BookLaws.{closed_book_loosest, closed_book_lengths, closed_book_none}
use Rattle.filled_model.specs.Filled.{LooselyFilled}
use Rattle.filled_model.specs.Given.{start_of}
use Rattle.filled_model.proofs.FilledLaws.{closed_rules}
use Rattle.canonical_model.specs.Canonical.{book_rows, canonical_book, Canonises}
use Rattle.canonical_model.specs.Order.{Ordered}
use Rattle.canonical_model.proofs.CanonicalLaws as Laws
use Rattle.canonical_model.proofs.OutcomeLaws.{canonical_refused, canonical_dead, canonical_many, canonical_short, canonical_live}
use Rattle.entries_model.specs.Entries.{full_limits, CanonicalEntry}
use Rattle.entries_model.specs.CanonicalMeaning.{CanonicalMeans, refuses, dies, needs_more, short, writes}
use Rattle.entries_model.specs.CanonicalMeaning.{front_book, SameParts, SameTables, SameBook, AnswersAlike, NeededRows, CanonicalReads}
use Rattle.entries_model.proofs.AlikeLaws.{same_alike}
use Rattle.entries_model.proofs.ImportTheorems.{full_limits_fit}

-- ---- what the contract means
abbrev Told : List ℕ → ℕ → List ℕ → Outcome → Type 0
Told o r o' outcome = Canonises outcome r o o'

module _ (b : List ℕ) where
  -- the model's table, from what it is
  loosest_closed_book : (L U : List ℕ) → length L ≡ entries b → length U ≡ entries b → Loosest (slots b) (values b) (book_start b) (view L U)
      → closed_book b ≡ some (L, U)
  loosest_closed_book L U long_L long_U loosest =
      loosest_closing (slots b) (values b) _ _ (start_lowers_length (slots b) (values b) (rows b)) (start_uppers_length (slots b) (values b) (rows b)) L U
      long_L long_U loosest

  none_closed_book : NoneClosed (slots b) (values b) (book_start b) → closed_book b ≡ none
  none_closed_book no_table =
      none_closing (slots b) (values b) _ _ (start_lowers_length (slots b) (values b) (rows b)) (start_uppers_length (slots b) (values b) (rows b)) no_table

  module _ {o : List ℕ} {r : ℕ} {o' : List ℕ} where
    means_found : (L U : List ℕ) → GoodBook full_limits b → closed_book b ≡ some (L, U) → CanonicalEntry b o r o' → CanonicalMeans b o r o'
    means_found L U good closes entry =
        let long = closed_book_lengths b L U closes in
        let loosest = closed_book_loosest b L U closes in
        dite (dec_le (length (book_rows b (view L U))) 1024)
        (λ few.
        dite (dec_le (length (canonical_book b (view L U))) (length o))
        (λ fits.
        let told = subst (Told o r o') (canonical_live full_limits b (length o) good L U closes few fits) entry in
        writes good L U long.0 long.1 loosest few fits told.answers told.output)
        (λ tight.
        let less : length o < length (canonical_book b (view L U)) = omega arith in
        let told = subst (Told o r o') (canonical_short full_limits b (length o) good L U closes few less) entry in
        short good L U long.0 long.1 loosest few less told.answers told.output))
        (λ more.
        let many : 1024 < length (book_rows b (view L U)) = omega arith in
        let told = subst (Told o r o') (canonical_many full_limits b (length o) good L U closes many) entry in
        needs_more good L U long.0 long.1 loosest many told.answers told.output)

    means_good : GoodBook full_limits b → CanonicalEntry b o r o' → (found : Option (List ℕ × List ℕ)) → closed_book b ≡ found → CanonicalMeans b o r o'
    means_good good entry none closes =
        let told = subst (Told o r o') (canonical_dead full_limits b (length o) good closes) entry in
        dies good (closed_book_none b closes) told.answers told.output
    means_good good entry (some T) closes = means_found T.0 T.1 good closes entry

    means_by : CanonicalEntry b o r o' → (x : ℕ) → refusal full_limits b ≡ x → CanonicalMeans b o r o'
    means_by entry zero is = means_good is entry (closed_book b) refl
    means_by entry (suc x) is =
        let told = subst (Told o r o') (canonical_refused full_limits b (length o) x is) entry in
        refuses x is told.answers told.output

    pub canonical_means : CanonicalEntry b o r o' → CanonicalMeans b o r o'
    canonical_means entry = means_by entry (refusal full_limits b) refl

    pub means_canonical : CanonicalMeans b o r o' → CanonicalEntry b o r o'
    means_canonical (refuses x is answer output) =
        subst⁻¹ (Told o r o') (canonical_refused full_limits b (length o) x is) (record { answers = answer; output = output })
    means_canonical (dies good no_table answer output) =
        subst⁻¹ (Told o r o') (canonical_dead full_limits b (length o) good (none_closed_book no_table)) (record { answers = answer; output = output })
    means_canonical (needs_more good L U long_L long_U loosest many answer output) =
        subst⁻¹ (Told o r o') (canonical_many full_limits b (length o) good L U (loosest_closed_book L U long_L long_U loosest) many)
        (record { answers = answer; output = output })
    means_canonical (short good L U long_L long_U loosest few less answer output) =
        subst⁻¹ (Told o r o') (canonical_short full_limits b (length o) good L U (loosest_closed_book L U long_L long_U loosest) few less)
        (record { answers = answer; output = output })
    means_canonical (writes good L U long_L long_U loosest few fits answer output) =
        subst⁻¹ (Told o r o') (canonical_live full_limits b (length o) good L U (loosest_closed_book L U long_L long_U loosest) few fits)
        (record { answers = answer; output = output })

    -- ---- dead
    dead_means : CanonicalMeans b o r o' → r ≡ 1 → NoneClosed (slots b) (values b) (book_start b)
    dead_means (refuses x is answer output) one = absurd (omega arith)
    dead_means (dies good no_table answer output) one = no_table
    dead_means (needs_more good L U long_L long_U loosest many answer output) one = absurd (omega arith)
    dead_means (short good L U long_L long_U loosest few less answer output) one = absurd (omega arith)
    dead_means (writes good L U long_L long_U loosest few fits answer output) one = absurd (omega arith)

    pub dead_none_closed : CanonicalEntry b o r o' → r ≡ 1 → NoneClosed (slots b) (values b) (book_start b)
    dead_none_closed entry = dead_means (canonical_means entry)

    pub none_closed_dead : GoodBook full_limits b → CanonicalEntry b o r o' → NoneClosed (slots b) (values b) (book_start b) → r ≡ 1
    none_closed_dead good entry no_table = (subst (Told o r o') (canonical_dead full_limits b (length o) good (none_closed_book no_table)) entry).answers

-- ---- tables that are the same, entry by entry
-- what fills to a table fills to a closed one that is the same
filled_same : {n k : ℕ} {A B T : Table} → LooselyFilled n k A B → Closed n k T → Within (size n k) B T → Within (size n k) T B → LooselyFilled n k A T
filled_same loosely closed to from =
    record {
      rules = closed_rules closed;
      within = within_trans loosely.within to;
      loosest = λ S rules inside. within_trans from (loosely.loosest S rules inside);
    }

-- so it does to either of two loosest closed tables
loosest_filled : {n k : ℕ} {A S B T : Table} → Loosest n k S B → Loosest n k S T → LooselyFilled n k A B → LooselyFilled n k A T
loosest_filled {B} {T} one other loosely =
    filled_same loosely other.closed (one.loosest T other.closed other.within) (other.loosest B one.closed one.within)

-- ---- the answer 0
record Answered (b o o' : List ℕ) : Type 0 where
  lowers : List ℕ
  uppers : List ℕ
  good : GoodBook full_limits b
  closes : closed_book b ≡ some (lowers, uppers)
  few : length (book_rows b (view lowers uppers)) ≤ 1024
  long : book_length o' ≡ length (canonical_book b (view lowers uppers))
  front : front_book o' ≡ canonical_book b (view lowers uppers)
  behind : drop (book_length o') o' ≡ drop (book_length o') o

answered_of : (b o o' : List ℕ) → CanonicalMeans b o 0 o' → Answered b o o'
answered_of b o o' (refuses x is answer output) = absurd (omega arith)
answered_of b o o' (dies good no_table answer output) = absurd (omega arith)
answered_of b o o' (needs_more good L U long_L long_U loosest many answer output) = absurd (omega arith)
answered_of b o o' (short good L U long_L long_U loosest few less answer output) = absurd (omega arith)
answered_of b o o' (writes good L U long_L long_U loosest few fits answer output) =
    let c = canonical_book b (view L U) in
    let closes = loosest_closed_book b L U long_L long_U loosest in
    let long : book_length o' ≡ length c =
    ap (λ (l : List ℕ). book_length l) output ∙ Laws.canonical_book_length full_limits full_limits_fit b good L U closes few (drop (length c) o)
    in
    record {
      lowers = L;
      uppers = U;
      good = good;
      closes = closes;
      few = few;
      long = long;
      front = ap (λ (m : ℕ). take m o') long ∙ ap (take (length c)) output ∙ take-append_seam c (drop (length c) o);
      behind =
          ap (λ (m : ℕ). drop m o') long ∙ ap (drop (length c)) output ∙ drop_at c (drop (length c) o) (length c) refl ∙ ap (λ (m : ℕ). drop m o) (sym long);
    }

module _ (b : List ℕ) (good : GoodBook full_limits b) (L U : List ℕ) (closes : closed_book b ≡ some (L, U)) (few : length (book_rows b (view L U)) ≤ 1024) where
  abbrev c : List ℕ
  c = canonical_book b (view L U)

  loosest : Loosest (slots b) (values b) (book_start b) (view L U)
  loosest = closed_book_loosest b L U closes

  book_same : SameBook b c
  book_same =
      record {
        good = Laws.canonical_good full_limits full_limits_fit b good L U closes few;
        parts =
            record {
              slots_same = Laws.canonical_slots full_limits full_limits_fit b good L U closes few;
              types_same = Laws.canonical_values full_limits full_limits_fit b good L U closes few;
              byte_3_same = Laws.canonical_idle full_limits full_limits_fit b good L U closes few;
              masks_same = Laws.canonical_masks full_limits full_limits_fit b good L U closes few;
            };
        closes_same = Laws.canonical_closes full_limits full_limits_fit b good L U closes few ∙ sym closes;
        settles_same = Laws.canonical_settles full_limits full_limits_fit b good L U closes few;
        plan_to = Laws.canonical_plan full_limits full_limits_fit b good L U closes few;
        plan_from = Laws.plan_canonical full_limits full_limits_fit b good L U closes few;
      }

  rows_fill : (T : Table) → Loosest (slots b) (values b) (book_start b) T → LooselyFilled (slots b) (values b) (start_of (slots b) (values b) (rows c)) T
  rows_fill T is = loosest_filled loosest is (Laws.canonical_fills full_limits full_limits_fit b good L U closes few)

  rows_are_needed : NeededRows b c
  rows_are_needed T is rs loosely =
      Laws.canonical_needed full_limits full_limits_fit b good L U closes few rs (loosest_filled is loosest loosely)

  -- canonical of it is itself
  again_few : length (book_rows c (view L U)) ≤ 1024
  again_few =
      subst (λ (x : ℕ). x ≤ 1024)
      (sym (Laws.canonical_book_rows full_limits full_limits_fit b good L U closes few)) few

  again_entry : (q q' : List ℕ) → length c ≤ length q → q' ≡ overlay c q → CanonicalEntry c q 0 q'
  again_entry q q' fits output =
      let same = Laws.canonical_again full_limits full_limits_fit b good L U closes few in
      let long : length (canonical_book c (view L U)) ≤ length q = subst⁻¹ (λ (d : List ℕ). length d ≤ length q) same fits in
      subst⁻¹ (Told q 0 q')
      (canonical_live full_limits c (length q) (Laws.canonical_good full_limits full_limits_fit b good L U closes few) L U
      (Laws.canonical_closes full_limits full_limits_fit b good L U closes few) again_few long
      ∙ ap (λ (d : List ℕ). live d []) same)
      (record { answers = refl; output = output })

pub canonical_reads : (b : List ℕ) {o o' : List ℕ} → CanonicalEntry b o 0 o' → CanonicalReads b o o'
canonical_reads b {o} {o'} entry =
    let done = answered_of b o o' (canonical_means b entry) in
    let L = done.lowers in
    let U = done.uppers in
    record {
      same = subst⁻¹ (SameBook b) done.front (book_same b done.good L U done.closes done.few);
      fills = λ T loosest.
          subst⁻¹ (λ (c : List ℕ). LooselyFilled (slots b) (values b) (start_of (slots b) (values b) (rows c)) T) done.front
          (rows_fill b done.good L U done.closes done.few T loosest);
      needed = subst⁻¹ (NeededRows b) done.front (rows_are_needed b done.good L U done.closes done.few);
      again =
          subst⁻¹ (λ (c : List ℕ). (q q' : List ℕ) → length c ≤ length q → q' ≡ overlay c q → CanonicalEntry c q 0 q') done.front
          (again_entry b done.good L U done.closes done.few);
      behind = done.behind;
    }

-- the other entries answer of it what they do of the book
pub canonical_alike : (b : List ℕ) {o o' : List ℕ} → CanonicalEntry b o 0 o' → AnswersAlike b (front_book o')
canonical_alike b {o} {o'} entry =
    let done = answered_of b o o' (canonical_means b entry) in
    same_alike done.good (canonical_reads b entry).same

-- ---- a shortest book, in order
pub rows_in_order : (b : List ℕ) {o o' : List ℕ} → CanonicalEntry b o 0 o' → Ordered (rows (front_book o'))
rows_in_order b {o} {o'} entry =
    let done = answered_of b o o' (canonical_means b entry) in
    subst⁻¹ (λ (c : List ℕ). Ordered (rows c)) done.front
    (Laws.canonical_in_order full_limits full_limits_fit b done.good done.lowers done.uppers done.closes done.few)

pub rows_fewest : (b : List ℕ) {o o' : List ℕ} → CanonicalEntry b o 0 o' → (T : Table) → Loosest (slots b) (values b) (book_start b) T
    → (rs : List Row) → LooselyFilled (slots b) (values b) (start_of (slots b) (values b) rs) T → length (rows (front_book o')) ≤ length rs
rows_fewest b {o} {o'} entry T loosest rs loosely =
    let done = answered_of b o o' (canonical_means b entry) in
    subst⁻¹ (λ (c : List ℕ). length (rows c) ≤ length rs) done.front
    (Laws.canonical_shortest full_limits full_limits_fit b done.good done.lowers done.uppers done.closes done.few rs
    (loosest_filled loosest (closed_book_loosest b done.lowers done.uppers done.closes) loosely))

-- ---- two books of the same parts
module _ (b c : List ℕ) (parts : SameParts b c) where
  size_same : size (slots c) (values c) ≡ size (slots b) (values b)
  size_same = rw (parts.slots_same, parts.types_same)

  module _ {o o' q q' : List ℕ} (one : Answered b o o') (other : Answered c q q') where
    one_loosest : Loosest (slots b) (values b) (book_start b) (view one.lowers one.uppers)
    one_loosest = closed_book_loosest b one.lowers one.uppers one.closes

    other_loosest : Loosest (slots c) (values c) (book_start c) (view other.lowers other.uppers)
    other_loosest = closed_book_loosest c other.lowers other.uppers other.closes

    tables_of : front_book o' ≡ front_book q' → SameTables b c
    tables_of alike =
        let closed : closed_book b ≡ closed_book c =
        Laws.bytes_tables full_limits full_limits_fit b one.good one.lowers one.uppers one.closes one.few c other.good other.lowers
        other.uppers other.closes other.few (sym one.front ∙ alike ∙ other.front)
        in
        let same : ◌≡◌ {A = List ℕ × List ℕ} (one.lowers, one.uppers) (other.lowers, other.uppers) =
        some-injective (one.lowers, one.uppers) (other.lowers, other.uppers) (sym one.closes ∙ closed ∙ other.closes)
        in
        record {
          each = λ T U T_loosest U_loosest v t v<k t≤n.
              let p = place (slots b) v t in
              let inside = place_below (slots b) (values b) v t v<k t≤n in
              let inside' : p < size (slots c) (values c) = subst⁻¹ (λ (m : ℕ). p < m) size_same inside in (
                loosest_lowers T_loosest one_loosest p inside ∙ ap (λ (S : List ℕ × List ℕ). (view S.0 S.1).lower p) same
                    ∙ sym (loosest_lowers U_loosest other_loosest p inside'),
                loosest_uppers T_loosest one_loosest p inside ∙ ap (λ (S : List ℕ × List ℕ). (view S.0 S.1).upper p) same
                    ∙ sym (loosest_uppers U_loosest other_loosest p inside'),
              );
        }

    module _ (tables : SameTables b c) where
      abbrev EntrySame : ℕ → Type 0
      EntrySame p =
          ((view one.lowers one.uppers).lower p ≡ (view other.lowers other.uppers).lower p)
          × ((view one.lowers one.uppers).upper p ≡ (view other.lowers other.uppers).upper p)

      entry_same : (p : ℕ) → p < size (slots b) (values b) → EntrySame p
      entry_same p inside =
          subst EntrySame (place_of (slots b) (values b) p inside)
          (tables.each (view one.lowers one.uppers) (view other.lowers other.uppers) one_loosest other_loosest (p / (slots b + 1))
          (p % (slots b + 1)) (value_below (slots b) (values b) p inside) (prefix_upto (slots b) (values b) p inside))

      closed_same : closed_book b ≡ closed_book c
      closed_same =
          let long = closed_book_lengths b one.lowers one.uppers one.closes in
          let long' = closed_book_lengths c other.lowers other.uppers other.closes in
          let lowers : one.lowers ≡ other.lowers =
          ext_get_or 0 one.lowers other.lowers (long.0 ∙ sym (long'.0 ∙ size_same)) (λ p inside. (entry_same p (rw long.0 at inside)).0)
          in
          let uppers : one.uppers ≡ other.uppers =
          ext_get_or 0 one.uppers other.uppers (long.1 ∙ sym (long'.1 ∙ size_same)) (λ p inside. (entry_same p (rw long.1 at inside)).1)
          in
          one.closes ∙ ap₂ (λ (L U : List ℕ). some (L, U)) lowers uppers ∙ sym other.closes

      of_tables : front_book o' ≡ front_book q'
      of_tables =
          one.front
          ∙ Laws.tables_bytes b c one.lowers one.uppers other.lowers other.uppers (sym parts.slots_same) (sym parts.types_same)
          (sym parts.byte_3_same) (sym parts.masks_same) one.closes other.closes closed_same
          ∙ sym other.front

  -- document 02: "get equal bytes exactly when their closed tables are equal"
  pub alike_tables : {o o' q q' : List ℕ} → CanonicalEntry b o 0 o' → CanonicalEntry c q 0 q' → front_book o' ≡ front_book q' → SameTables b c
  alike_tables {o} {o'} {q} {q'} one other = tables_of (answered_of b o o' (canonical_means b one)) (answered_of c q q' (canonical_means c other))

  pub tables_alike : {o o' q q' : List ℕ} → CanonicalEntry b o 0 o' → CanonicalEntry c q 0 q' → SameTables b c → front_book o' ≡ front_book q'
  tables_alike {o} {o'} {q} {q'} one other = of_tables (answered_of b o o' (canonical_means b one)) (answered_of c q q' (canonical_means c other))
