-- The laws of `specs/Meaning.antt`: `csv_fault` is the number that document 02 asks (`csv_means`), no other is (`means_csv`), and the book of an accepted
-- text is the one that its records say (`import_reads`). No contract cites this file.
--   Sorted w s    the records of s are good; or good ones lead to text that begins with no record; or to a record that is not good (`sorted`)
-- Assumes nothing.
use mathlib.Core.Path.{◌≡◌, refl, sym, ap, subst, ◌∙◌}
use mathlib.Core.Logic.{inl, inr, ⊎_elim, dite}
use mathlib.Core.Bool.{Bool, true, false, not, ◌&&◌, ◌||◌, cond}
use mathlib.Core.List.{List, [], ◌∷◌}
use Prim.Native.Nat.{ℕ, zero, suc, ◌+◌, ◌*◌, ◌≤◌, ◌<◌}
use native.Mathlib.Omega.{arith}
use native.Mathlib.Decide.{dec_lt}
use lib.Dec.{eqb, ltb}
use lib.ListN.{length, get_or}
use borrow.Author.Tests.{eqb-true, eq-eqb, ne_eqb, not-false, lt-ltb, le-ltb}
use Rattle.book.specs.declared.Limits.{Limits}
use Rattle.book.specs.declared.Row.{Row}
use Rattle.book.specs.Layout.{slots, rows}
use Rattle.book.specs.Refusal.{fault, ◌or_else◌, beyond}
use Rattle.book.proofs.RefusalLaws.{none_of_or, both_of_and, or_else_none}
use Rattle.closing_model.specs.Start.{start_lowers, start_uppers}
use Rattle.closing_model.specs.Closing.{closing}
use Rattle.book_bytes.specs.BookBytes.{book_bytes, LimitsFit, full_masks}
use Rattle.csv_model.specs.Rfc.{RecordAt, TextOf, last, followed, Unreadable}
use Rattle.csv_model.specs.Csv.{figure_from, figure_of, figures, Record, broken_record, record_of, records, later}
use Rattle.csv_model.specs.Import.{is_number, bad_field, bad_fields, record_fault, records_fault, said, said_at}
use Rattle.csv_model.specs.Import.{slots_of, values_of, row_of, rows_of_all, rows_of}
use Rattle.csv_model.specs.Ordered.{rows_fault, orders_fault}
use Rattle.csv_model.specs.Import.{records_refusal, csv_fault, book_of}
use Rattle.csv_model.specs.Meaning.{decimal, IsNumber, GoodField, GoodFields, GoodRecord, GoodRecords, Past, here, behind, said_by, said_inside, slots_in}
use Rattle.csv_model.specs.Meaning.{types_in, row_in, rows_in_all, rows_in, order_book, CsvMeans, breaks, wrong, outside, row_refused, short, accepts}
use Rattle.csv_model.specs.Meaning.{Imported}
use Rattle.csv_model.proofs.CsvLaws.{record_shorter, records_first, later_none, later_some}
use Rattle.csv_model.proofs.GrammarLaws.{bool_cases, apart, record_read, record_grammar, record_unreadable, unreadable_record}
use Rattle.csv_model.proofs.FigureLaws.{digits_number, number_digits, digits_counted, empty_content}
use Rattle.csv_model.proofs.ImportLaws.{Orderly, orders_accepted, book_good, book_says, slots_is, masks_is, rows_is}

-- ---- GoodField
good_field : (i : ℕ) (c : List ℕ) → GoodField i c → bad_field i (figure_of c) ≡ false
unfolding figure_from
good_field i c =
    ⊎_elim (λ number. ap (λ (t : Bool). not t && not (eqb i 3 && eqb (figure_of c).count 0)) (digits_counted c number))
    (λ empty.
    ap (λ (j : ℕ). bad_field j (figure_of c)) empty.0 ∙ ap (λ (d : List ℕ). bad_field 3 (figure_of d)) empty.1)

field_good : (i : ℕ) (c : List ℕ) → bad_field i (figure_of c) ≡ false → GoodField i c
field_good i c good =
    ⊎_elim (λ number. inl (number_digits c number))
    (λ none.
    let place = ap (λ (t : Bool). not t && not (eqb i 3 && eqb (figure_of c).count 0)) none in
    let both = both_of_and (eqb i 3) (eqb (figure_of c).count 0) (not-false _ (sym place ∙ good)) in
    inr (eqb-true i 3 both.0, empty_content c (eqb-true (figure_of c).count 0 both.1)))
    (bool_cases (is_number (figure_of c)))

good_fields : (i : ℕ) (cs : List (List ℕ)) → GoodFields i cs → bad_fields i (figures cs) ≡ false
unfolding bad_fields figures
good_fields i [] good = refl
good_fields i (c ∷ cs) good = ap (λ (t : Bool). t || bad_fields (suc i) (figures cs)) (good_field i c good.0) ∙ good_fields (suc i) cs good.1

fields_good : (i : ℕ) (cs : List (List ℕ)) → bad_fields i (figures cs) ≡ false → GoodFields i cs
unfolding bad_fields figures
fields_good i [] none = tt
fields_good i (c ∷ cs) none =
    let both = none_of_or (bad_field i (figure_of c)) (bad_fields (suc i) (figures cs)) none in
    (field_good i c both.0, fields_good (suc i) cs both.1)

-- ---- GoodRecord
length_figures : (cs : List (List ℕ)) → length (figures cs) ≡ length cs
unfolding figures
length_figures [] = refl
length_figures (c ∷ cs) = ap suc (length_figures cs)

-- what 18 asks
abbrev amiss : ℕ → List (List ℕ) → Bool
amiss w cs = not (eqb (length (figures cs)) w) || bad_fields 0 (figures cs)

good_record : (w : ℕ) (cs : List (List ℕ)) → GoodRecord w cs → amiss w cs ≡ false
good_record w cs good = rw (eq-eqb (length (figures cs)) w (length_figures cs ∙ good.count)) (good_fields 0 cs good.fields)

record_good : (w : ℕ) (cs : List (List ℕ)) → amiss w cs ≡ false → GoodRecord w cs
record_good w cs none =
    let both = none_of_or (not (eqb (length (figures cs)) w)) (bad_fields 0 (figures cs)) none in
    record { count = sym (length_figures cs) ∙ eqb-true (length (figures cs)) w (not-false _ both.0); fields = fields_good 0 cs both.1 }

-- ---- record_fault
read_fault : (w : ℕ) {s : List ℕ} {cs : List (List ℕ)} {r : List ℕ} → RecordAt s cs r → record_fault w (record_of s) ≡ fault 18 (amiss w cs)
unfolding record_fault
read_fault w at = ap (record_fault w) (record_read at)

fault_good : (w : ℕ) {s : List ℕ} {cs : List (List ℕ)} {r : List ℕ} → RecordAt s cs r → GoodRecord w cs → record_fault w (record_of s) ≡ 0
fault_good w {cs = cs} at good = read_fault w at ∙ ap (fault 18) (good_record w cs good)

fault_wrong : (w : ℕ) {s : List ℕ} {cs : List (List ℕ)} {r : List ℕ} → RecordAt s cs r → (GoodRecord w cs → ⊥) → record_fault w (record_of s) ≡ 18
fault_wrong w {cs = cs} at not_Good =
    read_fault w at ∙ ⊎_elim (λ is. ap (fault 18) is) (λ none. absurd (not_Good (record_good w cs none))) (bool_cases (amiss w cs))

fault_broken : (w : ℕ) (s : List ℕ) → Unreadable s → record_fault w (record_of s) ≡ 17
unfolding record_fault
fault_broken w s none = rw (record_unreadable s none) refl

-- ---- records_fault
faults : (w : ℕ) (s : List ℕ) → records_fault w (records s) ≡ record_fault w (record_of s) or_else records_fault 4 (later (record_of s).rest)
unfolding records_fault
faults w s = ap (records_fault w) (records_first s)

later_records : (b : ℕ) (t : List ℕ) → later (b ∷ t) ≡ records (b ∷ t)
later_records b t = later_some (b ∷ t) (omega arith) ∙ sym (records_first (b ∷ t))

-- behind a good record
faults_behind : (w : ℕ) {s : List ℕ} {cs : List (List ℕ)} {r : List ℕ} → RecordAt s cs r → GoodRecord w cs
    → records_fault w (records s) ≡ records_fault 4 (later r)
faults_behind w {s} {cs} {r} at good =
    faults w s ∙ or_else_none (record_fault w (record_of s)) _ (fault_good w at good) ∙ ap (λ (x : Record). records_fault 4 (later x.rest)) (record_read at)

past_fault : {w : ℕ} {s : List ℕ} {w' : ℕ} {t : List ℕ} → Past w s w' t → records_fault w (records s) ≡ records_fault w' (records t)
past_fault (here w s) = refl
past_fault (behind w s cs b t w' u at good past) = faults_behind w at good ∙ ap (records_fault 4) (later_records b t) ∙ past_fault past

text_sound : {s : List ℕ} {rs : List (List (List ℕ))} → TextOf s rs → (w : ℕ) → GoodRecords w rs → records_fault w (records s) ≡ 0
unfolding records_fault
text_sound (last s cs at) w good = faults_behind w at good.0 ∙ ap (records_fault 4) (later_none [] refl)
text_sound (followed s cs b t rs at rest) w good = faults_behind w at good.0 ∙ ap (records_fault 4) (later_records b t) ∙ text_sound rest 4 good.1

-- ---- what the records say
none_said : said (figure_of []) ≡ 65535
unfolding figure_from
none_said = refl

number_said : (c : List ℕ) → IsNumber c → said (figure_of c) ≡ said_by c
number_said [] number = absurd (let some = number.some in omega arith)
number_said (b ∷ c) number =
    ap said (digits_number (b ∷ c) number.digits number.few)
    ∙ ap (λ (t : Bool). cond t 65535 (decimal (b ∷ c))) (ne_eqb (length (b ∷ c)) 0 (λ empty. omega arith))

said_by_lem : (i : ℕ) (c : List ℕ) → GoodField i c → said (figure_of c) ≡ said_by c
said_by_lem i c = ⊎_elim (number_said c) (λ empty. ap (λ (d : List ℕ). said (figure_of d)) empty.1 ∙ none_said ∙ ap said_by (sym empty.1))

said_in : (j : ℕ) (cs : List (List ℕ)) → GoodFields j cs → (i : ℕ) → said_at (figures cs) i ≡ said_inside cs i
unfolding figures
said_in j [] good i = refl
said_in j (c ∷ cs) good zero = said_by_lem j c good.0
said_in j (c ∷ cs) good (suc i) = said_in (suc j) cs good.1 i

-- of a record that was read
module _ (w : ℕ) {s : List ℕ} {cs : List (List ℕ)} {r : List ℕ} (at : RecordAt s cs r) (good : GoodRecord w cs) where
  at_said : (i : ℕ) → said_at (record_of s).fields i ≡ said_inside cs i
  at_said i = ap (λ (x : Record). said_at x.fields i) (record_read at) ∙ said_in 0 cs good.fields i

  at_row : row_of (record_of s).fields ≡ row_in cs
  at_row i = record { value = at_said 0 i; reserved = 0; end = at_said 1 i; lower = at_said 2 i; upper = at_said 3 i }

  rows_first : rows_of_all (records s) ≡ row_in cs ∷ rows_of_all (later r)
  unfolding rows_of_all
  rows_first =
      ap rows_of_all (records_first s) ∙ ap (λ (row : Row). row ∷ rows_of_all (later (record_of s).rest)) at_row
      ∙ ap (λ (x : Record). row_in cs ∷ rows_of_all (later x.rest)) (record_read at)

  first_said : (i : ℕ) → said_at (get_or (records s) 0 broken_record).fields i ≡ said_inside cs i
  first_said i = ap (λ (l : List Record). said_at (get_or l 0 broken_record).fields i) (records_first s) ∙ at_said i

rows_none : rows_of_all (later []) ≡ []
unfolding rows_of_all
rows_none = ap rows_of_all (later_none [] refl)

-- the rows of all records of a text, and of all but the first
text_all : {s : List ℕ} {rs : List (List (List ℕ))} → TextOf s rs → (w : ℕ) → GoodRecords w rs → rows_of_all (records s) ≡ rows_in_all rs
unfolding rows_in_all
text_all (last s cs at) w good = rows_first w at good.0 ∙ ap (λ (l : List Row). row_in cs ∷ l) rows_none
text_all (followed s cs b t rs at rest) w good =
    rows_first w at good.0 ∙ ap (λ (l : List Row). row_in cs ∷ l) (ap rows_of_all (later_records b t) ∙ text_all rest 4 good.1)

rows_behind : {s : List ℕ} {cs : List (List ℕ)} {r : List ℕ} → RecordAt s cs r → rows_of (records s) ≡ rows_of_all (later r)
rows_behind {s} at = ap (λ (l : List Record). rows_of l) (records_first s) ∙ ap (λ (x : Record). rows_of_all (later x.rest)) (record_read at)

text_rows : {s : List ℕ} {rs : List (List (List ℕ))} → TextOf s rs → (w : ℕ) → GoodRecords w rs → rows_of (records s) ≡ rows_in rs
unfolding rows_in_all
text_rows (last s cs at) w good = rows_behind at ∙ rows_none
text_rows (followed s cs b t rs at rest) w good = rows_behind at ∙ ap rows_of_all (later_records b t) ∙ text_all rest 4 good.1

text_said : {s : List ℕ} {rs : List (List (List ℕ))} → TextOf s rs → (w : ℕ) → GoodRecords w rs → (i : ℕ)
    → said_at (get_or (records s) 0 broken_record).fields i ≡ said_inside (get_or rs 0 []) i
text_said (last s cs at) w good i = first_said w at good.0 i
text_said (followed s cs b t rs at rest) w good i = first_said w at good.0 i

module _ {s : List ℕ} {rs : List (List (List ℕ))} (text : TextOf s rs) (good : GoodRecords 2 rs) where
  -- a function of slots, types and rows has one value, by the reader and by the grammar
  says_same : {A : Type 0} (f : ℕ → ℕ → List Row → A)
      → f (slots_of (records s)) (values_of (records s)) (rows_of (records s)) ≡ f (slots_in rs) (types_in rs) (rows_in rs)
  says_same f =
      ap (λ (n : ℕ). f n (values_of (records s)) (rows_of (records s))) (text_said text 2 good 0)
      ∙ ap (λ (k : ℕ). f (slots_in rs) k (rows_of (records s))) (text_said text 2 good 1) ∙ ap (f (slots_in rs) (types_in rs)) (text_rows text 2 good)

  text_number : (limits : Limits) (len : ℕ) → csv_fault limits s len ≡ orders_fault limits (slots_in rs) (types_in rs) (rows_in rs) len
  unfolding records_refusal
  text_number limits len =
      or_else_none (records_fault 2 (records s)) _ (text_sound text 2 good) ∙ says_same (λ n k rows. orders_fault limits n k rows len)

  pub text_book : book_of s ≡ order_book rs
  unfolding book_of
  text_book = says_same (λ n k rows. book_bytes n k 0 (full_masks n k) rows)

-- ---- Sorted
data Sorted (w : ℕ) (s : List ℕ) : Type 0 where
  good : (rs : List (List (List ℕ))) → TextOf s rs → GoodRecords w rs → Sorted w s
  broken : (w' : ℕ) (t : List ℕ) → Past w s w' t → Unreadable t → Sorted w s
  bad : (w' : ℕ) (t : List ℕ) (cs : List (List ℕ)) (r : List ℕ) → Past w s w' t → RecordAt t cs r → (GoodRecord w' cs → ⊥) → Sorted w s

sorted_behind : (w : ℕ) (s : List ℕ) (cs : List (List ℕ)) (b : ℕ) (t : List ℕ) → RecordAt s cs (b ∷ t) → GoodRecord w cs → Sorted 4 (b ∷ t) → Sorted w s
sorted_behind w s cs b t at is (good rs text all) = good (cs ∷ rs) (followed s cs b t rs at text) (is, all)
sorted_behind w s cs b t at is (broken w' u past none) = broken w' u (behind w s cs b t w' u at is past) none
sorted_behind w s cs b t at is (bad w' u ds r past wrong_at not_Good) = bad w' u ds r (behind w s cs b t w' u at is past) wrong_at not_Good

-- the text behind a record, by what is left
sorted_rest : (w : ℕ) (s : List ℕ) (cs : List (List ℕ)) (r : List ℕ) → RecordAt s cs r → GoodRecord w cs → (0 < length r → Sorted 4 r) → Sorted w s
sorted_rest w s cs [] at is rest = good (cs ∷ []) (last s cs at) (is, tt)
sorted_rest w s cs (b ∷ t) at is rest = sorted_behind w s cs b t at is (rest (omega arith))

sorted_within : (most w : ℕ) (s : List ℕ) → length s < most → Sorted w s
sorted_within zero w s few = absurd (omega arith)
sorted_within (suc most) w s few =
    ⊎_elim
    (λ whole.
    let read = record_grammar s whole in
    ⊎_elim (λ wrong. bad w s read.contents (record_of s).rest (here w s) read.at (λ is. apart wrong (good_record w read.contents is)))
    (λ none.
    sorted_rest w s read.contents (record_of s).rest read.at (record_good w read.contents none)
    (λ some. let less = record_shorter s some in sorted_within most 4 (record_of s).rest (omega arith)))
    (bool_cases (amiss w read.contents)))
    (λ none. broken w s (here w s) (unreadable_record s none)) (bool_cases (record_of s).whole)

sorted : (w : ℕ) (s : List ℕ) → Sorted w s
sorted w s = sorted_within (suc (length s)) w s (omega arith)

-- ---- CsvMeans
first_fault : (limits : Limits) (s : List ℕ) (len x : ℕ) → records_fault 2 (records s) ≡ suc x → csv_fault limits s len ≡ suc x
unfolding records_refusal
first_fault limits s len x is = ap (λ (y : ℕ). y or_else orders_fault limits (slots_of (records s)) (values_of (records s)) (rows_of (records s)) len) is

broken_fault : (limits : Limits) (s : List ℕ) (len w : ℕ) (t : List ℕ) → Past 2 s w t → Unreadable t → csv_fault limits s len ≡ 17
broken_fault limits s len w t past none =
    first_fault limits s len 16 (past_fault past ∙ faults w t ∙ ap (λ (y : ℕ). y or_else records_fault 4 (later (record_of t).rest)) (fault_broken w t none))

wrong_fault : (limits : Limits) (s : List ℕ) (len w : ℕ) (t : List ℕ) {cs : List (List ℕ)} {r : List ℕ} → Past 2 s w t → RecordAt t cs r
    → (GoodRecord w cs → ⊥) → csv_fault limits s len ≡ 18
wrong_fault limits s len w t past at not_Good =
    first_fault limits s len 17
    (past_fault past ∙ faults w t ∙ ap (λ (y : ℕ). y or_else records_fault 4 (later (record_of t).rest)) (fault_wrong w at not_Good))

module _ (limits : Limits) (len : ℕ) {s : List ℕ} {rs : List (List (List ℕ))} (text : TextOf s rs) (good : GoodRecords 2 rs) where
  abbrev n : ℕ
  n = slots_in rs

  abbrev k : ℕ
  k = types_in rs

  abbrev ordered : List Row
  ordered = rows_in rs

  text_outside : beyond limits n k (length ordered) ≡ true → csv_fault limits s len ≡ 2
  text_outside out =
      text_number text good limits len
      ∙ ap (λ (t : Bool). fault 2 t or_else rows_fault n k ordered or_else fault 9 (ltb len (12 + 4 * n + 8 * length ordered))) out

  module _ (in_range : beyond limits n k (length ordered) ≡ false) where
    past_range : csv_fault limits s len ≡ rows_fault n k ordered or_else fault 9 (ltb len (12 + 4 * n + 8 * length ordered))
    past_range =
        text_number text good limits len
        ∙ ap (λ (t : Bool). fault 2 t or_else rows_fault n k ordered or_else fault 9 (ltb len (12 + 4 * n + 8 * length ordered))) in_range

    text_row : (x : ℕ) → rows_fault n k ordered ≡ suc x → csv_fault limits s len ≡ suc x
    text_row x is = past_range ∙ ap (λ (y : ℕ). y or_else fault 9 (ltb len (12 + 4 * n + 8 * length ordered))) is

    module _ (rows_good : rows_fault n k ordered ≡ 0) where
      past_rows : csv_fault limits s len ≡ fault 9 (ltb len (12 + 4 * n + 8 * length ordered))
      past_rows = past_range ∙ or_else_none (rows_fault n k ordered) _ rows_good

      text_short : len < 12 + 4 * n + 8 * length ordered → csv_fault limits s len ≡ 9
      text_short less = past_rows ∙ ap (fault 9) (lt-ltb len _ less)

      text_accepted : 12 + 4 * n + 8 * length ordered ≤ len → csv_fault limits s len ≡ 0
      text_accepted long = past_rows ∙ ap (fault 9) (le-ltb len _ long)

  abbrev Means : ℕ → Type 0
  Means x = CsvMeans limits s len x

  means_rows : beyond limits n k (length ordered) ≡ false → (x : ℕ) → rows_fault n k ordered ≡ x → Means (csv_fault limits s len)
  means_rows in_range zero is =
      dite (dec_lt len (12 + 4 * n + 8 * length ordered))
      (λ less. subst Means (sym (text_short in_range is less)) (short rs text good in_range is less))
      (λ long. subst Means (sym (text_accepted in_range is (omega arith))) (accepts rs text good in_range is (omega arith)))
  means_rows in_range (suc x) is = subst Means (sym (text_row in_range x is)) (row_refused rs text good in_range x is)

  means_text : Means (csv_fault limits s len)
  means_text =
      ⊎_elim (λ out. subst Means (sym (text_outside out)) (outside rs text good out)) (λ in_range. means_rows in_range (rows_fault n k ordered) refl)
      (bool_cases (beyond limits n k (length ordered)))

means_sorted : (limits : Limits) (s : List ℕ) (len : ℕ) → Sorted 2 s → CsvMeans limits s len (csv_fault limits s len)
means_sorted limits s len (good rs text all) = means_text limits len text all
means_sorted limits s len (broken w t past none) = subst (CsvMeans limits s len) (sym (broken_fault limits s len w t past none)) (breaks w t past none)
means_sorted limits s len (bad w t cs r past at not_Good) =
    subst (CsvMeans limits s len) (sym (wrong_fault limits s len w t past at not_Good)) (wrong w t cs r past at not_Good)

-- the number is one that document 02 asks
pub csv_means : (limits : Limits) (s : List ℕ) (len : ℕ) → CsvMeans limits s len (csv_fault limits s len)
csv_means limits s len = means_sorted limits s len (sorted 2 s)

-- and there is no other
pub means_csv : {limits : Limits} {s : List ℕ} {len x : ℕ} → CsvMeans limits s len x → x ≡ csv_fault limits s len
means_csv {limits} {s} {len} (breaks w t past none) = sym (broken_fault limits s len w t past none)
means_csv {limits} {s} {len} (wrong w t cs r past at not_Good) = sym (wrong_fault limits s len w t past at not_Good)
means_csv {limits} {s} {len} (outside rs text all out) = sym (text_outside limits len text all out)
means_csv {limits} {s} {len} (row_refused rs text all in_range x is) = sym (text_row limits len text all in_range x is)
means_csv {limits} {s} {len} (short rs text all in_range is less) = sym (text_short limits len text all in_range is less)
means_csv {limits} {s} {len} (accepts rs text all in_range is long) = sym (text_accepted limits len text all in_range is long)

-- ---- Imported
order_imported : (limits : Limits) (rs : List (List (List ℕ))) → LimitsFit limits → Orderly limits (slots_in rs) (types_in rs) (rows_in rs)
    → Imported limits rs (order_book rs)
order_imported limits rs small ok =
    let n = slots_in rs in
    let k = types_in rs in
    let b = order_book rs in
    let slots_are = slots_is limits n k (rows_in rs) small ok in
    let rows_are = rows_is limits n k (rows_in rs) small ok in
    let lowers : start_lowers (slots b) k (rows b) ≡ start_lowers n k (rows_in rs) =
    ap (λ (m : ℕ). start_lowers m k (rows b)) slots_are ∙ ap (start_lowers n k) rows_are
    in
    let uppers : start_uppers (slots b) k (rows b) ≡ start_uppers n k (rows_in rs) =
    ap (λ (m : ℕ). start_uppers m k (rows b)) slots_are ∙ ap (start_uppers n k) rows_are
    in
    record {
      good = book_good limits n k (rows_in rs) small ok;
      slots_are = slots_are;
      types_are = refl;
      byte_3 = refl;
      masks_are = masks_is limits n k (rows_in rs) small ok;
      rows_are = rows_are;
      length_is = book_says limits n k (rows_in rs) small ok;
      lowers_start = lowers;
      uppers_start = uppers;
      closed =
          ap (λ (m : ℕ). closing m k (start_lowers (slots b) k (rows b)) (start_uppers (slots b) k (rows b))) slots_are
          ∙ ap (λ (L : List ℕ). closing n k L (start_uppers (slots b) k (rows b))) lowers ∙ ap (closing n k (start_lowers n k (rows_in rs))) uppers;
    }

-- the book of an accepted text is the one that its records say
pub record Reads (limits : Limits) (s : List ℕ) : Type 0 where
  pub records_are : List (List (List ℕ))
  pub text : TextOf s records_are
  pub good : GoodRecords 2 records_are
  pub book : book_of s ≡ order_book records_are
  pub imported : Imported limits records_are (book_of s)

accepted_reads : (limits : Limits) (s : List ℕ) (len : ℕ) → LimitsFit limits → csv_fault limits s len ≡ 0 → CsvMeans limits s len 0 → Reads limits s
accepted_reads limits s len small none (accepts rs text all in_range is long) =
    let ok = orders_accepted limits (slots_in rs) (types_in rs) (rows_in rs) len (sym (text_number text all limits len) ∙ none) in
    record {
      records_are = rs;
      text = text;
      good = all;
      book = text_book text all;
      imported = subst (Imported limits rs) (sym (text_book text all)) (order_imported limits rs small ok.0);
    }

pub import_reads : (limits : Limits) (s : List ℕ) (len : ℕ) → LimitsFit limits → csv_fault limits s len ≡ 0 → Reads limits s
import_reads limits s len small none = accepted_reads limits s len small none (subst (CsvMeans limits s len) none (csv_means limits s len))
