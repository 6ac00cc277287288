-- The laws of `specs/Read.antt`. No contract cites this file. The ones that matter most: `counting_more`, `counting_line`, `counting_broken` (a turn of the
-- loop over the fields), `read_sound`, `read_wrong`, `read_broken` (what the code tests is what csv_model's `record_fault` says), `read_row` and `read_head`
-- (the numbers of a good record). Assumes nothing.
use mathlib.Core.Path.{◌≡◌, refl, sym, ap, subst, ◌∙◌}
use mathlib.Core.Bool.{Bool, true, false, not, ◌||◌, cond, true≢false}
use mathlib.Core.List.{List, [], ◌∷◌}
use Prim.Native.Nat.{ℕ, suc, ◌+◌, ◌≤◌, ◌<◌}
use native.Mathlib.Numerals.{add-one}
use native.Mathlib.Omega.{arith}
use lib.Dec.{eqb, lit<}
use lib.ListN.{length, drop, length-drop}
use borrow.Author.Tests.{eqb-true, not-false}
use Rattle.std.specs.Prelude.{Result, Ok, Err}
use Rattle.std.specs.Result.{IsOk}
use Rattle.std.proofs.Common.{rules}
use Rattle.answer.specs.Answer.{number_of}
use Rattle.answer.specs.declared.Refusal.{Refusal}
use Rattle.answer.specs.declared.Refusal.TheVariants.{Quoting}
use Rattle.book.specs.Refusal.{fault}
use Rattle.book.proofs.RefusalLaws.{none_of_or, none_of_or_else, fault_none}
use Rattle.csv_model.specs.declared.Figure.{Figure}
use Rattle.csv_model.specs.declared.Ending.TheVariants.{Comma, Line, Broken}
use Rattle.csv_model.specs.Csv.{Record, field, record_of}
use Rattle.csv_model.specs.Import.{bad_field, bad_fields, record_fault, said_at, row_of}
use Rattle.csv_model.proofs.CsvLaws.{field_shorter, record_comma, record_line, record_broken}
use Rattle.csv_import.specs.declared.Part.{Part}
use Rattle.csv_import.specs.Part.{Found}
use Rattle.csv_import.specs.declared.Tally.{Tally}
use Rattle.csv_import.specs.declared.Read.{Read}
use Rattle.csv_import.specs.Read.{no_fields, added, tallied, fields_fault, Kept, ReadOf, GoodOf}

-- ---- tallied
tallied_more : (t : Tally) (f : Figure) (fs : List Figure) → tallied t (f ∷ fs) ≡ tallied (added t f) fs
unfolding tallied
tallied_more t f fs = refl

tallied_none : (t : Tally) → tallied t [] ≡ t
unfolding tallied
tallied_none t = refl

tallied_count : (t : Tally) (fs : List Figure) → (tallied t fs).count ≡ t.count + length fs
unfolding tallied
tallied_count t [] = omega arith
tallied_count t (f ∷ fs) = tallied_count (added t f) fs ∙ omega arith

or_swap : (x y z : Bool) → (x || (y || z)) ≡ ((y || x) || z)
or_swap true true z = refl
or_swap true false z = refl
or_swap false true z = refl
or_swap false false z = refl

tallied_bad : (t : Tally) (fs : List Figure) → (tallied t fs).bad ≡ (bad_fields t.count fs || t.bad)
unfolding tallied bad_fields
tallied_bad t [] = refl
tallied_bad t (f ∷ fs) =
    tallied_bad (added t f) fs ∙ ap (λ (i : ℕ). bad_fields i fs || (bad_field t.count f || t.bad)) (add-one t.count)
    ∙ or_swap (bad_fields (suc t.count) fs) (bad_field t.count f) t.bad

or_none : (x : Bool) → (x || false) ≡ x
or_none true = refl
or_none false = refl

tallied_four : (fs : List Figure) → length fs ≡ 4 → (tallied no_fields fs).last ≡ row_of fs
unfolding tallied
tallied_four [] long = absurd (omega arith)
tallied_four (a ∷ []) long = absurd (omega arith)
tallied_four (a ∷ b ∷ []) long = absurd (omega arith)
tallied_four (a ∷ b ∷ d ∷ []) long = absurd (omega arith)
tallied_four (a ∷ b ∷ d ∷ e ∷ []) long = refl
tallied_four (a ∷ b ∷ d ∷ e ∷ f ∷ fs) long = absurd (omega arith)

tallied_two : (fs : List Figure) → length fs ≡ 2 → ((tallied no_fields fs).last.lower ≡ said_at fs 0) × ((tallied no_fields fs).last.upper ≡ said_at fs 1)
unfolding tallied
tallied_two [] long = absurd (omega arith)
tallied_two (a ∷ []) long = absurd (omega arith)
tallied_two (a ∷ b ∷ []) long = (refl, refl)
tallied_two (a ∷ b ∷ d ∷ fs) long = absurd (omega arith)

-- ---- a record that was read
fields_are : (x : Record) (w : ℕ) → record_fault w x ≡ 0 → length x.fields ≡ w
unfolding record_fault
fields_are x w none =
    let second = (none_of_or_else (fault 17 (not x.whole)) (fault 18 (not (eqb (length x.fields) w) || bad_fields 0 x.fields)) none).1 in
    let wrong = none_of_or (not (eqb (length x.fields) w)) (bad_fields 0 x.fields) (fault_none 18 _ (lit< tt) second) in
    eqb-true (length x.fields) w (not-false _ wrong.0)

module _ (x : Record) (text : List ℕ) (r : Read) (read : Kept x text r) where
  fields_fault_is : (w : ℕ) → fields_fault w r.tally ≡ record_fault w x
  unfolding record_fault
  fields_fault_is w =
      let count : r.tally.count ≡ length x.fields = ap (λ (t : Tally). t.count) read.tally ∙ tallied_count no_fields x.fields ∙ omega arith in
      let bad : r.tally.bad ≡ bad_fields 0 x.fields =
      ap (λ (t : Tally). t.bad) read.tally ∙ tallied_bad no_fields x.fields ∙ or_none (bad_fields 0 x.fields)
      in
      rw (read.whole, count, bad)

  -- what the test of its fields says is what refuses it
  pub read_sound : (w : ℕ) → 0 ≡ fields_fault w r.tally → GoodOf w x text (Ok r)
  read_sound w none = (read, sym (none ∙ fields_fault_is w))

  pub read_wrong : (w : ℕ) (refusal : Refusal) → number_of refusal ≡ fields_fault w r.tally → GoodOf w x text (Err refusal)
  read_wrong w refusal is = is ∙ fields_fault_is w

  pub read_row : record_fault 4 x ≡ 0 → r.tally.last ≡ row_of x.fields
  read_row none = ap (λ (t : Tally). t.last) read.tally ∙ tallied_four x.fields (fields_are x 4 none)

  pub read_head : record_fault 2 x ≡ 0 → (r.tally.last.lower ≡ said_at x.fields 0) × (r.tally.last.upper ≡ said_at x.fields 1)
  read_head none =
      let both = tallied_two x.fields (fields_are x 2 none) in
      (ap (λ (t : Tally). t.last.lower) read.tally ∙ both.0, ap (λ (t : Tally). t.last.upper) read.tally ∙ both.1)

-- a whole record is read
pub whole_read : (x : Record) (text : List ℕ) (r : Result Read Refusal) → ReadOf x text r → x.whole ≡ true → IsOk r
whole_read x text (Ok r) read whole = search rules
whole_read x text (Err refusal) read whole = absurd (true≢false (sym whole ∙ read.1))

pub kept_read : (x : Record) (text : List ℕ) {r : Result Read Refusal} {found : Read} → ReadOf x text r → r ≡ Ok found → Kept x text found
kept_read x text read is = subst (λ (r : Result Read Refusal). ReadOf x text r) is read

-- a broken record is refused, whatever it has
pub read_broken : (x : Record) (w : ℕ) (text : List ℕ) {refusal : Refusal} → (refusal ≡ Quoting) × (x.whole ≡ false) → GoodOf w x text (Err refusal)
unfolding record_fault
read_broken x w text broken = rw (broken.0, broken.1)

pub sound_whole : (x : Record) (w : ℕ) → record_fault w x ≡ 0 → x.whole ≡ true
unfolding record_fault
sound_whole x w none =
    let first = (none_of_or_else (fault 17 (not x.whole)) (fault 18 (not (eqb (length x.fields) w) || bad_fields 0 x.fields)) none).0 in
    not-false _ (fault_none 17 _ (lit< tt) first)

-- ---- the loop over the fields
-- the record from `at` with the fields tallied so far is the record from `from`
pub record Counting (text : List ℕ) (from at : ℕ) (t : Tally) : Type 0 where
  pub inside : at ≤ length text
  pub few : t.count ≤ at
  pub whole : (record_of (drop at text)).whole ≡ (record_of (drop from text)).whole
  pub tally : tallied t (record_of (drop at text)).fields ≡ tallied no_fields (record_of (drop from text)).fields
  pub rest : (record_of (drop at text)).rest ≡ (record_of (drop from text)).rest

module _ {text : List ℕ} {from at : ℕ} {t : Tally} {p : Part} (so_far : Counting text from at t) (found : Found (field (drop at text)) text p) where
  ends_comma : p.last ≡ false → (field (drop at text)).ending ≡ Comma
  ends_comma more = found.ending ∙ ap (λ (b : Bool). cond b Line Comma) more

  -- behind a comma the place is further on
  pub further : p.last ≡ false → at < p.next
  further more =
      let less = (field_shorter (drop at text)).comma (ends_comma more) in
      let inside = so_far.inside in
      omega (arith, length-drop at text, length-drop p.next text, ap length found.rest)

  pub counting_more : {t' : Tally} → p.last ≡ false → t' ≡ added t p.figure → Counting text from p.next t'
  counting_more ends more =
      let here = record_comma (drop at text) (ends_comma ends) in
      let on : record_of (field (drop at text)).rest ≡ record_of (drop p.next text) = ap record_of (sym found.rest) in
      let fields : tallied t (record_of (drop at text)).fields ≡ tallied (added t p.figure) (record_of (drop p.next text)).fields =
      ap (λ (r : Record). tallied t r.fields) here ∙ tallied_more t (field (drop at text)).figure (record_of (field (drop at text)).rest).fields
      ∙ ap (λ (f : Figure). tallied (added t f) (record_of (field (drop at text)).rest).fields) (sym found.figure)
      ∙ ap (λ (r : Record). tallied (added t p.figure) r.fields) on
      in
      record {
        inside = found.inside;
        few = omega (arith, ap (λ (x : Tally). x.count) more, so_far.few, further ends);
        whole = sym (ap (λ (r : Record). r.whole) on) ∙ sym (ap (λ (r : Record). r.whole) here) ∙ so_far.whole;
        tally = ap (λ (x : Tally). tallied x (record_of (drop p.next text)).fields) more ∙ sym fields ∙ so_far.tally;
        rest = sym (ap (λ (r : Record). r.rest) on) ∙ sym (ap (λ (r : Record). r.rest) here) ∙ so_far.rest;
      }

  pub counting_line : {t' : Tally} → p.last ≡ true → t' ≡ added t p.figure
      → ReadOf (record_of (drop from text)) text (Ok (record { tally = t'; next = p.next }))
  counting_line ends more =
      let here = record_line (drop at text) (found.ending ∙ ap (λ (b : Bool). cond b Line Comma) ends) in
      record {
        whole = sym so_far.whole ∙ ap (λ (r : Record). r.whole) here;
        tally =
            more ∙ ap (added t) found.figure ∙ sym (tallied_none (added t (field (drop at text)).figure))
            ∙ sym (tallied_more t (field (drop at text)).figure []) ∙ sym (ap (λ (r : Record). tallied t r.fields) here) ∙ so_far.tally;
        rest = found.rest ∙ sym (ap (λ (r : Record). r.rest) here) ∙ so_far.rest;
        inside = found.inside;
      }

pub counting_broken : {text : List ℕ} {from at : ℕ} {t : Tally} {refusal : Refusal} → Counting text from at t
    → (refusal ≡ Quoting) × ((field (drop at text)).ending ≡ Broken) → ReadOf (record_of (drop from text)) text (Err refusal)
counting_broken {text = text} {at = at} so_far broken =
    (broken.0, sym so_far.whole ∙ ap (λ (r : Record). r.whole) (record_broken (drop at text) broken.1))
