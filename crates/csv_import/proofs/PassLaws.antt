-- A turn of each pass over the later records. `later_read`: the later records from a place are the one that was read there, then those from the place behind
-- it; `next_further`: that place is further on. Then the invariant of each pass, how it starts, one turn and the end. No contract cites this file.
-- Assumes nothing.
use mathlib.Core.Path.{◌≡◌, refl, sym, ap, subst, ◌∙◌}
use mathlib.Core.Logic.{dite}
use mathlib.Core.List.{List, [], ◌∷◌, ◌++◌}
use Prim.Native.Nat.{ℕ, zero, suc, ◌+◌, ◌*◌, ◌≤◌, ◌<◌}
use native.Mathlib.Decide.{dec_lt}
use native.Mathlib.Omega.{arith}
use lib.ListN.{length, drop, length-drop}
use lib.Seq.{sets, length-sets}
use mathlib.Core.Bool.{true}
use Rattle.std.specs.Prelude.{Result, Ok, Err}
use Rattle.answer.specs.declared.Refusal.{Refusal}
use Rattle.book.specs.declared.Row.{Row}
use Rattle.book.specs.Refusal.{◌or_else◌, row_fault, number_of}
use Rattle.book.proofs.RefusalLaws.{or_else_none, or_else_some, none_of_or_else, some_number}
use Rattle.book.specs.Lists.{All}
use Rattle.elements.proofs.ElementsLaws.{sets_append}
use Rattle.book_bytes.specs.BookBytes.{row_bytes, rows_bytes, RowFits}
use Rattle.csv_model.specs.Csv.{Record, record_of, later}
use Rattle.csv_model.specs.Ordered.{rows_fault}
use Rattle.csv_model.specs.Import.{record_fault, records_fault, row_of, rows_of_all}
use Rattle.csv_model.proofs.CsvLaws.{record_shorter, later_none, later_some}
use Rattle.csv_import.specs.declared.Read.{Read}
use Rattle.csv_import.specs.Read.{Kept, GoodOf}
use Rattle.csv_import.proofs.RecordLaws.{read_row, sound_whole}
use Rattle.csv_import.specs.Passes.{LaterOf}

-- ---- lists of records
records_fault_more : (w : ℕ) (r : Record) (rs : List Record) → records_fault w (r ∷ rs) ≡ record_fault w r or_else records_fault 4 rs
unfolding records_fault
records_fault_more w r rs = refl

records_fault_none : (w : ℕ) → records_fault w [] ≡ 0
unfolding records_fault
records_fault_none w = refl

rows_more : (r : Record) (rs : List Record) → rows_of_all (r ∷ rs) ≡ row_of r.fields ∷ rows_of_all rs
unfolding rows_of_all
rows_more r rs = refl

rows_none : rows_of_all [] ≡ []
unfolding rows_of_all
rows_none = refl

rows_fault_more : (n k : ℕ) (row : Row) (rows : List Row) → rows_fault n k (row ∷ rows) ≡ row_fault n k row or_else rows_fault n k rows
unfolding rows_fault
rows_fault_more n k row rows = refl

rows_fault_none : (n k : ℕ) → rows_fault n k [] ≡ 0
unfolding rows_fault
rows_fault_none n k = refl

bytes_more : (row : Row) (rows : List Row) → rows_bytes (row ∷ rows) ≡ row_bytes row ++ rows_bytes rows
unfolding rows_bytes
bytes_more row rows = refl

bytes_none : rows_bytes [] ≡ []
unfolding rows_bytes
bytes_none = refl

-- ---- the records from a place
abbrev pub from_place : List ℕ → ℕ → List Record
from_place text at = later (drop at text)

pub later_end : (text : List ℕ) (at : ℕ) → length text ≤ at → from_place text at ≡ []
later_end text at end = later_none (drop at text) (omega (arith, length-drop at text))

-- the first of them, and its fault
fault_first : (text : List ℕ) (at : ℕ) → at < length text
    → records_fault 4 (from_place text at) ≡ record_fault 4 (record_of (drop at text)) or_else records_fault 4 (later (record_of (drop at text)).rest)
fault_first text at inside =
    ap (records_fault 4) (later_some (drop at text) (omega (arith, length-drop at text)))
    ∙ records_fault_more 4 (record_of (drop at text)) (later (record_of (drop at text)).rest)

-- where the records have no fault, the first has none
sound_first : (text : List ℕ) (at : ℕ) → at < length text → records_fault 4 (from_place text at) ≡ 0 → record_fault 4 (record_of (drop at text)) ≡ 0
sound_first text at inside sound =
    (none_of_or_else (record_fault 4 (record_of (drop at text))) (records_fault 4 (later (record_of (drop at text)).rest))
    (sym (fault_first text at inside) ∙ sound)).0

module _ {text : List ℕ} {at : ℕ} {r : Read} (inside : at < length text) (read : Kept (record_of (drop at text)) text r) where
  pub later_read : from_place text at ≡ record_of (drop at text) ∷ from_place text r.next
  later_read =
      later_some (drop at text) (omega (arith, length-drop at text)) ∙ ap (λ (s : List ℕ). record_of (drop at text) ∷ later s) (sym read.rest)

  pub next_further : at < r.next
  next_further =
      let long = ap length read.rest in
      let next_inside = read.inside in
      dite (dec_lt 0 (length (record_of (drop at text)).rest))
      (λ some. let less = record_shorter (drop at text) some in omega (arith, length-drop at text, length-drop r.next text))
      (λ none. omega (arith, length-drop r.next text))

  fault_here : records_fault 4 (from_place text at) ≡ record_fault 4 (record_of (drop at text)) or_else records_fault 4 (from_place text r.next)
  fault_here = ap (records_fault 4) later_read ∙ records_fault_more 4 (record_of (drop at text)) (from_place text r.next)

  -- where the records have no fault, those behind it have none, and the row that was read is the record's
  module _ (sound : records_fault 4 (from_place text at) ≡ 0) where
    sound_next : records_fault 4 (from_place text r.next) ≡ 0
    sound_next = (none_of_or_else (record_fault 4 (record_of (drop at text))) (records_fault 4 (from_place text r.next)) (sym fault_here ∙ sound)).1

    rows_here : rows_of_all (from_place text at) ≡ r.tally.last ∷ rows_of_all (from_place text r.next)
    rows_here =
        ap rows_of_all later_read ∙ rows_more (record_of (drop at text)) (from_place text r.next)
        ∙ ap (λ (row : Row). row ∷ rows_of_all (from_place text r.next))
        (sym (read_row (record_of (drop at text)) text r read (sound_first text at inside sound)))

-- ---- the first pass
pub record Testing (n k : ℕ) (text : List ℕ) (from at rows x : ℕ) : Type 0 where
  pub inside : at ≤ length text
  pub few : rows ≤ at
  pub same : records_fault 4 (from_place text at) ≡ records_fault 4 (from_place text from)
  pub count : rows + length (from_place text at) ≡ length (from_place text from)
  pub row : records_fault 4 (from_place text at) ≡ 0
      → x or_else rows_fault n k (rows_of_all (from_place text at)) ≡ rows_fault n k (rows_of_all (from_place text from))

or_else_assoc : (x y z : ℕ) → (x or_else y) or_else z ≡ x or_else (y or_else z)
or_else_assoc zero y z = refl
or_else_assoc (suc x) y z = refl

module _ {n k : ℕ} {text : List ℕ} {from at rows x : ℕ} {r : Read} (so_far : Testing n k text from at rows x) (inside : at < length text)
    (good : GoodOf 4 (record_of (drop at text)) text (Ok r)) where
  row_first : records_fault 4 (from_place text at) ≡ 0
      → rows_fault n k (rows_of_all (from_place text at)) ≡ row_fault n k r.tally.last or_else rows_fault n k (rows_of_all (from_place text r.next))
  row_first sound = ap (rows_fault n k) (rows_here inside good.0 sound) ∙ rows_fault_more n k r.tally.last (rows_of_all (from_place text r.next))

  pub testing_more : {y : ℕ} → y ≡ x or_else row_fault n k r.tally.last → Testing n k text from r.next (rows + 1) y
  testing_more is =
      let on = fault_here inside good.0 ∙ or_else_none (record_fault 4 (record_of (drop at text))) _ good.1 in
      record {
        inside = good.0.inside;
        few = omega (arith, next_further inside good.0, so_far.few);
        same = sym on ∙ so_far.same;
        count = omega (arith, ap length (later_read inside good.0), so_far.count);
        row =
            λ sound.
            let rest = rows_fault n k (rows_of_all (from_place text r.next)) in
            ap (λ (z : ℕ). z or_else rest) is ∙ or_else_assoc x (row_fault n k r.tally.last) rest
            ∙ ap (λ (z : ℕ). x or_else z) (sym (row_first (on ∙ sound))) ∙ so_far.row (on ∙ sound);
      }

pub testing_refused : {n k : ℕ} {text : List ℕ} {from at rows x : ℕ} → Testing n k text from at rows x → at < length text → (refusal : Refusal)
    → GoodOf 4 (record_of (drop at text)) text (Err refusal) → LaterOf n k (from_place text from) (Err refusal)
testing_refused {text = text} {at = at} so_far inside refusal is =
    is ∙ sym (or_else_some (record_fault 4 (record_of (drop at text))) _ (λ e. some_number refusal (is ∙ e))) ∙ sym (fault_first text at inside)
    ∙ so_far.same

or_else_last : (x : ℕ) → x or_else 0 ≡ x
or_else_last zero = refl
or_else_last (suc x) = refl

pub testing_all : {n k : ℕ} {text : List ℕ} {from at rows : ℕ} {refused : Result Unit Refusal} → length text ≤ at
    → Testing n k text from at rows (number_of refused) → LaterOf n k (from_place text from) (Ok (record { rows = rows; refused = refused }))
testing_all {n} {k} {text} {at = at} {refused = refused} end so_far =
    let none = later_end text at end in
    let sound : records_fault 4 (from_place text at) ≡ 0 = ap (records_fault 4) none ∙ records_fault_none 4 in
    let behind : rows_fault n k (rows_of_all (from_place text at)) ≡ 0 = ap (rows_fault n k) (ap rows_of_all none ∙ rows_none) ∙ rows_fault_none n k in
    record {
      sound = sym so_far.same ∙ sound;
      rows = omega (arith, ap length none, so_far.count);
      refused = sym (or_else_last (number_of refused)) ∙ ap (λ (z : ℕ). number_of refused or_else z) (sym behind) ∙ so_far.row sound;
    }

-- ---- the second pass
pub record Writing (text : List ℕ) (from : ℕ) (out₀ : List ℕ) (first at : ℕ) (out : List ℕ) (place : ℕ) : Type 0 where
  pub inside : at ≤ length text
  pub sound : records_fault 4 (from_place text at) ≡ 0
  pub fit : All RowFits (rows_of_all (from_place text at))
  pub long : length out ≡ length out₀
  pub room : place + 8 * length (rows_of_all (from_place text at)) ≤ length out₀
  pub same : sets out place (rows_bytes (rows_of_all (from_place text at))) ≡ sets out₀ first (rows_bytes (rows_of_all (from_place text from)))

-- the record that is read there is whole
pub writing_whole : {text : List ℕ} {from : ℕ} {out₀ : List ℕ} {first at : ℕ} {out : List ℕ} {place : ℕ} → Writing text from out₀ first at out place
    → at < length text → (record_of (drop at text)).whole ≡ true
writing_whole {text} {at = at} so_far inside = sound_whole (record_of (drop at text)) 4 (sound_first text at inside so_far.sound)

module _ {text : List ℕ} {from : ℕ} {out₀ : List ℕ} {first at : ℕ} {out : List ℕ} {place : ℕ} {r : Read} (so_far : Writing text from out₀ first at out place)
    (inside : at < length text) (read : Kept (record_of (drop at text)) text r) where
  rows_now : rows_of_all (from_place text at) ≡ r.tally.last ∷ rows_of_all (from_place text r.next)
  rows_now = rows_here inside read so_far.sound

  fits : All RowFits (r.tally.last ∷ rows_of_all (from_place text r.next))
  fits = subst (λ (rows : List Row). All RowFits rows) rows_now so_far.fit

  pub row_fits : RowFits r.tally.last
  row_fits = fits.0

  pub row_room : place + 8 ≤ length out
  row_room = omega (arith, so_far.room, so_far.long, ap length rows_now)

  pub writing_more : {out' : List ℕ} → out' ≡ sets out place (row_bytes r.tally.last) → Writing text from out₀ first r.next out' (place + 8)
  writing_more stored =
      let rest = rows_bytes (rows_of_all (from_place text r.next)) in
      record {
        inside = read.inside;
        sound = sound_next inside read so_far.sound;
        fit = fits.1;
        long = ap length stored ∙ length-sets out place (row_bytes r.tally.last) ∙ so_far.long;
        room = omega (arith, so_far.room, ap length rows_now);
        same =
            ap (λ (l : List ℕ). sets l (place + 8) rest) stored ∙ sets_append out place (row_bytes r.tally.last) rest (place + 8) refl
            ∙ ap (sets out place) (sym (ap rows_bytes rows_now ∙ bytes_more r.tally.last (rows_of_all (from_place text r.next))))
            ∙ so_far.same;
      }

pub writing_all : {text : List ℕ} {from : ℕ} {out₀ : List ℕ} {first at : ℕ} {out : List ℕ} {place : ℕ} → length text ≤ at
    → Writing text from out₀ first at out place → out ≡ sets out₀ first (rows_bytes (rows_of_all (from_place text from)))
writing_all {text = text} {at = at} {out = out} {place = place} end so_far =
    sym (ap (sets out place) (ap rows_bytes (ap rows_of_all (later_end text at end) ∙ rows_none) ∙ bytes_none)) ∙ so_far.same
