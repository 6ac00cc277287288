-- The laws of `specs/Orders.antt`, in the order of the code: a text is read (`orders_refused_first`, `orders_refused_later`, `orders_said`), its book is
-- stored (`book_stored`), and so it is imported (`imports_broken`, `imports_refused`, `imports_written`). No contract cites this file. Assumes nothing.
use mathlib.Core.Path.{◌≡◌, refl, sym, ap, ◌∙◌}
use mathlib.Core.Bool.{Bool}
use mathlib.Core.List.{List, [], ◌∷◌, ◌++◌, append_assoc}
use Prim.Native.Nat.{ℕ, zero, suc, ◌+◌, ◌*◌, ◌-◌, ◌^◌}
use native.Mathlib.Nat.{le_trans}
use native.Mathlib.Omega.{arith}
use lib.Dec.{ltb}
use lib.ListN.{length, drop, replicate, length-append, length-replicate}
use lib.Seq.{sets, sets-eq}
use Rattle.book.specs.declared.Limits.{Limits}
use Rattle.book.specs.declared.Row.{Row}
use Rattle.std.specs.Prelude.{Ok, Err}
use Rattle.answer.specs.Answer as Answer
use Rattle.answer.specs.declared.Refusal.{Refusal}
use Rattle.book.specs.Refusal.{beyond, fault, ◌or_else◌, number_of}
use Rattle.book.proofs.RefusalLaws.{or_else_none, or_else_some, some_number}
use Rattle.elements.specs.Elements.{bytes_of}
use Rattle.elements.proofs.ElementsLaws.{sets_append, length_bytes_of}
use Rattle.book_bytes.specs.BookBytes.{header_bytes, full_masks, rows_bytes, book_bytes, LimitsFit}
use Rattle.csv_model.specs.Csv.{Record, record_of, records, later}
use Rattle.csv_model.specs.Ordered.{rows_fault}
use Rattle.csv_model.specs.Import.{record_fault, records_fault, slots_of, values_of, rows_of_all, rows_of, book_length_of}
use Rattle.csv_model.specs.Import.{said_fault, records_refusal, csv_fault, book_of, stored, Imports}
use Rattle.csv_model.proofs.CsvLaws.{records_first}
use Rattle.csv_model.proofs.ImportLaws.{Accepted, csv_accepted, length_book_of, rows_said_fit}
use Rattle.csv_import.specs.declared.Read.{Read}
use Rattle.csv_import.specs.declared.Later.{Later}
use Rattle.csv_import.specs.declared.Orders.{Orders}
use Rattle.csv_import.specs.Read.{GoodOf}
use Rattle.csv_import.specs.Passes.{LaterOf}
use Rattle.csv_import.specs.Orders.{ordered_fault, OrdersSay, OrdersOf, OrdersFit}
use Rattle.csv_import.proofs.RecordLaws.{read_head}

-- ---- OrdersOf
-- the orders of a first record and of later ones: the last two numbers of the first are slots and types
abbrev saying : Read → Later → Orders
saying head l =
    record { slots = head.tally.last.lower; values = head.tally.last.upper; rows = l.rows; refused = l.refused; from = head.next }

length_rows : (rs : List Record) → length (rows_of_all rs) ≡ length rs
unfolding rows_of_all
length_rows [] = refl
length_rows (r ∷ rs) = ap suc (length_rows rs)

faults_first : (s : List ℕ) → records_fault 2 (records s) ≡ record_fault 2 (record_of s) or_else records_fault 4 (later (record_of s).rest)
unfolding records_fault
faults_first s = ap (records_fault 2) (records_first s)

pub orders_refused_first : (s : List ℕ) (refusal : Refusal) → GoodOf 2 (record_of s) s (Err refusal) → OrdersOf s (Err refusal)
orders_refused_first s refusal is =
    is ∙ sym (or_else_some (record_fault 2 (record_of s)) _ (λ e. some_number refusal (is ∙ e))) ∙ sym (faults_first s)

-- a text, with its first record read
module _ {s : List ℕ} {head : Read} (read : GoodOf 2 (record_of s) s (Ok head)) where
  abbrev others : List Record
  others = later (drop head.next s)

  records_read : records s ≡ record_of s ∷ others
  records_read = records_first s ∙ ap (λ (t : List ℕ). record_of s ∷ later t) (sym read.0.rest)

  faults_read : records_fault 2 (records s) ≡ records_fault 4 others
  faults_read =
      faults_first s ∙ or_else_none (record_fault 2 (record_of s)) _ read.1 ∙ ap (λ (t : List ℕ). records_fault 4 (later t)) (sym read.0.rest)

  pub orders_refused_later : (refusal : Refusal) → LaterOf head.tally.last.lower head.tally.last.upper others (Err refusal) → OrdersOf s (Err refusal)
  orders_refused_later refusal is = is ∙ sym faults_read

  pub orders_said : {found : Later} → LaterOf head.tally.last.lower head.tally.last.upper others (Ok found) → OrdersOf s (Ok (saying head found))
  orders_said of =
      let numbers = read_head (record_of s) s head read.0 read.1 in
      let n_is : head.tally.last.lower ≡ slots_of (records s) = numbers.0 ∙ sym (ap slots_of records_read) in
      let k_is : head.tally.last.upper ≡ values_of (records s) = numbers.1 ∙ sym (ap values_of records_read) in
      record {
        whole = faults_read ∙ of.sound;
        inside = read.0.inside;
        sound = of.sound;
        slots_are = n_is;
        values_are = k_is;
        rows_are = sym (ap rows_of records_read);
        count_is = of.rows ∙ sym (length_rows others) ∙ ap length (sym (ap rows_of records_read));
        refused =
            of.refused ∙ ap (λ (m : ℕ). rows_fault m head.tally.last.upper (rows_of_all others)) n_is
            ∙ ap (λ (m : ℕ). rows_fault (slots_of (records s)) m (rows_of_all others)) k_is
            ∙ ap (rows_fault (slots_of (records s)) (values_of (records s))) (sym (ap rows_of records_read));
      }

-- ---- ordered_fault
-- what the records of s say
abbrev n_of : List ℕ → ℕ
n_of s = slots_of (records s)

abbrev k_of : List ℕ → ℕ
k_of s = values_of (records s)

abbrev rows_said : List ℕ → List Row
rows_said s = rows_of (records s)

-- what the later records say, by the place of the first
abbrev rows_at : List ℕ → Orders → List Row
rows_at s o = rows_of_all (later (drop o.from s))

-- a function of slots and types has one value, by the orders and by the records
same_numbers : {A : Type 0} {s : List ℕ} {o : Orders} → OrdersSay s o → (f : ℕ → ℕ → A) → f o.slots o.values ≡ f (n_of s) (k_of s)
same_numbers {s = s} {o} says f = ap (λ (m : ℕ). f m o.values) says.slots_are ∙ ap (f (n_of s)) says.values_are

-- the numbers of the orders are those of the records
ordered_said : (limits : Limits) (len : ℕ) {s : List ℕ} {o : Orders} → OrdersSay s o → ordered_fault limits o len ≡ said_fault limits (records s) len
ordered_said limits len {s} {o} says =
    let long : 12 + 4 * o.slots + 8 * o.rows ≡ book_length_of (records s) = omega (arith, says.slots_are, says.count_is) in
    ap (λ (m : ℕ). fault 2 (beyond limits o.slots o.values o.rows) or_else number_of o.refused or_else fault 9 (ltb len m)) long
    ∙ ap (λ (x : ℕ). fault 2 (beyond limits o.slots o.values o.rows) or_else x or_else fault 9 (ltb len (book_length_of (records s)))) says.refused
    ∙ ap (λ (t : Bool). fault 2 t or_else rows_fault (n_of s) (k_of s) (rows_said s) or_else fault 9 (ltb len (book_length_of (records s))))
    (same_numbers says (λ m v. beyond limits m v o.rows) ∙ ap (beyond limits (n_of s) (k_of s)) says.count_is)

-- ---- the stores of a book
pub book_stored : (out : List ℕ) {s : List ℕ} {o : Orders} {a b d : List ℕ} {mask : ℕ} → OrdersSay s o → mask ≡ 2 ^ o.values - 1
    → a ≡ sets out 0 (header_bytes o.slots o.values 0 o.rows) → b ≡ sets a 12 (bytes_of 4 (replicate o.slots mask))
    → d ≡ sets b (12 + 4 * o.slots) (rows_bytes (rows_at s o)) → d ≡ sets out 0 (book_of s)
unfolding book_of
book_stored out {s} {o} {mask = mask} says mask_is header_is masks_are rows_are =
    let n = o.slots in
    let header = header_bytes n o.values 0 o.rows in
    let masks = bytes_of 4 (replicate n mask) in
    let rs = rows_at s o in
    let long : 12 + 4 * n ≡ 0 + length (header ++ masks) =
    omega (arith, length-append header masks, length_bytes_of 4 (replicate n mask), length-replicate n mask)
    in
    rows_are
    ∙ ap (λ (l : List ℕ). sets l (12 + 4 * n) (rows_bytes rs))
    (masks_are ∙ ap (λ (l : List ℕ). sets l 12 masks) header_is ∙ sets_append out 0 header masks 12 refl)
    ∙ sets_append out 0 (header ++ masks) (rows_bytes rs) (12 + 4 * n) long ∙ ap (sets out 0) (append_assoc header masks (rows_bytes rs))
    ∙ ap (λ (m : ℕ). sets out 0 (header ++ (bytes_of 4 (replicate n m) ++ rows_bytes rs))) mask_is
    ∙ ap (λ (j : ℕ). sets out 0 (header_bytes n o.values 0 j ++ (bytes_of 4 (full_masks n o.values) ++ rows_bytes rs))) says.count_is
    ∙ ap (λ (l : List Row). sets out 0 (header_bytes n o.values 0 (length (rows_said s)) ++ (bytes_of 4 (full_masks n o.values) ++ rows_bytes l)))
    says.rows_are
    ∙ ap (sets out 0) (same_numbers says (λ m v. book_bytes m v 0 (full_masks m v) (rows_said s)))

-- ---- the answer
stored_refused : (x : ℕ) (b o : List ℕ) → (x ≡ 0 → ⊥) → o ≡ stored x b o
stored_refused zero b o some = absurd (some refl)
stored_refused (suc x) b o some = refl

module _ (limits : Limits) {s : List ℕ} (o : List ℕ) where
  pub imports_broken : (refusal : Refusal) → OrdersOf s (Err refusal) → Imports limits s o (Answer.number_of refusal) o
  unfolding records_refusal
  imports_broken refusal broken =
      let some = some_number refusal in
      let is : Answer.number_of refusal ≡ csv_fault limits s (length o) =
      broken ∙ sym (or_else_some (records_fault 2 (records s)) (said_fault limits (records s) (length o)) (λ none. some (broken ∙ none)))
      in
      record { number = is; output = stored_refused (csv_fault limits s (length o)) (book_of s) o (λ none. some (is ∙ none)) }

  module _ {orders : Orders} (says : OrdersSay s orders) {x : ℕ} (tested : x ≡ ordered_fault limits orders (length o)) where
    tested_number : x ≡ csv_fault limits s (length o)
    unfolding records_refusal
    tested_number =
        tested ∙ ordered_said limits (length o) says
        ∙ sym (or_else_none (records_fault 2 (records s)) (said_fault limits (records s) (length o)) says.whole)

    pub imports_refused : (x ≡ 0 → ⊥) → Imports limits s o x o
    imports_refused some =
        record { number = tested_number; output = stored_refused (csv_fault limits s (length o)) (book_of s) o (λ none. some (tested_number ∙ none)) }

    module _ (small : LimitsFit limits) (good : x ≡ 0) where
      accepted : Accepted limits (records s) (length o)
      accepted = csv_accepted limits (records s) (length o) (sym tested_number ∙ good)

      pub orders_fit : OrdersFit s (length o)
      orders_fit =
          let n_most = le_trans accepted.orderly.slots_most small.slots in
          let k_most = le_trans accepted.orderly.values_most small.values in
          record {
            slots_most = n_most;
            values_most = k_most;
            rows_most = le_trans accepted.orderly.rows_most small.rows;
            rows_fit = rows_said_fit (n_of s) (k_of s) (rows_said s) n_most k_most accepted.orderly.rows_good;
            room = accepted.room;
          }

      pub imports_written : {o' : List ℕ} → o' ≡ sets o 0 (book_of s) → Imports limits s o 0 o'
      imports_written put =
          let length_is = length_book_of limits s (length o) small accepted in
          let start : 0 + length (book_of s) ≡ length (book_of s) = omega arith in
          record {
            number = sym good ∙ tested_number;
            output =
                put ∙ sets-eq (book_of s) o 0 (omega (arith, accepted.room)) ∙ ap (λ (j : ℕ). book_of s ++ drop j o) start
                ∙ ap (λ (y : ℕ). stored y (book_of s) o) (sym good ∙ tested_number);
          }
