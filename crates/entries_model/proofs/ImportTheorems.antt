-- The promises of import_csv as theorems, in document 02's words, for every text and output. No contract cites this file.
--   import_means, means_import   what the entry's contract means (`specs/ImportMeaning.antt`), and no less: the meaning gives back the contract
--   import_reads_back            after the answer 0 the front of the output is the good book that the records of the text say
--   full_limits_fit              document 01's limits have every number of a book fit its bytes
-- Assumes nothing.
use mathlib.Core.Path.{◌≡◌, refl, sym, ap, subst, ◌∙◌}
use mathlib.Core.List.{List}
use Prim.Native.Nat.{ℕ, zero, suc}
use native.Mathlib.Nat.{le_refl}
use native.Mathlib.Omega.{arith}
use lib.ListN.{length, take, drop}
use lib.Seq.{take-append_seam, drop_at}
use Rattle.book.specs.Layout.{book_length}
use Rattle.book_bytes.specs.BookBytes.{LimitsFit}
use Rattle.closing.specs.Close.{overlay}
use Rattle.csv_model.specs.Import.{csv_fault, book_of, stored}
use Rattle.csv_model.specs.Meaning.{order_book, CsvMeans, Imported}
use Rattle.csv_model.proofs.MeaningLaws.{csv_means, means_csv, text_book, import_reads}
use Rattle.entries_model.specs.Entries.{full_limits, answered, ImportEntry}
use Rattle.entries_model.specs.ImportMeaning.{ImportMeans, refuses, imports, ImportReads}

pub full_limits_fit : LimitsFit full_limits
full_limits_fit = record { slots = le_refl 256; values = le_refl 32; rows = le_refl 1024 }

module _ {s o : List ℕ} {r : ℕ} {o' : List ℕ} where
  means_by : ImportEntry s o r o' → (x : ℕ) → csv_fault full_limits s (length o) ≡ x → ImportMeans s o r o'
  means_by entry zero is =
      let reads = import_reads full_limits s (length o) full_limits_fit is in
      imports (subst (CsvMeans full_limits s (length o)) is (csv_means full_limits s (length o))) reads.records_are reads.text reads.good
      (subst (Imported full_limits reads.records_are) reads.book reads.imported) (entry.answer ∙ ap answered is)
      (entry.output ∙ ap (λ (x : ℕ). stored x (book_of s) o) is ∙ ap (λ (b : List ℕ). overlay b o) reads.book)
  means_by entry (suc x) is =
      refuses x (subst (CsvMeans full_limits s (length o)) is (csv_means full_limits s (length o))) (entry.answer ∙ ap answered is)
      (entry.output ∙ ap (λ (y : ℕ). stored y (book_of s) o) is)

  pub import_means : ImportEntry s o r o' → ImportMeans s o r o'
  import_means entry = means_by entry (csv_fault full_limits s (length o)) refl

  pub means_import : ImportMeans s o r o' → ImportEntry s o r o'
  means_import (refuses x means answer output) =
      record { answer = answer ∙ ap answered (means_csv means); output = output ∙ ap (λ (y : ℕ). stored y (book_of s) o) (means_csv means) }
  means_import (imports means rs text good imported answer output) =
      record {
        answer = answer ∙ ap answered (means_csv means);
        output =
            output ∙ ap (λ (b : List ℕ). overlay b o) (sym (text_book text good)) ∙ ap (λ (y : ℕ). stored y (book_of s) o) (means_csv means);
      }

reads_by : {s o o' : List ℕ} → ImportMeans s o 0 o' → ImportReads s o o'
reads_by (refuses x means answer output) = absurd (omega arith)
reads_by {s} {o} {o'} (imports means rs text good imported answer output) =
    let b = order_book rs in
    let long : book_length o' ≡ length b = ap (λ (l : List ℕ). book_length l) output ∙ imported.length_is in
    let front : take (book_length o') o' ≡ b = ap (λ (m : ℕ). take m o') long ∙ ap (take (length b)) output ∙ take-append_seam b (drop (length b) o) in
    record {
      records = rs;
      text = text;
      good = good;
      front = subst (Imported full_limits rs) (sym front) imported;
      behind =
          ap (λ (m : ℕ). drop m o') long ∙ ap (drop (length b)) output ∙ drop_at b (drop (length b) o) (length b) refl
          ∙ ap (λ (m : ℕ). drop m o) (sym long);
    }

pub import_reads_back : {s o o' : List ℕ} → ImportEntry s o 0 o' → ImportReads s o o'
import_reads_back entry = reads_by (import_means entry)
