-- What the exported entries promise, from bytes to bytes (document 01, 'Entries and their numbers'; document 02, requests one, four and six).
--   full_limits        document 01's limits: 256 slots, 32 types, 1024 rows
--   answered number   0 where no number refuses, else 256 + the number
--   check_answer b     what check answers for the bytes b: 0 for a good book
--   CloseEntry b L U r L' U'   of book b and the outputs L and U as they are lent: r is what close answers, and L' and U' are the outputs as they
--                     come back; elements are 16 bits, little-endian, and a trailing byte neither counts nor is written
--   SettleEntry b M r M'   of book b and the output M as it is lent: r is what settle answers, and M' is the output as it comes back; masks are
--                     32 bits, little-endian, and up to three trailing bytes neither count nor are written
--   SessionEntry b calls A M r A' M'   of book b, a call list and the outputs A and M as they are lent: r is what session answers, and A' and M'
--                     are the outputs as they come back; words and masks are 32 bits, little-endian
--   ImportEntry s o r o'   of the text s and the output o as it is lent: r is what import_csv answers, and o' is the output as it comes back
--   ProbeEntry b calls D r D'   of book b, a list of assign calls and the output D as it is lent: r is what probe answers, and D' is the output as it
--                     comes back
--   CanonicalEntry b o r o'   of book b and the output o as it is lent: r is what canonical answers, and o' is the output as it comes back
-- Assumes nothing.
use Rattle.std.specs.Prelude.{◌≡◌, List, ℕ, zero, suc, ◌+◌, length}
use Rattle.book.specs.declared.Limits.{Limits}
use Rattle.book.specs.Refusal.{refusal}
use Rattle.elements.specs.Elements.{bytes_of, whole}
use Rattle.closing.specs.Close.{Closes, close_of}
use Rattle.settle_fault.specs.Settle.{Settles, settle_of}
use Rattle.session_fault.specs.Entry.{session_of, SessionRan}
use Rattle.csv_model.specs.Import.{csv_fault, book_of, stored}
use Rattle.probe_model.specs.Probe.{Probes}
use Rattle.canonical_model.specs.Canonical.{canonical_of, Canonises}

abbrev pub full_limits : Limits
full_limits = record { slots = 256; values = 32; rows = 1024 }

abbrev pub answered : ℕ → ℕ
answered zero = 0
answered (suc x) = 256 + suc x

abbrev pub check_answer : List ℕ → ℕ
check_answer b = answered (refusal full_limits b)

abbrev pub CloseEntry : List ℕ → List ℕ → List ℕ → ℕ → List ℕ → List ℕ → Type 0
CloseEntry b L U r L' U' = Closes (bytes_of 2) (close_of full_limits b (whole 2 (length L)) (whole 2 (length U))) r L U L' U'

abbrev pub SettleEntry : List ℕ → List ℕ → ℕ → List ℕ → Type 0
SettleEntry b M r M' = Settles (bytes_of 4) (settle_of full_limits b (whole 4 (length M))) r M M'

abbrev pub SessionEntry : List ℕ → List ℕ → List ℕ → List ℕ → ℕ → List ℕ → List ℕ → Type 0
SessionEntry b calls A M r A' M' = SessionRan (bytes_of 4) (session_of full_limits b calls (whole 4 (length A)) (whole 4 (length M))) r A M A' M'

pub record ImportEntry (s o : List ℕ) (r : ℕ) (o' : List ℕ) : Type 0 where
  pub answer : r ≡ answered (csv_fault full_limits s (length o))
  pub output : o' ≡ stored (csv_fault full_limits s (length o)) (book_of s) o

abbrev pub ProbeEntry : List ℕ → List ℕ → List ℕ → ℕ → List ℕ → Type 0
ProbeEntry b calls D r D' = Probes full_limits b calls D r D'

abbrev pub CanonicalEntry : List ℕ → List ℕ → ℕ → List ℕ → Type 0
CanonicalEntry b o r o' = Canonises (canonical_of full_limits b (length o)) r o o'
