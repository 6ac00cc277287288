-- The idle byte has no part in a probe: two books that differ in byte 3 alone have the same bytes (`byte_same`), and where each is good for the same reason the
-- same answer and output (`probe_same`). It rests on `same_but_struck` of session_model. No contract cites this file. Assumes nothing.
use mathlib.Core.Path.{◌≡◌, refl, sym, ap, ◌∙◌}
use mathlib.Core.List.{List, [], ◌∷◌}
use mathlib.Core.Option.{Option, none, some}
use Prim.Native.Nat.{ℕ, ◌/◌}
use lib.ListN.{length, get_or}
use Rattle.book.specs.Idle.{OnlyByte3, OtherIdle}
use Rattle.book.specs.declared.Limits.{Limits}
use Rattle.book.proofs.IdleLaws.{slots_same, values_same, refusal_same}
use Rattle.book.proofs.LayoutLaws.{length_list_of, get_d_list_of}
use Rattle.closing.specs.Close.{overlay}
use Rattle.settling_model.specs.Book.{settled_book}
use Rattle.session_model.specs.BookRun.{replies_of, reply_of}
use Rattle.session_model.specs.Calls.{Call, call_at}
use Rattle.session_model.specs.Idle.{struckless, struckless_all}
use Rattle.session_model.specs.State.{Reply, live, dead, value, done, refused}
use Rattle.session_model.proofs.IdleLaws.{same_but_struck}
use Rattle.session_fault.specs.Entry.{most_marks, opened_word}
use Rattle.probe_model.specs.Probe.{dead_byte, byte_on, probe_byte, probe_bytes, probe_fault, probe_good, unless_refused, probe}
use Rattle.probe_model.proofs.ProbeLaws.{bytes_are}

-- the byte of an answer without its struck count
struckless_byte : (r : Reply) → dead_byte (struckless r) ≡ dead_byte r
struckless_byte (live x) = refl
struckless_byte dead = refl
struckless_byte (value x) = refl
struckless_byte done = refl
struckless_byte (refused x) = refl

first_byte : (rs : List Reply) → dead_byte (get_or (struckless_all rs) 0 done) ≡ dead_byte (get_or rs 0 done)
unfolding struckless_all
first_byte [] = refl
first_byte (r ∷ rs) = struckless_byte r

module _ {b c : List ℕ} (only : OnlyByte3 b c) where
  reply_same : (x : Call) → dead_byte (reply_of c most_marks (x ∷ []) 0) ≡ dead_byte (reply_of b most_marks (x ∷ []) 0)
  reply_same x =
      sym (first_byte (replies_of c most_marks (x ∷ [])))
      ∙ ap (λ (rs : List Reply). dead_byte (get_or rs 0 done)) (same_but_struck only most_marks (x ∷ [])).answers
      ∙ first_byte (replies_of b most_marks (x ∷ []))

  byte_on_same : (o : Option (List ℕ)) (x : Call) → byte_on o (reply_of c most_marks (x ∷ []) 0) ≡ byte_on o (reply_of b most_marks (x ∷ []) 0)
  byte_on_same none x = refl
  byte_on_same (some M) x = reply_same x

  pub byte_same : (x : Call) → probe_byte c x ≡ probe_byte b x
  byte_same x =
      ap (λ (o : Option (List ℕ)). byte_on o (reply_of c most_marks (x ∷ []) 0)) (same_but_struck only most_marks []).settled
      ∙ byte_on_same (settled_book b) x

  bytes_same : (calls : List ℕ) → probe_bytes c calls ≡ probe_bytes b calls
  bytes_same calls =
      bytes_are b calls (probe_bytes c calls) (length_list_of (length calls / 4) (λ i. probe_byte c (call_at calls i)))
      (λ i i<m. get_d_list_of (length calls / 4) (λ j. probe_byte c (call_at calls j)) i 0 i<m ∙ byte_same (call_at calls i))

module _ {b c : List ℕ} (other : OtherIdle b c) (limits : Limits) (calls : List ℕ) where
  fault_same : (room : ℕ) → probe_fault limits c calls room ≡ probe_fault limits b calls room
  unfolding probe_fault
  fault_same room = rw (refusal_same other limits, slots_same other.only, values_same other.only) refl

  good_same : (D : List ℕ) → probe_good c calls D ≡ probe_good b calls D
  good_same D =
      ap (λ (o : Option (List ℕ)). (opened_word o, overlay (probe_bytes c calls) D)) (same_but_struck other.only most_marks []).settled
      ∙ ap (λ (xs : List ℕ). (opened_word (settled_book b), overlay xs D)) (bytes_same other.only calls)

  pub probe_same : (D : List ℕ) → probe limits c calls D ≡ probe limits b calls D
  unfolding probe
  probe_same D =
      ap (λ (x : ℕ). unless_refused x D (probe_good c calls D)) (fault_same (length D))
      ∙ ap (λ (good : ℕ × List ℕ). unless_refused (probe_fault limits b calls (length D)) D good) (good_same D)
