-- The promises of the probe entry as theorems, in document 02's words, for every book, list of calls and output. No contract cites this file.
--   probe_means, means_probe    what the entry's contract means (`specs/ProbeMeaning.antt`), and no less: the meaning gives back the contract
--   probe_dead_no_plan          a book that is answered dead has no plan
--   probe_planless              no plan has a pick whose byte is 1
--   probe_sessions              a byte is what a session of that call alone answers
-- Assumes nothing.
use mathlib.Core.Path.{◌≡◌, refl, sym, ap, ◌∙◌, subst⁻¹}
use mathlib.Core.Logic.{◌↔◌, dite}
use mathlib.Core.List.{List, [], ◌∷◌}
use mathlib.Core.Option.{Option, none, some, some-ne-none}
use Prim.Native.Nat.{ℕ, zero, suc, ◌*◌, ◌/◌, ◌<◌}
use native.Mathlib.Decide.{ℕ_discrete}
use native.Mathlib.Omega.{arith}
use lib.ListN.{length, get_or, take, drop, replicate, length-replicate, get_or-replicate, get_or-append}
use Rattle.domains.proofs.MaskLaws.{test_bit_fixed_other}
use Rattle.book.specs.Layout.{slots, values, word32}
use Rattle.book.proofs.LayoutLaws.{length_list_of, get_d_list_of}
use Rattle.closing.specs.Close.{overlay}
use Rattle.settling_model.specs.Plans.{singles}
use Rattle.settling_model.specs.Book.{settled_book, BookPlan}
use Rattle.settling_model.proofs.BookLaws.{settled_book_settles, settled_book_dead, settles_settled_book, dead_settled_book, dead_no_plan}
use Rattle.settling_model.proofs.PlansLaws.{singles_at}
use Rattle.session_model.specs.BookRun.{reply_of}
use Rattle.session_model.specs.Calls.{Call, call_at, calls_of}
use Rattle.session_model.specs.Decisions.{assign, Meets}
use Rattle.session_model.specs.State as State
use Rattle.session_model.specs.State.{Reply, words}
use Rattle.session_model.proofs.CallsLaws.{calls_of_one}
use Rattle.session_model.proofs.OutputLaws.{answer_word}
use Rattle.session_model.proofs.RunLaws.{first_word_dead}
use Rattle.session_fault.specs.Entry.{most_marks, opened_word}
use Rattle.probe_model.specs.Probe.{call_slot, call_value, dead_byte, byte_on, probe_byte, probe_bytes, unless_refused, probe}
use Rattle.probe_model.specs.Meaning.{ByteMeans, dies, lives}
use Rattle.probe_model.proofs.FaultLaws.{probe_fault_each, unrefused_slot}
use Rattle.probe_model.proofs.ProbeLaws.{probe_shut, byte_means_unique, probe_no_plan, bytes_are, call_means}
use Rattle.entries_model.specs.Entries.{full_limits, SessionEntry, ProbeEntry}
use Rattle.entries_model.specs.Meaning as Meaning
use Rattle.entries_model.specs.Meaning.{session_words, SessionMeans}
use Rattle.entries_model.proofs.Theorems.{session_means}
use Rattle.entries_model.proofs.WidthLaws.{session_words_fit, read32_written}
use Rattle.entries_model.specs.ProbeMeaning.{probe_number, ProbeMeans, refuses, opens_dead, opens_live_lem, ProbePlanless, ProbeSessions}

-- a pair by its parts, and back
pair_of : {r x : ℕ} {D Y : List ℕ} → r ≡ x → D ≡ Y → ◌≡◌ {A = ℕ × List ℕ} (r, D) (x, Y)
pair_of same same' = rw (same, same') refl

module _ (b calls D : List ℕ) where
  -- the bytes of a book opened dead
  shut_bytes : settled_book b ≡ none → probe_bytes b calls ≡ replicate (length calls / 4) 1
  shut_bytes shut =
      sym (bytes_are b calls (replicate (length calls / 4) 1) (length-replicate (length calls / 4) 1)
      (λ i i<m. get_or-replicate (length calls / 4) i 1 0 i<m ∙ sym (probe_shut b (call_at calls i) shut)))

  -- where no number refuses, each byte has its meaning
  accepted_means : probe_number b calls D ≡ 0 → (i : ℕ) → i < length calls / 4 → ByteMeans b (call_slot calls i) (call_value calls i) (probe_byte b (call_at calls i))
  accepted_means is i i<m = call_means b calls i (probe_fault_each full_limits b calls (length D) is i i<m)

  module _ (r : ℕ) (D' : List ℕ) where
    abbrev ToldAs : ℕ → Option (List ℕ) → Type 0
    ToldAs f o = (r, D') ≡ unless_refused f D (opened_word o, overlay (probe_bytes b calls) D)

    told_at : {f : ℕ} {o : Option (List ℕ)} → probe_number b calls D ≡ f → settled_book b ≡ o → ToldAs f o → ProbeEntry b calls D r D'
    unfolding probe
    told_at {f} {o} is opened told =
        subst⁻¹ (λ (x : ℕ). ToldAs x (settled_book b)) is (subst⁻¹ (λ (y : Option (List ℕ)). ToldAs f y) opened told)

    pub probe_means : ProbeEntry b calls D r D' → ProbeMeans b calls D r D'
    unfolding probe
    probe_means entry = go (probe_number b calls D) refl (settled_book b) refl entry
      where
        go : (f : ℕ) → probe_number b calls D ≡ f → (o : Option (List ℕ)) → settled_book b ≡ o → ToldAs f o → ProbeMeans b calls D r D'
        go (suc x) is o opened told = refuses x is (ap (λ (t : ℕ × List ℕ). t.0) told) (ap (λ (t : ℕ × List ℕ). t.1) told)
        go zero is none shut told =
            opens_dead is (settled_book_dead b shut) (ap (λ (t : ℕ × List ℕ). t.0) told)
            (ap (λ (t : ℕ × List ℕ). t.1) told ∙ ap (λ (xs : List ℕ). overlay xs D) (shut_bytes shut))
        go zero is (some N) settles told =
            opens_live_lem is N (settled_book_settles b N settles) (ap (λ (t : ℕ × List ℕ). t.0) told) (probe_bytes b calls)
            (length_list_of (length calls / 4) (λ i. probe_byte b (call_at calls i)))
            (λ i i<m. rw (get_d_list_of (length calls / 4) (λ j. probe_byte b (call_at calls j)) i 0 i<m) (accepted_means is i i<m))
            (ap (λ (t : ℕ × List ℕ). t.1) told)

    pub means_probe : ProbeMeans b calls D r D' → ProbeEntry b calls D r D'
    means_probe means = go means
      where
        go : ProbeMeans b calls D r D' → ProbeEntry b calls D r D'
        go (refuses x is answer same) = told_at {o = settled_book b} is refl (pair_of answer same)
        go (opens_dead is dead answer output) =
            let shut = dead_settled_book b dead in
            told_at is shut (pair_of answer (output ∙ ap (λ (xs : List ℕ). overlay xs D) (sym (shut_bytes shut))))
        go (opens_live_lem is N settles answer bytes long each output) =
            let same = bytes_are b calls bytes long (λ i i<m. byte_means_unique b _ _ _ _ (each i i<m) (accepted_means is i i<m)) in
            told_at is (settles_settled_book b N settles) (pair_of answer (output ∙ ap (λ (xs : List ℕ). overlay xs D) same))

    -- ---- plans
    pub probe_dead_no_plan : ProbeEntry b calls D r D' → r ≡ 1 → (p : List ℕ) → BookPlan b p → ⊥
    probe_dead_no_plan entry dead p plan = go (probe_means entry)
      where
        go : ProbeMeans b calls D r D' → ⊥
        go (refuses x is answer same) = omega (arith, answer, dead)
        go (opens_dead is dead_book answer output) = dead_no_plan b (dead_settled_book b dead_book) p plan
        go (opens_live_lem is N settles answer bytes long each output) = omega (arith, answer, dead)

    pub probe_planless : ProbeEntry b calls D r D' → r < 256 → ProbePlanless b calls D'
    probe_planless entry unrefused p plan i i<m one picked = go (probe_means entry)
      where
        meets : call_slot calls i < slots b → Meets (assign (call_slot calls i) (call_value calls i)) (singles p)
        meets inside w has =
            dite (ℕ_discrete w (get_or p (call_slot calls i) 0)) (λ same. same ∙ picked)
            (λ other.
            let at = singles_at p (call_slot calls i) (omega (arith, plan.slots, inside)) in
            absurd (omega (arith, test_bit_fixed_other (get_or p (call_slot calls i) 0) w other, rw at at has)))

        dying : probe_number b calls D ≡ 0 → ByteMeans b (call_slot calls i) (call_value calls i) 1 → ⊥
        dying is (dies is_1 dead) =
            let inside = unrefused_slot (slots b) (values b) _ _ _ (probe_fault_each full_limits b calls (length D) is i i<m) in
            probe_no_plan b (call_slot calls i) (call_value calls i) dead p plan (meets inside, tt)
        dying is (lives is_0 alive) = omega (arith, is_0)

        go : ProbeMeans b calls D r D' → ⊥
        go (refuses x is answer same) = omega (arith, answer, unrefused)
        go (opens_dead is dead_book answer output) = dead_no_plan b (dead_settled_book b dead_book) p plan
        go (opens_live_lem is N settles answer bytes long each output) =
            let read : get_or bytes i 0 ≡ 1 = sym (get_or-append bytes _ 0 i (omega (arith, long, i<m))) ∙ (rw output at one) in
            dying is (rw read at (each i i<m))

-- ---- sessions of one call
-- a book that is answered 0 opened live
opened_not_dead : (b calls D D' : List ℕ) → ProbeEntry b calls D 0 D' → settled_book b ≡ none → ⊥
opened_not_dead b calls D D' entry shut = go (probe_means b calls D 0 D' entry)
  where
    go : ProbeMeans b calls D 0 D' → ⊥
    go (refuses x is answer same) = omega (arith, answer)
    go (opens_dead is dead_book answer output) = omega (arith, answer)
    go (opens_live_lem is N settles answer bytes long each output) = some-ne-none N (sym (settles_settled_book b N settles) ∙ shut)

module _ (b calls D D' : List ℕ) (entry : ProbeEntry b calls D 0 D') (i : ℕ) (i<m : i < length calls / 4) where
  abbrev one : List ℕ
  one = take 4 (drop (4 * i) calls)

  one_call : calls_of one ≡ call_at calls i ∷ []
  one_call = calls_of_one calls i i<m

  -- the byte, on a book that opens live
  byte_read : (N : List ℕ) → settled_book b ≡ some N → get_or D' i 0 ≡ dead_byte (reply_of b most_marks (calls_of one) 0)
  byte_read N settles = go (probe_means b calls D 0 D' entry)
    where
      go : ProbeMeans b calls D 0 D' → get_or D' i 0 ≡ dead_byte (reply_of b most_marks (calls_of one) 0)
      go (refuses x is answer same) = absurd (omega (arith, answer))
      go (opens_dead is dead_book answer output) = absurd (omega (arith, answer))
      go (opens_live_lem is settled settles' answer bytes long each output) =
          let same = byte_means_unique b _ _ _ _ (each i i<m) (accepted_means b calls D is i i<m) in
          ap (λ (xs : List ℕ). get_or xs i 0) output
          ∙ get_or-append bytes _ 0 i (omega (arith, long, i<m))
          ∙ same
          ∙ ap (λ (o : Option (List ℕ)). byte_on o (reply_of b most_marks (call_at calls i ∷ []) 0)) settles
          ∙ ap (λ (cs : List Call). dead_byte (reply_of b most_marks cs 0)) (sym one_call)

  -- the call's first word
  word_read : (A M A' M' : List ℕ) → SessionEntry b one A M 0 A' M' → word32 A' 0 ≡ (words (reply_of b most_marks (calls_of one) 0)).0
  word_read A M A' M' session = go (session_means b one A M 0 A' M' session)
    where
      go : SessionMeans b one A M 0 A' M' → word32 A' 0 ≡ (words (reply_of b most_marks (calls_of one) 0)).0
      go (Meaning.refuses x is answer words_are masks_are) = absurd (omega (arith, answer))
      go (Meaning.opens_dead is dead answer claim words_are masks_are) = absurd (omega (arith, answer))
      go (Meaning.opens_live_lem is N settles opening answer claim words_are masks_are) =
          let said = answer_word b most_marks (calls_of one) [] [] (call_at calls i) one_call in
          ap (λ (X : List ℕ). word32 X 0) words_are
          ∙ read32_written (session_words b one) A 0 said.0 (session_words_fit b one A M is 0 said.0)
          ∙ said.1

dead_byte_word : (r : Reply) → (dead_byte r ≡ 1) ↔ ((words r).0 ≡ 1)
dead_byte_word r = (byte_word r, λ one. ap dead_byte ((first_word_dead r).1 one))
  where
    byte_word : (a : Reply) → dead_byte a ≡ 1 → (words a).0 ≡ 1
    byte_word (State.live x) one = absurd (omega (arith, one))
    byte_word State.dead one = refl
    byte_word (State.value x) one = absurd (omega (arith, one))
    byte_word State.done one = absurd (omega (arith, one))
    byte_word (State.refused x) one = absurd (omega (arith, one))

pub probe_sessions : (b calls D D' : List ℕ) → ProbeEntry b calls D 0 D' → ProbeSessions b calls D'
probe_sessions b calls D D' entry i i<m A M A' M' session = go (settled_book b) refl
  where
    go : (o : Option (List ℕ)) → settled_book b ≡ o → (get_or D' i 0 ≡ 1) ↔ (word32 A' 0 ≡ 1)
    go none shut = absurd (opened_not_dead b calls D D' entry shut)
    go (some N) settles =
        let byte = byte_read b calls D D' entry i i<m N settles in
        let word = word_read b calls D D' entry i i<m A M A' M' session in
        let both = dead_byte_word (reply_of b most_marks (calls_of (take 4 (drop (4 * i) calls))) 0) in
        (λ is_1. word ∙ both.0 (sym byte ∙ is_1), λ is_1. byte ∙ both.1 (sym word ∙ is_1))
