-- The promises of the exported entries with outputs as theorems, in document 01's words, for every book, list of calls and output. No contract cites
-- this file.
--   close_means, settle_means, session_means     what each entry's contract means (`specs/Meaning.antt`)
--   means_close, means_settle, means_session     .. and no less: the meaning gives back the contract
--   close_dead_no_plan, settle_dead_no_plan, session_dead_no_plan   a book that is answered dead has no plan
--   close_plan_kept, settle_plan_kept            of a live answer, every plan keeps the bounds, and lies within the masks, that a host reads
--   session_plan_kept, session_plan_at           no plan that meets the decisions in force is lost in a session
--   dead_decision_no_plan                        no plan meets a decision that was answered dead and those then in force
-- Assumes nothing.
use mathlib.Core.Path.{◌≡◌, refl, sym, ap, ◌∙◌, subst⁻¹}
use mathlib.Core.List.{List, []}
use mathlib.Core.Option.{Option, none, some}
use Prim.Native.Nat.{ℕ, zero, suc, ◌*◌, ◌<◌}
use native.Mathlib.Omega.{arith}
use lib.ListN.{length}
use Rattle.domains.specs.Masks.{Subset}
use Rattle.book.specs.Layout.{slots, values, masks, rows}
use Rattle.book.proofs.LayoutLaws.{length_masks}
use Rattle.elements.specs.Elements.{bytes_of}
use Rattle.closing_model.specs.Start.{entries}
use Rattle.closing_model.specs.Table.{place}
use Rattle.closing_model.proofs.ClosingLaws.{loosest_closing, none_closing}
use Rattle.closing_model.proofs.PlaceLaws.{place_below}
use Rattle.closing_model.proofs.StartLaws.{start_lowers_length, start_uppers_length}
use Rattle.closing.specs.Close.{outcome_of, close_good, unless, close_of, overlay, Closes}
use Rattle.settling_model.specs.Plans.{singles}
use Rattle.settling_model.specs.Book.{closed_book, settled_book, BookPlan}
use Rattle.settling_model.proofs.OccursLaws.{occurs_entry}
use Rattle.settling_model.proofs.PlansLaws.{plan_within}
use Rattle.settling_model.proofs.BookLaws.{closed_book_loosest, closed_book_lengths, closed_book_none, unclosed_no_plan}
use Rattle.settling_model.proofs.BookLaws.{settled_book_settles, settled_book_dead, settles_settled_book, dead_settled_book, plan_kept_at, dead_no_plan}
use Rattle.settle_fault.specs.Settle.{settled_of, settle_good, settle_of, Settles}
use Rattle.session_model.specs.BookRun.{state_after, force_after}
use Rattle.session_model.specs.Calls.{decide, calls_of}
use Rattle.session_model.specs.Demand.{answer_to, PlanMeets, Demand3}
use Rattle.session_model.specs.Machine.{fresh, runs}
use Rattle.session_model.specs.State.{State, Reply, words}
use Rattle.session_model.proofs.BookRunLaws.{live_run}
use Rattle.session_model.proofs.DeadOpeningLaws.{dead_opening}
use Rattle.session_model.proofs.DemandLaws.{demand3}
use Rattle.session_model.proofs.OutputLaws.{answer_word}
use Rattle.session_model.proofs.PlanLaws.{demand_plan_kept, demand_plan_at, demand_dead_no_plan}
use Rattle.session_model.proofs.RunLaws.{first_word_dead, first_word_unrefused}
use Rattle.session_fault.specs.Entry as Session
use Rattle.session_fault.specs.Entry.{most_marks, opened_word, session_good, session_of, SessionRan}
use Rattle.entries_model.specs.Entries.{CloseEntry, SettleEntry, SessionEntry}
use Rattle.entries_model.specs.Meaning as Meaning
use Rattle.entries_model.specs.Meaning.{close_number, CloseMeans, settle_number, SettleMeans, session_number, session_words, session_masks, SessionMeans}
use Rattle.entries_model.specs.Meaning.{WithinBounds, WithinMasks, SessionPlans, DeadPlanless}
use Rattle.entries_model.proofs.WidthLaws.{close_fits, settle_fits, session_words_fit, session_masks_fit, read16_written, read32_written}

-- what holds of two values holds of two that are equal to them
at_both : {B : Type 0} (P : ℕ → B → Type 0) {f f' : ℕ} {o o' : B} → f ≡ f' → o ≡ o' → P f' o' → P f o
at_both {B} P {f} {f'} {o} {o'} same same' done = subst⁻¹ (λ (x : ℕ). P x o) same (subst⁻¹ (λ (y : B). P f' y) same' done)

-- ---- close
module _ (b L U : List ℕ) (r : ℕ) (L' U' : List ℕ) where
  abbrev ClosedAs : ℕ → Option (List ℕ × List ℕ) → Type 0
  ClosedAs f o = Closes (bytes_of 2) (unless f (outcome_of (entries b) o)) r L U L' U'

  pub close_means : CloseEntry b L U r L' U' → CloseMeans b L U r L' U'
  unfolding close_of close_good bytes_of
  close_means entry = go (close_number b L U) refl (closed_book b) refl entry
    where
      go : (f : ℕ) → close_number b L U ≡ f → (o : Option (List ℕ × List ℕ)) → closed_book b ≡ o → ClosedAs f o → CloseMeans b L U r L' U'
      go (suc x) is o closed closes = Meaning.refuses x is closes.answers closes.lowers closes.uppers
      go zero is none closed closes = Meaning.dies is (closed_book_none b closed) closes.answers closes.lowers closes.uppers
      go zero is (some T) closed closes =
          let long = closed_book_lengths b T.0 T.1 closed in
          let loosest = closed_book_loosest b T.0 T.1 closed in
          Meaning.lives is T.0 T.1 long.0 long.1 loosest closes.answers closes.lowers closes.uppers

  pub means_close : CloseMeans b L U r L' U' → CloseEntry b L U r L' U'
  unfolding close_of close_good bytes_of
  means_close means = go means
    where
      go : CloseMeans b L U r L' U' → CloseEntry b L U r L' U'
      go (Meaning.refuses x is answer lowers uppers) =
          at_both ClosedAs {o = closed_book b} is refl (record { answers = answer; lowers = lowers; uppers = uppers })
      go (Meaning.dies is no_table answer lowers uppers) =
          let long = start_lowers_length (slots b) (values b) (rows b) in
          let long' = start_uppers_length (slots b) (values b) (rows b) in
          at_both ClosedAs is (none_closing (slots b) (values b) _ _ long long' no_table) (record { answers = answer; lowers = lowers; uppers = uppers })
      go (Meaning.lives is A B long_A long_B loosest answer lowers uppers) =
          let long = start_lowers_length (slots b) (values b) (rows b) in
          let long' = start_uppers_length (slots b) (values b) (rows b) in
          at_both ClosedAs is (loosest_closing (slots b) (values b) _ _ long long' A B long_A long_B loosest)
          (record { answers = answer; lowers = lowers; uppers = uppers })

  pub close_dead_no_plan : CloseEntry b L U r L' U' → r ≡ 1 → (p : List ℕ) → BookPlan b p → ⊥
  close_dead_no_plan entry dead p plan = go (close_means entry)
    where
      go : CloseMeans b L U r L' U' → ⊥
      go (Meaning.refuses x is answer lowers uppers) = omega (arith, answer, dead)
      go (Meaning.dies is no_table answer lowers uppers) = unclosed_no_plan b no_table p plan
      go (Meaning.lives is A B long_A long_B loosest answer lowers uppers) = omega (arith, answer, dead)

  pub close_plan_kept : CloseEntry b L U r L' U' → r ≡ 0 → (p : List ℕ) → BookPlan b p → WithinBounds b L' U' p
  close_plan_kept entry live p plan = go (close_means entry)
    where
      go : CloseMeans b L U r L' U' → WithinBounds b L' U' p
      go (Meaning.refuses x is answer lowers uppers) = absurd (omega (arith, answer, live))
      go (Meaning.dies is no_table answer lowers uppers) = absurd (omega (arith, answer, live))
      go (Meaning.lives is A B long_A long_B loosest answer lowers uppers) = λ v t v<k t≤n.
          let at = place (slots b) v t in
          let inside = place_below (slots b) (values b) v t v<k t≤n in
          let within = plan_within plan loosest in
          let often = occurs_entry (slots b) p v t t≤n in
          let fits = close_fits b L U is A B loosest at inside in
          let low = read16_written A L at (omega (arith, inside, long_A)) (omega (arith, fits.0)) in
          let high = read16_written B U at (omega (arith, inside, long_B)) (omega (arith, fits.1)) in
          rw (lowers, uppers) (omega (arith, low, within.lowers at inside, often), omega (arith, high, within.uppers at inside, often))

-- ---- settle
module _ (b M : List ℕ) (r : ℕ) (M' : List ℕ) where
  abbrev SettledAs : ℕ → Option (List ℕ) → Type 0
  SettledAs f o = Settles (bytes_of 4) (unless f (settled_of (slots b) o)) r M M'

  pub settle_means : SettleEntry b M r M' → SettleMeans b M r M'
  unfolding settle_of settle_good bytes_of
  settle_means entry = go (settle_number b M) refl (settled_book b) refl entry
    where
      go : (f : ℕ) → settle_number b M ≡ f → (o : Option (List ℕ)) → settled_book b ≡ o → SettledAs f o → SettleMeans b M r M'
      go (suc x) is o settled settles = Meaning.refuses x is settles.answers settles.masks
      go zero is none settled settles = Meaning.dies is (settled_book_dead b settled) settles.answers settles.masks
      go zero is (some N) settled settles = Meaning.lives is N (settled_book_settles b N settled) settles.answers settles.masks

  pub means_settle : SettleMeans b M r M' → SettleEntry b M r M'
  unfolding settle_of settle_good bytes_of
  means_settle means = go means
    where
      go : SettleMeans b M r M' → SettleEntry b M r M'
      go (Meaning.refuses x is answer written) = at_both SettledAs {o = settled_book b} is refl (record { answers = answer; masks = written })
      go (Meaning.dies is dies answer written) = at_both SettledAs is (dead_settled_book b dies) (record { answers = answer; masks = written })
      go (Meaning.lives is N settles answer written) = at_both SettledAs is (settles_settled_book b N settles) (record { answers = answer; masks = written })

  pub settle_dead_no_plan : SettleEntry b M r M' → r ≡ 1 → (p : List ℕ) → BookPlan b p → ⊥
  settle_dead_no_plan entry dead p plan = go (settle_means entry)
    where
      go : SettleMeans b M r M' → ⊥
      go (Meaning.refuses x is answer written) = omega (arith, answer, dead)
      go (Meaning.dies is dies answer written) = dead_no_plan b (dead_settled_book b dies) p plan
      go (Meaning.lives is N settles answer written) = omega (arith, answer, dead)

  pub settle_plan_kept : SettleEntry b M r M' → r ≡ 0 → (p : List ℕ) → BookPlan b p → WithinMasks b M' p
  settle_plan_kept entry live p plan = go (settle_means entry)
    where
      go : SettleMeans b M r M' → WithinMasks b M' p
      go (Meaning.refuses x is answer written) = absurd (omega (arith, answer, live))
      go (Meaning.dies is dies answer written) = absurd (omega (arith, answer, live))
      go (Meaning.lives is N settles answer written) = λ s s<n.
          let inside : s < length N = omega (arith, settles.largest.within.len, length_masks b, s<n) in
          rw (written, read32_written N M s inside (settle_fits b M is N settles s)) (plan_kept_at b N p (settles_settled_book b N settles) plan s s<n)

-- ---- session
opens_fresh : (b N : List ℕ) → settled_book b ≡ some N → state_after b most_marks [] ≡ fresh N
unfolding runs
opens_fresh b N settled = ap (λ (t : State × List Reply). t.0) (live_run b most_marks N settled [])

-- a book that has a plan opens live
plan_demand3 : (b calls p : List ℕ) → BookPlan b p → Demand3 b most_marks (calls_of calls)
plan_demand3 b calls p plan = go (settled_book b) refl
  where
    go : (o : Option (List ℕ)) → settled_book b ≡ o → Demand3 b most_marks (calls_of calls)
    go none dies = absurd (dead_no_plan b dies p plan)
    go (some N) settled = demand3 b most_marks N settled (calls_of calls)

pub session_plan_kept : (b calls p : List ℕ) → BookPlan b p → PlanMeets p (force_after b most_marks (calls_of calls))
    → Subset (singles p) (session_masks b calls)
session_plan_kept b calls p plan = demand_plan_kept b p plan most_marks (calls_of calls) (plan_demand3 b calls p plan)

module _ (b calls A M : List ℕ) (r : ℕ) (A' M' : List ℕ) where
  abbrev RanAs : ℕ → Option (List ℕ) → Type 0
  RanAs f o = SessionRan (bytes_of 4) (Session.unless f (Session.ran (opened_word o) (session_words b calls) (session_masks b calls))) r A M A' M'

  pub session_means : SessionEntry b calls A M r A' M' → SessionMeans b calls A M r A' M'
  unfolding session_of session_good bytes_of
  session_means entry = go (session_number b calls A M) refl (settled_book b) refl entry
    where
      go : (f : ℕ) → session_number b calls A M ≡ f → (o : Option (List ℕ)) → settled_book b ≡ o → RanAs f o → SessionMeans b calls A M r A' M'
      go (suc x) is o opened ran = Meaning.refuses x is ran.answers ran.words ran.masks
      go zero is none opened ran =
          let shut = dead_opening b most_marks opened (calls_of calls) in
          Meaning.opens_dead is (settled_book_dead b opened) ran.answers shut ran.words
          (ran.masks ∙ ap (λ (S : State). overlay (bytes_of 4 S.masks) M) shut.state)
      go zero is (some N) opened ran =
          let claim = demand3 b most_marks N opened (calls_of calls) in
          Meaning.opens_live_lem is N (settled_book_settles b N opened) (opens_fresh b N opened) ran.answers claim ran.words ran.masks

  pub means_session : SessionMeans b calls A M r A' M' → SessionEntry b calls A M r A' M'
  unfolding session_of session_good bytes_of
  means_session means = go means
    where
      go : SessionMeans b calls A M r A' M' → SessionEntry b calls A M r A' M'
      go (Meaning.refuses x is answer words masks) = at_both RanAs {o = settled_book b} is refl (record { answers = answer; words = words; masks = masks })
      go (Meaning.opens_dead is dies answer claim words masks) =
          let same = sym (ap (λ (S : State). overlay (bytes_of 4 S.masks) M) claim.state) in
          at_both RanAs is (dead_settled_book b dies) (record { answers = answer; words = words; masks = masks ∙ same })
      go (Meaning.opens_live_lem is N settles opening answer claim words masks) =
          at_both RanAs is (settles_settled_book b N settles) (record { answers = answer; words = words; masks = masks })

  pub session_dead_no_plan : SessionEntry b calls A M r A' M' → r ≡ 1 → (p : List ℕ) → BookPlan b p → ⊥
  session_dead_no_plan entry dead p plan = go (session_means entry)
    where
      go : SessionMeans b calls A M r A' M' → ⊥
      go (Meaning.refuses x is answer words masks) = omega (arith, answer, dead)
      go (Meaning.opens_dead is dies answer claim words masks) = dead_no_plan b (dead_settled_book b dies) p plan
      go (Meaning.opens_live_lem is N settles opening answer claim words masks) = omega (arith, answer, dead)

  -- the masks that come back
  pub session_plan_at : SessionEntry b calls A M r A' M' → r < 256 → SessionPlans b calls M'
  session_plan_at entry unrefused p plan meets = go (session_means entry)
    where
      go : SessionMeans b calls A M r A' M' → WithinMasks b M' p
      go (Meaning.refuses x is answer words masks) = absurd (omega (arith, answer, unrefused))
      go (Meaning.opens_dead is dies answer claim words masks) = absurd (dead_no_plan b (dead_settled_book b dies) p plan)
      go (Meaning.opens_live_lem is N settles opening answer claim words masks) = λ s s<n.
          let inside : s < length (session_masks b calls) = omega (arith, claim.largest.allowed.within.len, length_masks b, s<n) in
          rw (masks, read32_written (session_masks b calls) M s inside (session_masks_fit b calls A M is s))
          (demand_plan_at b p plan most_marks (calls_of calls) claim meets s s<n)

  -- the words that come back
  pub dead_decision_no_plan : SessionEntry b calls A M r A' M' → r < 256 → DeadPlanless b calls A'
  dead_decision_no_plan entry unrefused p plan before rest d at one meets = go (session_means entry)
    where
      go : SessionMeans b calls A M r A' M' → ⊥
      go (Meaning.refuses x is answer words masks) = omega (arith, answer, unrefused)
      go (Meaning.opens_dead is dies answer claim words masks) = dead_no_plan b (dead_settled_book b dies) p plan
      go (Meaning.opens_live_lem is N settles opening answer claim words_are masks_are) =
          let said = answer_word b most_marks (calls_of calls) before rest (decide d) at in
          let read = read32_written (session_words b calls) A (2 * length before) said.0 (session_words_fit b calls A M is _ said.0) in
          let reply = answer_to b most_marks (calls_of calls) before in
          let word : (words reply).0 ≡ 1 = sym said.1 ∙ sym read ∙ (rw words_are at one) in
          demand_dead_no_plan b p plan most_marks (calls_of calls) claim before rest d at (first_word_unrefused reply (omega (arith, word)))
          ((first_word_dead reply).1 word) meets
