-- How much a session's run holds, whatever the book and the calls: two words a call (`length_words`), the first of them at twice the call's place
-- (`answer_word`), a mask for each slot (`length_masks_after`), and no more open marks than the limit (`saved_limit`). No contract cites this file.
-- Assumes nothing.
use mathlib.Core.Path.{◌≡◌, refl, ap, ◌∙◌}
use mathlib.Core.List.{List, [], ◌∷◌}
use mathlib.Core.Option.{Option, none, some}
use Prim.Native.Nat.{ℕ, suc, ◌+◌, ◌*◌, ◌≤◌, ◌<◌, zero-le}
use native.Mathlib.Omega.{arith}
use lib.ListN.{length, get_or, length-append, length-replicate}
use borrow.Author.Tests.{leb-false}
use Rattle.book.specs.Layout.{slots, masks}
use Rattle.book.proofs.LayoutLaws.{length_masks}
use Rattle.settling_model.specs.Book.{settled_book}
use Rattle.session_model.specs.Decisions.{cut}
use Rattle.session_model.specs.Calls.{Call, decide, mark, back, show, walls, unknown}
use Rattle.session_model.specs.State.{Rules, State, words, words_of}
use Rattle.session_model.specs.Refusal.{Refusal, marks_full, refusal}
use Rattle.session_model.specs.Machine.{decided, restored, act, step, runs, opened, run}
use Rattle.session_model.specs.BookRun.{rules_of, state_after, replies_of}
use Rattle.session_model.specs.Demand.{At, answer_to}
use Rattle.session_model.proofs.OrderLaws.{none_applies_not}
use Rattle.session_model.proofs.RunLaws.{length_run, length_words_of, words_of_first}
use Rattle.session_model.proofs.StepLaws.{step_refused, step_acts}
use Rattle.session_model.proofs.BookRunLaws.{settled_closed}
use Rattle.session_model.proofs.LiveLaws.{live_kept}
use Rattle.session_model.proofs.DeadOpeningLaws.{dead_opening}

module _ (b : List ℕ) (limit : ℕ) (calls : List Call) where
  -- ---- words and masks
  pub length_words : length (words_of (replies_of b limit calls)) ≡ 2 * length calls
  length_words = length_words_of (replies_of b limit calls) ∙ ap (λ (m : ℕ). 2 * m) (length_run (rules_of b limit) (masks b) calls)

  -- the first word of the call that comes after the calls `before`
  pub answer_word : (before rest : List Call) (c : Call) → At calls before c rest
      → (2 * length before < length (words_of (replies_of b limit calls)))
      × (get_or (words_of (replies_of b limit calls)) (2 * length before) 0 ≡ (words (answer_to b limit calls before)).0)
  answer_word before rest c at =
      let all : length calls ≡ length before + suc (length rest) = ap length at ∙ length-append before (c ∷ rest) in (
        omega (arith, length_words, all),
        words_of_first (replies_of b limit calls) (length before) (omega (arith, length_run (rules_of b limit) (masks b) calls, all)),
      )

  pub length_masks_after : length (state_after b limit calls).masks ≡ slots b
  length_masks_after = go (settled_book b) refl
    where
      go : (o : Option (List ℕ)) → settled_book b ≡ o → length (state_after b limit calls).masks ≡ slots b
      go none dies = ap (λ (S : State). length S.masks) (dead_opening b limit dies calls).state ∙ length-replicate (slots b) 0
      go (some M) settles =
          let closes = settled_closed b M settles in
          (live_kept b limit M settles closes.0 closes.1 closes.2 calls).force.allowed.within.len ∙ length_masks b

-- ---- open marks
module _ (R : Rules) where
  act_limit : (S : State) (c : Call) → refusal R S c ≡ none → length S.saved ≤ R.limit → length (act R S c).0.saved ≤ R.limit
  unfolding act decided restored
  act_limit S (decide d) unrefused within = go (R.settle (cut d S.masks))
    where
      go : (o : Option (List ℕ)) → length (decided R S o).0.saved ≤ R.limit
      go none = within
      go (some N) = within
  act_limit S mark unrefused within = leb-false R.limit (length S.saved) (none_applies_not R S mark unrefused marks_full)
  act_limit S back unrefused within = go S.saved within
    where
      go : (Ms : List (List ℕ)) → length Ms ≤ R.limit → length (restored S Ms).saved ≤ R.limit
      go [] fits = within
      go (M ∷ Ms) fits = omega arith
  act_limit S (show s) unrefused within = within
  act_limit S (walls kind v) unrefused within = within
  act_limit S unknown unrefused within = within

  step_limit : (S : State) (c : Call) → length S.saved ≤ R.limit → length (step R S c).0.saved ≤ R.limit
  step_limit S c within = go (refusal R S c) refl
    where
      go : (o : Option Refusal) → refusal R S c ≡ o → length (step R S c).0.saved ≤ R.limit
      go none e = rw (step_acts R S c e) (act_limit S c e within)
      go (some r) e = rw (step_refused R S c r e) within

  runs_limit : (S : State) (calls : List Call) → length S.saved ≤ R.limit → length (runs R S calls).0.saved ≤ R.limit
  unfolding runs
  runs_limit S [] within = within
  runs_limit S (c ∷ calls) within = runs_limit (step R S c).0 calls (step_limit S c within)

pub saved_limit : (b : List ℕ) (limit : ℕ) (calls : List Call) → length (state_after b limit calls).saved ≤ limit
unfolding run opened
saved_limit b limit calls = go ((rules_of b limit).settle (masks b))
  where
    go : (o : Option (List ℕ)) → length (runs (opened (rules_of b limit) o).0 (opened (rules_of b limit) o).1 calls).0.saved ≤ limit
    go none = runs_limit (opened (rules_of b limit) none).0 (opened (rules_of b limit) none).1 calls zero-le
    go (some M) = runs_limit (rules_of b limit) (opened (rules_of b limit) (some M)).1 calls zero-le
