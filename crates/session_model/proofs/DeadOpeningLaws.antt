-- A book that opens dead (`dead_opening`): every call leaves the opening's state, so a list's answers are those of single calls on it.
-- No contract cites this file. Assumes nothing.
use mathlib.Core.Path.{◌≡◌, refl, sym, ap, ◌∙◌}
use mathlib.Core.Logic.{◌↔◌}
use mathlib.Core.Bool.{true, false, true≢false}
use mathlib.Core.List.{List, [], ◌∷◌, ◌++◌}
use mathlib.Core.Option.{Option, none, some}
use Prim.Native.Nat.{ℕ, ◌≤◌, ◌<◌}
use native.Mathlib.Omega.{arith}
use lib.ListN.{length, get_or, get_or-replicate}
use Rattle.settling_model.specs.Book.{settled_book}
use Rattle.session_model.specs.Decisions.{Decision, assign, remove, slot_of, value_of}
use Rattle.session_model.specs.Calls.{Call, decide, mark, back, show, walls, unknown}
use Rattle.session_model.specs.State.{Rules, State, Reply, value, done, refused}
use Rattle.session_model.specs.Refusal.{Refusal, while_dead, number, applies, first, refusal}
use Rattle.session_model.specs.Machine.{step, runs, wallless, shut}
use Rattle.session_model.specs.InForce.{Ledger, when_live, when_done, follow, follow_all, unmarked}
use Rattle.session_model.specs.BookRun.{rules_of, state_after}
use Rattle.session_model.specs.Demand.{At, answer_to, DeadOpening}
use Rattle.session_model.proofs.OrderLaws.{none_applies_not}
use Rattle.session_model.proofs.RefusalLaws.{refusal_decide_slot, refusal_decide_value, refusal_decide_dead, refusal_mark_dead, refusal_back_empty}
use Rattle.session_model.proofs.StepLaws.{step_refused, step_show, step_walls, refused_number, dead_waits}
use Rattle.session_model.proofs.RunLaws.{runs_reply}
use Rattle.session_model.proofs.BookRunLaws.{shut_run}

-- the walls are no part of a refusal
refusal_wallless : (R : Rules) (S : State) (c : Call) → refusal (wallless R) S c ≡ refusal R S c
unfolding refusal first
refusal_wallless R S c = refl

-- ---- one call on the opening's state
module _ (R : Rules) where
  abbrev shut_step : Call → State × Reply
  shut_step c = step (wallless R) (shut R) c

  shut_slot : (d : Decision) → R.slots ≤ slot_of d → shut_step (decide d) ≡ (shut R, refused 12)
  shut_slot d out = step_refused (wallless R) (shut R) (decide d) _ (refusal_decide_slot (wallless R) (shut R) d out)

  shut_value : (d : Decision) → slot_of d < R.slots → R.values ≤ value_of d → shut_step (decide d) ≡ (shut R, refused 13)
  shut_value d inside out = step_refused (wallless R) (shut R) (decide d) _ (refusal_decide_value (wallless R) (shut R) d inside out)

  shut_decide : (d : Decision) → slot_of d < R.slots → value_of d < R.values → shut_step (decide d) ≡ (shut R, refused 15)
  shut_decide d inside below = step_refused (wallless R) (shut R) (decide d) _ (refusal_decide_dead (wallless R) (shut R) d refl inside below)

  -- whatever its slot and value, a decision is refused
  shut_refuses : (d : Decision) → (x : ℕ) × (shut_step (decide d) ≡ (shut R, refused x))
  shut_refuses d = go (refusal (wallless R) (shut R) (decide d)) refl
    where
      waits : (d : Decision) → applies (wallless R) (shut R) (decide d) while_dead ≡ true
      waits (assign s v) = refl
      waits (remove s v) = refl

      go : (o : Option Refusal) → refusal (wallless R) (shut R) (decide d) ≡ o → (x : ℕ) × (shut_step (decide d) ≡ (shut R, refused x))
      go none is = absurd (true≢false (sym (waits d) ∙ none_applies_not (wallless R) (shut R) (decide d) is while_dead))
      go (some r) is = (number r, step_refused (wallless R) (shut R) (decide d) r is)

  shut_mark : shut_step mark ≡ (shut R, refused 15)
  shut_mark = step_refused (wallless R) (shut R) mark _ (refusal_mark_dead (wallless R) (shut R) refl)

  shut_back : shut_step back ≡ (shut R, refused 14)
  shut_back = step_refused (wallless R) (shut R) back _ (refusal_back_empty (wallless R) (shut R) refl)

  shut_stays : (c : Call) → (shut_step c).0 ≡ shut R
  shut_stays (decide d) = ap (λ (t : State × Reply). t.0) (shut_refuses d).1
  shut_stays mark = ap (λ (t : State × Reply). t.0) shut_mark
  shut_stays back = ap (λ (t : State × Reply). t.0) shut_back
  shut_stays (show s) = dead_waits (wallless R) (shut R) (show s) refl (omega arith)
  shut_stays (walls true v) = dead_waits (wallless R) (shut R) (walls true v) refl (omega arith)
  shut_stays (walls false v) = dead_waits (wallless R) (shut R) (walls false v) refl (omega arith)
  shut_stays unknown = dead_waits (wallless R) (shut R) unknown refl (omega arith)

  shut_follow : (c : Call) → follow unmarked c (shut_step c).1 ≡ unmarked
  unfolding follow when_live when_done
  shut_follow (decide d) = ap (λ (t : State × Reply). follow unmarked (decide d) t.1) (shut_refuses d).1
  shut_follow mark = ap (λ (t : State × Reply). follow unmarked mark t.1) shut_mark
  shut_follow back = ap (λ (t : State × Reply). follow unmarked back t.1) shut_back
  shut_follow (show s) = refl
  shut_follow (walls kind v) = refl
  shut_follow unknown = refl

  -- ---- a list of them
  runs_shut : (calls : List Call) → (runs (wallless R) (shut R) calls).0 ≡ shut R
  unfolding runs
  runs_shut [] = refl
  runs_shut (c ∷ calls) = ap (λ (S : State). (runs (wallless R) S calls).0) (shut_stays c) ∙ runs_shut calls

  follow_shut : (calls : List Call) → follow_all unmarked calls (runs (wallless R) (shut R) calls).1 ≡ unmarked
  unfolding runs follow_all
  follow_shut [] = refl
  follow_shut (c ∷ calls) =
      ap (λ (L : Ledger). follow_all L calls (runs (wallless R) (shut_step c).0 calls).1) (shut_follow c)
      ∙ ap (λ (S : State). follow_all unmarked calls (runs (wallless R) S calls).1) (shut_stays c)
      ∙ follow_shut calls

module _ (b : List ℕ) (limit : ℕ) (dies : settled_book b ≡ none) where
  shut_state : (calls : List Call) → state_after b limit calls ≡ shut (rules_of b limit)
  shut_state calls = ap (λ (t : State × List Reply). t.0) (shut_run b limit dies calls) ∙ runs_shut (rules_of b limit) calls

  shut_reply : (calls before rest : List Call) (c : Call) → At calls before c rest → answer_to b limit calls before ≡ (shut_step (rules_of b limit) c).1
  shut_reply calls before rest c at =
      ap (λ (l : List Call). answer_to b limit l before) at
      ∙ ap (λ (t : State × List Reply). get_or t.1 (length before) done) (shut_run b limit dies (before ++ (c ∷ rest)))
      ∙ runs_reply (wallless (rules_of b limit)) (shut (rules_of b limit)) before rest c
      ∙ ap (λ (S : State). (step (wallless (rules_of b limit)) S c).1) (runs_shut (rules_of b limit) before)

  shut_refused : (calls before rest : List Call) (c : Call) (x : ℕ) → At calls before c rest
      → (answer_to b limit calls before ≡ refused x)
      ↔ ((r : Refusal) × (refusal (rules_of b limit) (state_after b limit before) c ≡ some r) × (x ≡ number r))
  shut_refused calls before rest c x at =
      rw (shut_state before, shut_reply calls before rest c at, ← refusal_wallless (rules_of b limit) (shut (rules_of b limit)) c)
      (refused_number (wallless (rules_of b limit)) (shut (rules_of b limit)) c x)

  -- ---- the claim
  pub dead_opening : (calls : List Call) → DeadOpening b limit calls
  dead_opening calls =
      let R = rules_of b limit in
      let told = shut_reply calls in
      record {
        state = shut_state calls;
        force =
            ap (λ (t : State × List Reply). (follow_all unmarked calls t.1).force) (shut_run b limit dies calls)
            ∙ ap (λ (L : Ledger). L.force) (follow_shut R calls);
        slots_out = λ before rest d at out. told before rest (decide d) at ∙ ap (λ (t : State × Reply). t.1) (shut_slot R d out);
        values_out = λ before rest d at inside out. told before rest (decide d) at ∙ ap (λ (t : State × Reply). t.1) (shut_value R d inside out);
        decisions = λ before rest d at inside below. told before rest (decide d) at ∙ ap (λ (t : State × Reply). t.1) (shut_decide R d inside below);
        marks = λ before rest at. told before rest mark at ∙ ap (λ (t : State × Reply). t.1) (shut_mark R);
        backs = λ before rest at. told before rest back at ∙ ap (λ (t : State × Reply). t.1) (shut_back R);
        shows = λ before rest s at inside.
            told before rest (show s) at
            ∙ ap (λ (t : State × Reply). t.1) (step_show (wallless R) (shut R) s inside)
            ∙ ap value (get_or-replicate R.slots s 0 0 inside);
        counts = λ before rest kind v at below.
            told before rest (walls kind v) at ∙ ap (λ (t : State × Reply). t.1) (step_walls (wallless R) (shut R) kind v below);
        refuses = shut_refused calls;
      }
