-- A book that opens live: after any list the state is `Kept` for the bounds of the closed table (`live_kept`), and a call inside a list is one
-- step from the state after the calls before it (`reply_step`, `state_step`), so a decision in it is `Answered` (`live_answered`).
-- No contract cites this file. Assumes nothing.
use mathlib.Core.Path.{◌≡◌, sym, ap, ◌∙◌, subst, subst⁻¹}
use mathlib.Core.List.{List, [], ◌∷◌, ◌++◌}
use mathlib.Core.Option.{none, some}
use Prim.Native.Nat.{ℕ}
use lib.ListN.{length, get_or}
use Rattle.book.specs.Layout.{masks}
use Rattle.closing_model.specs.Table.{view}
use Rattle.settling_model.specs.Book.{closed_book, settled_book}
use Rattle.settling_model.proofs.SettlingLaws.{settling_largest, settling_unstable}
use Rattle.session_model.specs.Decisions.{Decision, cut_all}
use Rattle.session_model.specs.Calls.{Call, decide}
use Rattle.session_model.specs.State.{State, Reply, done}
use Rattle.session_model.specs.Refusal.{refusal}
use Rattle.session_model.specs.Machine.{step, fresh}
use Rattle.session_model.specs.InForce.{follow_all, unmarked}
use Rattle.session_model.specs.BookRun.{rules_of, state_after, replies_of}
use Rattle.session_model.specs.Demand.{Refused, At, through, answer_to, bounds_of}
use Rattle.session_model.proofs.DecisionsLaws.{largest_under}
use Rattle.session_model.proofs.NewsLaws.{news_total_mono}
use Rattle.session_model.proofs.StepLaws.{unrefused_none}
use Rattle.session_model.proofs.RunLaws.{runs_reply}
use Rattle.session_model.proofs.KeptLaws.{Adequate, Piled, Kept, runs_kept, Answered, step_answered}
use Rattle.session_model.proofs.BookRunLaws.{rules_of_settle, rules_of_closed, live_run, live_snoc}

module _ (b : List ℕ) (limit : ℕ) (M : List ℕ) (settles : settled_book b ≡ some M) where
  -- ---- a call inside a list
  pub reply_step : (calls before rest : List Call) (c : Call) → At calls before c rest
      → answer_to b limit calls before ≡ (step (rules_of b limit) (state_after b limit before) c).1
  reply_step calls before rest c at =
      ap (λ (l : List Call). answer_to b limit l before) at
      ∙ ap (λ (t : State × List Reply). get_or t.1 (length before) done) (live_run b limit M settles (before ++ (c ∷ rest)))
      ∙ runs_reply (rules_of b limit) (fresh M) before rest c
      ∙ ap (λ (t : State × List Reply). (step (rules_of b limit) t.0 c).1) (sym (live_run b limit M settles before))

  pub answer_unrefused : (calls before rest : List Call) (c : Call) → At calls before c rest → (Refused (answer_to b limit calls before) → ⊥)
      → refusal (rules_of b limit) (state_after b limit before) c ≡ none
  answer_unrefused calls before rest c at not_refused =
      unrefused_none (rules_of b limit) (state_after b limit before) c
      (subst (λ (r : Reply). Refused r → ⊥) (reply_step calls before rest c at) not_refused)

  pub state_step : (before : List Call) (c : Call) → state_after b limit (through before c) ≡ (step (rules_of b limit) (state_after b limit before) c).0
  state_step before c = ap (λ (t : State × List Reply). t.0) (live_snoc b limit M settles before c)

  -- ---- Kept
  module _ (L U : List ℕ) (closes : closed_book b ≡ some (L, U)) where
    pub closed_adequate : Adequate (rules_of b limit) (bounds_of b (view L U))
    closed_adequate =
        record {
          settles = λ X N is. settling_largest (bounds_of b (view L U)) X N (sym (rules_of_closed b limit L U closes X) ∙ is);
          fails = λ X is. settling_unstable (bounds_of b (view L U)) X (sym (rules_of_closed b limit L U closes X) ∙ is);
          fewer = news_total_mono _;
        }

    fresh_kept : Kept (bounds_of b (view L U)) (masks b) unmarked (fresh M)
    unfolding cut_all Piled
    fresh_kept = record { force = largest_under [] (closed_adequate.settles (masks b) M (rules_of_settle b limit ∙ settles)); marks = tt }

    pub live_kept : (calls : List Call) → Kept (bounds_of b (view L U)) (masks b) (follow_all unmarked calls (replies_of b limit calls)) (state_after b limit calls)
    live_kept calls =
        subst⁻¹ (λ (t : State × List Reply). Kept (bounds_of b (view L U)) (masks b) (follow_all unmarked calls t.1) t.0) (live_run b limit M settles calls)
        (runs_kept (rules_of b limit) (bounds_of b (view L U)) closed_adequate (masks b) calls unmarked (fresh M) fresh_kept)

    -- ---- Answered
    pub live_answered : (before : List Call) (d : Decision) → (Refused (step (rules_of b limit) (state_after b limit before) (decide d)).1 → ⊥)
        → Answered (rules_of b limit) (bounds_of b (view L U)) (masks b) (follow_all unmarked before (replies_of b limit before)) (state_after b limit before) d
        (step (rules_of b limit) (state_after b limit before) (decide d)).1 (step (rules_of b limit) (state_after b limit before) (decide d)).0
    live_answered before d =
        step_answered (rules_of b limit) (bounds_of b (view L U)) closed_adequate (masks b) (follow_all unmarked before (replies_of b limit before))
        (state_after b limit before) (live_kept before) d
