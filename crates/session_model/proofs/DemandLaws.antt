-- Demand 3 of the plain machine (`demand3`): for every book that settles, every limit on marks and every list of calls. The masks and the saved
-- masks by the invariant `Kept`, each answer by one step from the state after the calls before it. `demand_largest` is its first claim in the
-- settling's own words. No contract cites this file. Assumes nothing.
use mathlib.Core.Path.{◌≡◌, sym, ap, ◌∙◌, subst, subst⁻¹}
use mathlib.Core.Logic.{◌↔◌}
use mathlib.Core.List.{List, ◌∷◌}
use mathlib.Core.Option.{some}
use Prim.Native.Nat.{ℕ, ◌+◌}
use native.Mathlib.Omega.{arith}
use Rattle.book.specs.Layout.{idle, masks}
use Rattle.closing_model.specs.Table.{view}
use Rattle.settling_model.specs.Stable.{Largest}
use Rattle.settling_model.specs.Book.{closed_book, settled_book}
use Rattle.settling_model.proofs.BookLaws.{closed_book_loosest}
use Rattle.session_model.specs.News.{news_total}
use Rattle.session_model.specs.Decisions.{assign, remove, cut_all, LargestUnder, UnstableUnder}
use Rattle.session_model.specs.Calls.{Call, decide, mark, back, show, walls}
use Rattle.session_model.specs.State.{State, Reply, live, dead, value, refused, words}
use Rattle.session_model.specs.Refusal.{Refusal, number, refusal}
use Rattle.session_model.specs.Machine.{step}
use Rattle.session_model.specs.BookRun.{rules_of, state_after, force_after, marks_after}
use Rattle.session_model.specs.Demand.{bounds_of, Refused, Demand3}
use Rattle.session_model.proofs.DecisionsLaws.{under_largest}
use Rattle.session_model.proofs.StepLaws.{step_show, step_walls, mark_done, back_done, live_or_dead_decides, refused_number, refused_keeps, dead_waits}
use Rattle.session_model.proofs.StandingLaws.{standing_flag}
use Rattle.session_model.proofs.KeptLaws.{piled_length, piled_at}
use Rattle.session_model.proofs.BookRunLaws.{rules_of_standing, settled_closed}
use Rattle.session_model.proofs.LiveLaws.{reply_step, answer_unrefused, state_step, live_kept, live_answered}
use Rattle.session_model.proofs.AbsentLaws.{absent_assign_dead, absent_remove_live}

module _ (b : List ℕ) (limit : ℕ) (M : List ℕ) (settles : settled_book b ≡ some M) (L U : List ℕ) (closes : closed_book b ≡ some (L, U)) where
  -- ---- the answers live and dead, whatever the call
  module _ (before : List Call) where
    abbrev next : Call → State × Reply
    next c = step (rules_of b limit) (state_after b limit before) c

    live_struck : (c : Call) (x : ℕ) → (next c).1 ≡ live x → x + news_total (idle b) (next c).0.masks ≡ news_total (idle b) (state_after b limit before).masks
    live_struck c x is =
        live_or_dead_decides (rules_of b limit) (state_after b limit before)
        (λ a. (next a).1 ≡ live x → x + news_total (idle b) (next a).0.masks ≡ news_total (idle b) (state_after b limit before).masks)
        (λ d lives. (live_answered b limit M settles L U closes before d (subst⁻¹ (λ (r : Reply). Refused r → ⊥) lives (λ no. no))).struck x lives)
        c (omega (arith, ap (λ (r : Reply). (words r).0) is)) is

    dead_stays : (c : Call) → (next c).1 ≡ dead → (next c).0.masks ≡ (state_after b limit before).masks
    dead_stays c is =
        live_or_dead_decides (rules_of b limit) (state_after b limit before) (λ a. (next a).1 ≡ dead → (next a).0.masks ≡ (state_after b limit before).masks)
        (λ d dies. (live_answered b limit M settles L U closes before d (subst⁻¹ (λ (r : Reply). Refused r → ⊥) dies (λ no. no))).stays dies)
        c (omega (arith, ap (λ (r : Reply). (words r).0) is)) is

  -- ---- the claim
  closed_demand3 : (calls : List Call) → Demand3 b limit calls
  closed_demand3 calls =
      let told = reply_step b limit M settles calls in
      let left = state_step b limit M settles in
      record {
        table = view L U;
        loosest = closed_book_loosest b L U closes;
        largest = (live_kept b limit M settles L U closes calls).force;
        dies = λ before rest d at not_refused.
            let is = told before rest (decide d) at in
            subst⁻¹ (λ (r : Reply). (r ≡ dead) ↔ UnstableUnder (bounds_of b (view L U)) (masks b) (d ∷ force_after b limit before)) is
            (live_answered b limit M settles L U closes before d (subst (λ (r : Reply). Refused r → ⊥) is not_refused)).dies;
        lives = λ before rest d at not_refused not_dead.
            let is = told before rest (decide d) at in
            let answered = live_answered b limit M settles L U closes before d (subst (λ (r : Reply). Refused r → ⊥) is not_refused) in
            let lives = answered.lives (λ dies. not_dead (is ∙ dies)) in
            (lives.0, is ∙ lives.1);
        struck = λ before rest c x at lives.
            subst⁻¹ (λ (S : State). x + news_total (idle b) S.masks ≡ news_total (idle b) (state_after b limit before).masks) (left before c)
            (live_struck before c x (sym (told before rest c at) ∙ lives));
        absent_dies = λ before rest s v at not_refused lacks.
            let is = told before rest (decide (assign s v)) at in
            is ∙ absent_assign_dead b limit M settles L U closes before s v lacks (subst (λ (r : Reply). Refused r → ⊥) is not_refused);
        absent_lives = λ before rest s v at not_refused lacks.
            let is = told before rest (decide (remove s v)) at in
            is ∙ absent_remove_live b limit M settles L U closes before s v lacks (subst (λ (r : Reply). Refused r → ⊥) is not_refused);
        counts = λ before rest kind v at below.
            told before rest (walls kind v) at
            ∙ ap (λ (t : State × Reply). t.1) (step_walls (rules_of b limit) (state_after b limit before) kind v below)
            ∙ ap value (rules_of_standing b limit L U closes kind (state_after b limit before).masks v);
        shows = λ before rest s at inside.
            told before rest (show s) at ∙ ap (λ (t : State × Reply). t.1) (step_show (rules_of b limit) (state_after b limit before) s inside);
        marked = λ before rest at not_refused.
            told before rest mark at
            ∙ mark_done (rules_of b limit) (state_after b limit before) (answer_unrefused b limit M settles calls before rest mark at not_refused);
        restored = λ before rest at not_refused.
            told before rest back at
            ∙ back_done (rules_of b limit) (state_after b limit before) (answer_unrefused b limit M settles calls before rest back at not_refused);
        refuses = λ before rest c x at.
            subst⁻¹ (λ (r : Reply). (r ≡ refused x) ↔ ((f : Refusal) × (refusal (rules_of b limit) (state_after b limit before) c ≡ some f) × (x ≡ number f)))
            (told before rest c at) (refused_number (rules_of b limit) (state_after b limit before) c x);
        keeps = λ before rest c at is.
            left before c ∙ refused_keeps (rules_of b limit) (state_after b limit before) c (subst (λ (r : Reply). Refused r) (told before rest c at) is);
        stays = λ before rest c at is.
            ap (λ (S : State). S.masks) (left before c) ∙ dead_stays before c (sym (told before rest c at) ∙ is);
        waits = λ before rest c at up no_back. left before c ∙ dead_waits (rules_of b limit) (state_after b limit before) c up no_back;
        flag = standing_flag b limit calls;
        marks = piled_length _ (marks_after b limit calls) (state_after b limit calls).saved (live_kept b limit M settles L U closes calls).marks;
        saved = λ i inside.
            piled_at (λ ds N. LargestUnder (bounds_of b (view L U)) (masks b) ds N) (marks_after b limit calls) (state_after b limit calls).saved
            (live_kept b limit M settles L U closes calls).marks i inside;
      }

pub demand3 : (b : List ℕ) (limit : ℕ) (M : List ℕ) → settled_book b ≡ some M → (calls : List Call) → Demand3 b limit calls
demand3 b limit M settles calls =
    let closes = settled_closed b M settles in
    closed_demand3 b limit M settles closes.0 closes.1 closes.2 calls

-- in the settling's own words: the largest stable list within the book's masks cut by the decisions in force
pub demand_largest : {b : List ℕ} {limit : ℕ} {calls : List Call} (claim : Demand3 b limit calls)
    → Largest (bounds_of b claim.table) (cut_all (force_after b limit calls) (masks b)) (state_after b limit calls).masks
demand_largest {b} {limit} {calls} claim = under_largest (force_after b limit calls) claim.largest
