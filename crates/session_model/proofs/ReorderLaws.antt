-- The laws of `specs/Reorder.antt`: what the order of the numbers changed, of one call (`renumbered`, `reorder_state`) and of a list (`reordered`).
-- No contract cites this file. Assumes nothing.
use mathlib.Core.Path.{◌≡◌, refl, sym, ap, ◌∙◌}
use mathlib.Core.Bool.{Bool, true, false, cond, ◌&&◌, ◌||◌, true≢false, and-true, and-false}
use mathlib.Core.List.{List, [], ◌∷◌, ◌++◌}
use mathlib.Core.Option.{Option, none, some}
use Prim.Native.Nat.{ℕ, suc, ◌<◌}
use native.Mathlib.Omega.{arith}
use lib.Dec.{leb}
use lib.ListN.{length, get_or}
use Rattle.book.specs.Layout.{masks}
use Rattle.settling_model.specs.Book.{settled_book}
use Rattle.session_model.specs.Decisions.{Decision, assign, remove, slot_of, value_of}
use Rattle.session_model.specs.Calls.{Call, decide, mark, back, show, walls, unknown}
use Rattle.session_model.specs.State.{Rules, State, Reply, done, refused, words}
use Rattle.session_model.specs.Refusal.{Refusal, slot_out, value_out, while_dead, number, slot_fails, first, refusal}
use Rattle.session_model.specs.Machine.{step_by, step, runs, opened, run}
use Rattle.session_model.specs.InForce.{Ledger, follow, follow_all, unmarked}
use Rattle.session_model.specs.Standing.{Standing, stand, stand_from, opening}
use Rattle.session_model.specs.BookRun.{rules_of, state_after}
use Rattle.session_model.specs.Reorder.{refusal_before, step_before, runs_before, run_before, changed, Renumbered, Reordered}
use Rattle.session_model.proofs.InForceLaws.{follow_refused}
use Rattle.session_model.proofs.RunLaws.{runs_reply, length_replies}

-- ---- one call
module _ (R : Rules) (S : State) where
  abbrev Both : Call → Type 0
  Both c = ((step_before R S c).0 ≡ (step R S c).0) × Renumbered R S c (step_before R S c).1 (step R S c).1

  both_same : (c : Call) → changed R S c ≡ false → refusal_before R S c ≡ refusal R S c → Both c
  unfolding step
  both_same c not is =
      let steps : step_before R S c ≡ step R S c = ap (step_by R S c) is in
      let alike = ap (λ (t : State × Reply). t.1) steps in (
        ap (λ (t : State × Reply). t.0) steps,
        record {
          differs = (λ other. absurd (other (ap words alike)), λ up. absurd (true≢false (sym up ∙ not)));
          same = λ down. alike;
          before = λ up. absurd (true≢false (sym up ∙ not));
          now = λ up. absurd (true≢false (sym up ∙ not));
        },
      )

  both_changed : (c : Call) (r : Refusal) → changed R S c ≡ true → refusal_before R S c ≡ some while_dead → refusal R S c ≡ some r
      → number r ≡ cond (slot_fails R.slots c) 12 13 → number r < 15 → Both c
  unfolding step step_by
  both_changed c r is was now which less =
      let before : step_before R S c ≡ (S, refused 15) = ap (step_by R S c) was in
      let after : step R S c ≡ (S, refused (number r)) = ap (step_by R S c) now in
      let before_word = ap (λ (t : State × Reply). (words t.1).0) before in
      let after_word = ap (λ (t : State × Reply). (words t.1).0) after in (
        ap (λ (t : State × Reply). t.0) before ∙ sym (ap (λ (t : State × Reply). t.0) after),
        record {
          differs = (λ other. is, λ up alike. omega (arith, before_word, after_word, less, ap (λ (w : ℕ × ℕ). w.0) alike));
          same = λ down. absurd (true≢false (sym is ∙ down));
          before = λ up. ap (λ (t : State × Reply). t.1) before;
          now = λ up. ap (λ (t : State × Reply). t.1) after ∙ ap refused which;
        },
      )

  changed_reads : (d : Decision) → changed R S (decide d) ≡ (S.dead && (leb R.slots (slot_of d) || leb R.values (value_of d)))
  changed_reads (assign s v) = refl
  changed_reads (remove s v) = refl

  -- both orders on a decision, by the three tests that it meets
  module _ (d : Decision) (flag outside absent : Bool) (up : S.dead ≡ flag) (slot : leb R.slots (slot_of d) ≡ outside)
      (value : leb R.values (value_of d) ≡ absent) where
    before_decide : refusal_before R S (decide d) ≡ cond flag (some while_dead) (cond outside (some slot_out) (cond absent (some value_out) none))
    unfolding first
    before_decide = go d slot value
      where
        go : (d : Decision) → leb R.slots (slot_of d) ≡ outside → leb R.values (value_of d) ≡ absent
            → refusal_before R S (decide d) ≡ cond flag (some while_dead) (cond outside (some slot_out) (cond absent (some value_out) none))
        go (assign s v) slot' value' = rw (up, slot', value', and-true flag) refl
        go (remove s v) slot' value' = rw (up, slot', value', and-true flag) refl

    now_decide : refusal R S (decide d) ≡ cond outside (some slot_out) (cond absent (some value_out) (cond flag (some while_dead) none))
    unfolding refusal first
    now_decide = go d slot value
      where
        go : (d : Decision) → leb R.slots (slot_of d) ≡ outside → leb R.values (value_of d) ≡ absent
            → refusal R S (decide d) ≡ cond outside (some slot_out) (cond absent (some value_out) (cond flag (some while_dead) none))
        go (assign s v) slot' value' = rw (up, slot', value', and-true flag) refl
        go (remove s v) slot' value' = rw (up, slot', value', and-true flag) refl

    changed_decide : changed R S (decide d) ≡ (flag && (outside || absent))
    changed_decide = changed_reads d ∙ rw (up, slot, value) refl

  both_decide : (d : Decision) (flag outside absent : Bool) → S.dead ≡ flag → leb R.slots (slot_of d) ≡ outside
      → leb R.values (value_of d) ≡ absent → Both (decide d)
  both_decide d true true absent up slot value =
      both_changed (decide d) slot_out (changed_decide d _ _ _ up slot value) (before_decide d _ _ _ up slot value) (now_decide d _ _ _ up slot value)
      (rw slot refl) (omega arith)
  both_decide d true false true up slot value =
      both_changed (decide d) value_out (changed_decide d _ _ _ up slot value) (before_decide d _ _ _ up slot value) (now_decide d _ _ _ up slot value)
      (rw slot refl) (omega arith)
  both_decide d true false false up slot value =
      both_same (decide d) (changed_decide d _ _ _ up slot value) (before_decide d _ _ _ up slot value ∙ sym (now_decide d _ _ _ up slot value))
  both_decide d false outside absent up slot value =
      both_same (decide d) (changed_decide d _ _ _ up slot value) (before_decide d _ _ _ up slot value ∙ sym (now_decide d _ _ _ up slot value))

  both : (c : Call) → Both c
  unfolding refusal first
  both (decide d) = both_decide d S.dead (leb R.slots (slot_of d)) (leb R.values (value_of d)) refl refl refl
  both mark = both_same mark refl refl
  both back = both_same back refl (rw (and-false S.dead) refl)
  both (show s) = both_same (show s) refl (rw (and-false S.dead) refl)
  both (walls true v) = both_same (walls true v) refl (rw (and-false S.dead) refl)
  both (walls false v) = both_same (walls false v) refl (rw (and-false S.dead) refl)
  both unknown = both_same unknown refl refl

  pub reorder_state : (c : Call) → (step_before R S c).0 ≡ (step R S c).0
  reorder_state c = (both c).0

  pub renumbered : (c : Call) → Renumbered R S c (step_before R S c).1 (step R S c).1
  renumbered c = (both c).1

-- ---- a list of calls
module _ (R : Rules) where
  -- what takes each refusal alike takes the two answers to a call alike
  unnumbered : {A : Type 0} (f : Reply → A) (S : State) (c : Call) → ((x y : ℕ) → f (refused x) ≡ f (refused y)) → f (step_before R S c).1 ≡ f (step R S c).1
  unnumbered f S c alike = go (changed R S c) refl
    where
      go : (is : Bool) → changed R S c ≡ is → f (step_before R S c).1 ≡ f (step R S c).1
      go false is = ap f ((renumbered R S c).same is)
      go true is = ap f ((renumbered R S c).before is) ∙ alike _ _ ∙ sym (ap f ((renumbered R S c).now is))

  runs_state : (S : State) (calls : List Call) → (runs_before R S calls).0 ≡ (runs R S calls).0
  unfolding runs_before runs
  runs_state S [] = refl
  runs_state S (c ∷ calls) =
      ap (λ (next : State). (runs_before R next calls).0) (reorder_state R S c) ∙ runs_state (step R S c).0 calls

  runs_size : (S : State) (calls : List Call) → length (runs_before R S calls).1 ≡ length calls
  unfolding runs_before
  runs_size S [] = refl
  runs_size S (c ∷ calls) = ap suc (runs_size (step_before R S c).0 calls)

  runs_follow : (L : Ledger) (S : State) (calls : List Call) → follow_all L calls (runs_before R S calls).1 ≡ follow_all L calls (runs R S calls).1
  unfolding runs_before runs follow_all
  runs_follow L S [] = refl
  runs_follow L S (c ∷ calls) =
      ap (λ (next : State). follow_all (follow L c (step_before R S c).1) calls (runs_before R next calls).1) (reorder_state R S c)
      ∙ ap (λ (M : Ledger). follow_all M calls (runs_before R (step R S c).0 calls).1)
      (unnumbered (follow L c) S c (λ x y. follow_refused L c x ∙ sym (follow_refused L c y)))
      ∙ runs_follow (follow L c (step R S c).1) (step R S c).0 calls

  runs_stand : (St : Standing) (i : ℕ) (S : State) (calls : List Call)
      → stand_from St i calls (runs_before R S calls).1 ≡ stand_from St i calls (runs R S calls).1
  unfolding runs_before runs stand_from stand
  runs_stand St i S [] = refl
  runs_stand St i S (c ∷ calls) =
      ap (λ (next : State). stand_from (stand St i c (step_before R S c).1) (suc i) calls (runs_before R next calls).1) (reorder_state R S c)
      ∙ ap (λ (next : Standing). stand_from next (suc i) calls (runs_before R (step R S c).0 calls).1) (unnumbered (stand St i c) S c (λ x y. refl))
      ∙ runs_stand (stand St i c (step R S c).1) (suc i) (step R S c).0 calls

  -- a call inside a list
  before_reply : (S : State) (before rest : List Call) (c : Call)
      → get_or (runs_before R S (before ++ (c ∷ rest))).1 (length before) done ≡ (step_before R (runs_before R S before).0 c).1
  unfolding runs_before
  before_reply S [] rest c = refl
  before_reply S (b ∷ before) rest c = before_reply (step_before R S b).0 before rest c

  runs_renumbered : (S : State) (before rest : List Call) (c : Call)
      → Renumbered R (runs R S before).0 c (get_or (runs_before R S (before ++ (c ∷ rest))).1 (length before) done)
      (get_or (runs R S (before ++ (c ∷ rest))).1 (length before) done)
  runs_renumbered S before rest c =
      rw (before_reply S before rest c, runs_reply R S before rest c, runs_state S before) (renumbered R (runs R S before).0 c)

-- ---- a book
module _ (b : List ℕ) (limit : ℕ) where
  -- the walls are no part of it
  opened_renumbered : (settled : Option (List ℕ)) (S : State) (c : Call) (was is : Reply) → Renumbered (opened (rules_of b limit) settled).0 S c was is
      → Renumbered (rules_of b limit) S c was is
  unfolding opened
  opened_renumbered none S c was is t = record { differs = t.differs; same = t.same; before = t.before; now = t.now }
  opened_renumbered (some M) S c was is t = t

  pub reordered : (calls : List Call) → Reordered b limit calls
  unfolding run run_before
  reordered calls =
      let settled = (rules_of b limit).settle (masks b) in
      let R = (opened (rules_of b limit) settled).0 in
      let S = (opened (rules_of b limit) settled).1 in
      record {
        state = runs_state R S calls;
        force = ap (λ (L : Ledger). L.force) (runs_follow R unmarked S calls);
        marks = ap (λ (L : Ledger). L.marks) (runs_follow R unmarked S calls);
        standing = runs_stand R (opening (settled_book b)) 0 S calls;
        size = runs_size R S calls ∙ sym (length_replies R S calls);
        answers = λ before rest c at.
            opened_renumbered settled (state_after b limit before) c _ _
            (rw at (runs_renumbered R S before rest c));
      }
