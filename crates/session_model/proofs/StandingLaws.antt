-- The laws of `specs/Standing.antt`: the standing has the machine's flag (`standing_flag`), what one call more makes of it (`standing_snoc`),
-- and a dead one names a call that was answered dead (`standing_call`). No contract cites this file. Assumes nothing.
use mathlib.Core.Path.{◌≡◌, refl, sym, ap, ◌∙◌, subst⁻¹}
use mathlib.Core.Logic.{◌⊎◌, inl, inr}
use mathlib.Core.Bool.{false, and-true, true≢false}
use mathlib.Core.List.{List, [], ◌∷◌, ◌++◌}
use mathlib.Core.Option.{Option, none, some}
use Prim.Native.Nat.{ℕ, suc, ◌+◌}
use native.Mathlib.Nat.{suc_inj, add-zero, zero-add}
use native.Mathlib.Omega.{arith}
use lib.Dec.{eqb}
use lib.ListN.{length, get_or}
use Rattle.book.specs.Layout.{masks}
use Rattle.settling_model.specs.Book.{settled_book}
use Rattle.session_model.specs.Decisions.{Decision, assign, remove, cut}
use Rattle.session_model.specs.Calls.{Call, decide, mark, back, show, walls, unknown}
use Rattle.session_model.specs.State.{Rules, State, Reply, live, dead, value, done, refused}
use Rattle.session_model.specs.Refusal.{Refusal, while_dead, no_mark, refusal}
use Rattle.session_model.specs.Machine.{decided, restored, act, step, runs, wallless, opened, run}
use Rattle.session_model.specs.Standing.{Standing, OpenedDead, Live, Dead, dead_of, stand, stand_from, opening}
use Rattle.session_model.specs.BookRun.{rules_of, state_after, replies_of, reply_of, standing_after}
use Rattle.session_model.proofs.OrderLaws.{none_applies_not}
use Rattle.session_model.proofs.StepLaws.{step_acts, step_refused}
use Rattle.session_model.proofs.RunLaws.{length_run}
use Rattle.session_model.proofs.BookRunLaws.{rules_of_settle}

-- ---- the flag
module _ (R : Rules) where
  -- a decision that is not refused finds the flag down
  decide_down : (S : State) (d : Decision) → refusal R S (decide d) ≡ none → S.dead ≡ false
  decide_down S (assign s v) unrefused = sym (and-true S.dead) ∙ none_applies_not R S (decide (assign s v)) unrefused while_dead
  decide_down S (remove s v) unrefused = sym (and-true S.dead) ∙ none_applies_not R S (decide (remove s v)) unrefused while_dead

  act_flag : (S : State) (St : Standing) (i : ℕ) (c : Call) → refusal R S c ≡ none → dead_of St ≡ S.dead
      → dead_of (stand St i c (act R S c).1) ≡ (act R S c).0.dead
  unfolding act stand decided restored
  act_flag S St i (decide d) unrefused same = go (R.settle (cut d S.masks))
    where
      go : (o : Option (List ℕ)) → dead_of (stand St i (decide d) (decided R S o).1) ≡ (decided R S o).0.dead
      go none = refl
      go (some N) = same ∙ decide_down S d unrefused
  act_flag S St i mark unrefused same = same
  act_flag S St i back unrefused same = go S.saved (none_applies_not R S back unrefused no_mark)
    where
      go : (Ms : List (List ℕ)) → eqb (length Ms) 0 ≡ false → false ≡ (restored S Ms).dead
      go [] marked = absurd (true≢false marked)
      go (M ∷ Ms) marked = refl
  act_flag S St i (show s) unrefused same = same
  act_flag S St i (walls kind v) unrefused same = same
  act_flag S St i unknown unrefused same = same

  step_flag : (S : State) (St : Standing) (i : ℕ) (c : Call) → dead_of St ≡ S.dead → dead_of (stand St i c (step R S c).1) ≡ (step R S c).0.dead
  unfolding stand
  step_flag S St i c same = go (refusal R S c) refl
    where
      go : (o : Option Refusal) → refusal R S c ≡ o → dead_of (stand St i c (step R S c).1) ≡ (step R S c).0.dead
      go none e = subst⁻¹ (λ (t : State × Reply). dead_of (stand St i c t.1) ≡ t.0.dead) (step_acts R S c e) (act_flag S St i c e same)
      go (some r) e = subst⁻¹ (λ (t : State × Reply). dead_of (stand St i c t.1) ≡ t.0.dead) (step_refused R S c r e) same

  runs_flag : (S : State) (St : Standing) (i : ℕ) (calls : List Call) → dead_of St ≡ S.dead
      → dead_of (stand_from St i calls (runs R S calls).1) ≡ (runs R S calls).0.dead
  unfolding runs stand_from
  runs_flag S St i [] same = same
  runs_flag S St i (c ∷ calls) same = runs_flag (step R S c).0 (stand St i c (step R S c).1) (suc i) calls (step_flag S St i c same)

pub standing_flag : (b : List ℕ) (limit : ℕ) (calls : List Call) → dead_of (standing_after b limit calls) ≡ (state_after b limit calls).dead
unfolding run opened
standing_flag b limit calls =
    ap (λ (o : Option (List ℕ)). dead_of (stand_from (opening o) 0 calls (replies_of b limit calls))) (sym (rules_of_settle b limit))
    ∙ go ((rules_of b limit).settle (masks b))
  where
    go : (o : Option (List ℕ)) → dead_of (stand_from (opening o) 0 calls (runs (opened (rules_of b limit) o).0 (opened (rules_of b limit) o).1 calls).1)
        ≡ (runs (opened (rules_of b limit) o).0 (opened (rules_of b limit) o).1 calls).0.dead
    go none = runs_flag (wallless (rules_of b limit)) _ OpenedDead 0 calls refl
    go (some M) = runs_flag (rules_of b limit) _ Live 0 calls refl

-- ---- more calls
pub stand_from_append : (St : Standing) (i : ℕ) (calls more : List Call) (rs qs : List Reply) → length rs ≡ length calls
    → stand_from St i (calls ++ more) (rs ++ qs) ≡ stand_from (stand_from St i calls rs) (i + length calls) more qs
unfolding stand_from
stand_from_append St i [] more [] qs same = ap (λ (j : ℕ). stand_from St j more qs) (sym (add-zero i))
stand_from_append St i [] more (s ∷ rs) qs same = absurd (omega arith)
stand_from_append St i (b ∷ calls) more [] qs same = absurd (omega arith)
stand_from_append St i (b ∷ calls) more (s ∷ rs) qs same =
    stand_from_append (stand St i b s) (suc i) calls more rs qs (suc_inj same)
    ∙ ap (λ (j : ℕ). stand_from (stand_from (stand St i b s) (suc i) calls rs) j more qs)
    (let next : suc i + length calls ≡ i + suc (length calls) = omega arith in next)

pub stand_from_snoc : (St : Standing) (i : ℕ) (calls : List Call) (rs : List Reply) (c : Call) (r : Reply) → length rs ≡ length calls
    → stand_from St i (calls ++ (c ∷ [])) (rs ++ (r ∷ [])) ≡ stand (stand_from St i calls rs) (i + length calls) c r
unfolding stand_from
stand_from_snoc St i calls rs c r same = stand_from_append St i calls (c ∷ []) rs (r ∷ []) same

pub standing_snoc : (b : List ℕ) (limit : ℕ) (calls : List Call) (c : Call) (r : Reply)
    → replies_of b limit (calls ++ (c ∷ [])) ≡ replies_of b limit calls ++ (r ∷ [])
    → standing_after b limit (calls ++ (c ∷ [])) ≡ stand (standing_after b limit calls) (length calls) c r
standing_snoc b limit calls c r answers =
    ap (λ (rs : List Reply). stand_from (opening (settled_book b)) 0 (calls ++ (c ∷ [])) rs) answers
    ∙ stand_from_snoc (opening (settled_book b)) 0 calls (replies_of b limit calls) c r (length_run (rules_of b limit) (masks b) calls)
    ∙ ap (λ (j : ℕ). stand (standing_after b limit calls) j c r) (zero-add (length calls))

-- ---- the call that a dead standing names
stand_dead : (St : Standing) (i j : ℕ) (c : Call) (r : Reply) → stand St i c r ≡ Dead j → (St ≡ Dead j) ⊎ ((j ≡ i) × (r ≡ dead))
unfolding stand
stand_dead St i j c (live x) is = inl is
stand_dead St i j c dead is = inr (let same : j ≡ i = cc in same, refl)
stand_dead St i j c (value x) is = inl is
stand_dead St i j (decide d) done is = inl is
stand_dead St i j mark done is = inl is
stand_dead St i j back done is = absurd (let clash : ◌≡◌ {A = ℕ} 0 1 = cc in omega arith)
stand_dead St i j (show s) done is = inl is
stand_dead St i j (walls kind v) done is = inl is
stand_dead St i j unknown done is = inl is
stand_dead St i j c (refused x) is = inl is

from_dead : (St : Standing) (i j : ℕ) (calls : List Call) (rs : List Reply) → stand_from St i calls rs ≡ Dead j
    → (St ≡ Dead j) ⊎ ((m : ℕ) × (j ≡ i + m) × (get_or rs m done ≡ dead))
unfolding stand_from
from_dead St i j [] rs is = inl is
from_dead St i j (c ∷ calls) [] is = inl is
from_dead St i j (c ∷ calls) (r ∷ rs) is = go (from_dead (stand St i c r) (suc i) j calls rs is)
  where
    first : (St ≡ Dead j) ⊎ ((j ≡ i) × (r ≡ dead)) → (St ≡ Dead j) ⊎ ((m : ℕ) × (j ≡ i + m) × (get_or (r ∷ rs) m done ≡ dead))
    first (inl was) = inl was
    first (inr here) = inr (0, omega (arith, here.0), here.1)

    go : (stand St i c r ≡ Dead j) ⊎ ((m : ℕ) × (j ≡ suc i + m) × (get_or rs m done ≡ dead)) → (St ≡ Dead j) ⊎ ((m : ℕ) × (j ≡ i + m) × (get_or (r ∷ rs) m done ≡ dead))
    go (inl was) = first (stand_dead St i j c r was)
    go (inr later) = inr (suc later.0, omega (arith, later.1), later.2)

opening_not_dead : (o : Option (List ℕ)) (i : ℕ) → opening o ≡ Dead i → ⊥
opening_not_dead none i is = absurd (let clash : ◌≡◌ {A = ℕ} 0 1 = cc in omega arith)
opening_not_dead (some M) i is = absurd (let clash : ◌≡◌ {A = ℕ} 0 1 = cc in omega arith)

pub standing_call : (b : List ℕ) (limit : ℕ) (calls : List Call) (i : ℕ) → standing_after b limit calls ≡ Dead i → reply_of b limit calls i ≡ dead
standing_call b limit calls i is = go (from_dead (opening (settled_book b)) 0 i calls (replies_of b limit calls) is)
  where
    go : (opening (settled_book b) ≡ Dead i) ⊎ ((m : ℕ) × (i ≡ 0 + m) × (get_or (replies_of b limit calls) m done ≡ dead)) → reply_of b limit calls i ≡ dead
    go (inl was) = absurd (opening_not_dead (settled_book b) i was)
    go (inr later) = subst⁻¹ (λ (m : ℕ). get_or (replies_of b limit calls) m done ≡ dead) (let same : i ≡ later.0 = omega (arith, later.1) in same) later.2
