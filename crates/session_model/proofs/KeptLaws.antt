-- The invariant of a run, and that each call keeps it.
--   Adequate R bs   what the settling and the count of ones below give for the bounds bs
--   Kept bs M L S   the masks of the state S are the largest stable list within M and the decisions in force, and each saved list is that of
--                   its mark
--   Answered ..     what a decision that is not refused is answered, and what it leaves
-- The laws that matter: `step_kept`, `runs_kept`, `step_answered`. No contract cites this file. Assumes nothing.
use mathlib.Core.Path.{◌≡◌, refl, sym, ap}
use mathlib.Core.Logic.{◌↔◌}
use mathlib.Core.List.{List, [], ◌∷◌}
use mathlib.Core.Option.{Option, none, some}
use Prim.Native.Nat.{ℕ, suc, zero, ◌+◌, ◌-◌, ◌≤◌, ◌<◌}
use native.Mathlib.Nat.{le_of_suc-le-suc, not-suc-le-zero}
use native.Mathlib.Omega.{arith}
use lib.ListN.{length, get_or}
use Rattle.domains.specs.Masks.{Subset}
use Rattle.domains.proofs.MasksLaws.{subset_trans}
use Rattle.settling_model.specs.Stable.{Bound, Largest, Unstable}
use Rattle.session_model.specs.Decisions.{Decision, cut, LargestUnder, UnstableUnder}
use Rattle.session_model.specs.Calls.{Call, decide, mark, back, show, walls, unknown}
use Rattle.session_model.specs.State.{Rules, State, Reply, live, dead, words}
use Rattle.session_model.specs.Refusal.{Refusal, number, refusal}
use Rattle.session_model.specs.Machine.{decided, restored, act, step, runs}
use Rattle.session_model.specs.InForce.{Ledger, when_live, when_done, taken_back, follow, follow_all}
use Rattle.session_model.specs.Demand.{Refused}
use Rattle.session_model.proofs.CutLaws.{cut_subset}
use Rattle.session_model.proofs.DecisionsLaws.{largest_cut, unstable_cut}
use Rattle.session_model.proofs.StepLaws.{step_refused, step_acts, unrefused_none}
use Rattle.session_model.proofs.InForceLaws.{follow_refused}

pub record Adequate (R : Rules) (bs : List Bound) : Type 0 where
  pub settles : (M N : List ℕ) → R.settle M ≡ some N → Largest bs M N
  pub fails : (M : List ℕ) → R.settle M ≡ none → Unstable bs M
  pub fewer : (N M : List ℕ) → Subset N M → R.ones N ≤ R.ones M

-- ---- Piled: the saved masks, each with the decisions of its mark
unfoldable pub Piled : (List Decision → List ℕ → Type 0) → List (List Decision) → List (List ℕ) → Type 0
Piled Q [] [] = Unit {0}
Piled Q [] (M ∷ Ms) = ⊥
Piled Q (ds ∷ dss) [] = ⊥
Piled Q (ds ∷ dss) (M ∷ Ms) = Q ds M × Piled Q dss Ms

module _ (Q : List Decision → List ℕ → Type 0) where
  pub piled_length : (dss : List (List Decision)) (Ms : List (List ℕ)) → Piled Q dss Ms → length Ms ≡ length dss
  unfolding Piled
  piled_length [] [] piled = refl
  piled_length [] (M ∷ Ms) piled = absurd piled
  piled_length (ds ∷ dss) [] piled = absurd piled
  piled_length (ds ∷ dss) (M ∷ Ms) piled = omega (arith, piled_length dss Ms piled.1)

  pub piled_at : (dss : List (List Decision)) (Ms : List (List ℕ)) → Piled Q dss Ms → (i : ℕ) → i < length Ms → Q (get_or dss i []) (get_or Ms i [])
  unfolding Piled
  piled_at [] [] piled i inside = absurd (not-suc-le-zero inside)
  piled_at [] (M ∷ Ms) piled i inside = absurd piled
  piled_at (ds ∷ dss) [] piled i inside = absurd piled
  piled_at (ds ∷ dss) (M ∷ Ms) piled zero inside = piled.0
  piled_at (ds ∷ dss) (M ∷ Ms) piled (suc i) inside = piled_at dss Ms piled.1 i (le_of_suc-le-suc inside)

-- ---- Kept
pub record Kept (bs : List Bound) (book : List ℕ) (L : Ledger) (S : State) : Type 0 where
  pub force : LargestUnder bs book L.force S.masks
  pub marks : Piled (λ ds M. LargestUnder bs book ds M) L.marks S.saved

module _ (R : Rules) (bs : List Bound) (below : Adequate R bs) (book : List ℕ) where
  decided_kept : (L : Ledger) (S : State) (d : Decision) → Kept bs book L S → (o : Option (List ℕ)) → R.settle (cut d S.masks) ≡ o
      → Kept bs book (follow L (decide d) (decided R S o).1) (decided R S o).0
  unfolding decided follow when_live
  decided_kept L S d kept none fails = record { force = kept.force; marks = kept.marks }
  decided_kept L S d kept (some N) settles = record { force = largest_cut kept.force d (below.settles (cut d S.masks) N settles); marks = kept.marks }

  restored_kept : (L : Ledger) (S : State) → Kept bs book L S → (dss : List (List Decision)) (Ms : List (List ℕ))
      → Piled (λ ds M. LargestUnder bs book ds M) dss Ms → Kept bs book (taken_back L dss) (restored S Ms)
  unfolding taken_back restored Piled
  restored_kept L S kept [] [] piled = kept
  restored_kept L S kept [] (M ∷ Ms) piled = absurd piled
  restored_kept L S kept (ds ∷ dss) [] piled = absurd piled
  restored_kept L S kept (ds ∷ dss) (M ∷ Ms) piled = record { force = piled.0; marks = piled.1 }

  act_kept : (L : Ledger) (S : State) (c : Call) → Kept bs book L S → Kept bs book (follow L c (act R S c).1) (act R S c).0
  unfolding act follow when_done Piled
  act_kept L S (decide d) kept = decided_kept L S d kept (R.settle (cut d S.masks)) refl
  act_kept L S mark kept = record { force = kept.force; marks = (kept.force, kept.marks) }
  act_kept L S back kept = restored_kept L S kept L.marks S.saved kept.marks
  act_kept L S (show s) kept = kept
  act_kept L S (walls kind v) kept = kept
  act_kept L S unknown kept = kept

  pub step_kept : (L : Ledger) (S : State) (c : Call) → Kept bs book L S → Kept bs book (follow L c (step R S c).1) (step R S c).0
  step_kept L S c kept = go (refusal R S c) refl
    where
      go : (o : Option Refusal) → refusal R S c ≡ o → Kept bs book (follow L c (step R S c).1) (step R S c).0
      go none e = rw (step_acts R S c e) (act_kept L S c kept)
      go (some r) e = rw (step_refused R S c r e, follow_refused L c (number r)) kept

  pub runs_kept : (calls : List Call) (L : Ledger) (S : State) → Kept bs book L S → Kept bs book (follow_all L calls (runs R S calls).1) (runs R S calls).0
  unfolding runs follow_all
  runs_kept [] L S kept = kept
  runs_kept (c ∷ calls) L S kept = runs_kept calls (follow L c (step R S c).1) (step R S c).0 (step_kept L S c kept)

-- ---- Answered
pub record Answered (R : Rules) (bs : List Bound) (book : List ℕ) (L : Ledger) (S : State) (d : Decision) (r : Reply) (S' : State) : Type 0 where
  pub dies : (r ≡ dead) ↔ UnstableUnder bs book (d ∷ L.force)
  pub lives : (r ≡ dead → ⊥) → (x : ℕ) × (r ≡ live x)
  pub struck : (x : ℕ) → r ≡ live x → x + R.ones S'.masks ≡ R.ones S.masks
  pub stays : r ≡ dead → S'.masks ≡ S.masks

live_not_dead : (x : ℕ) → live x ≡ dead → ⊥
live_not_dead x same = omega (arith, ap (λ (r : Reply). (words r).0) same)

module _ (R : Rules) (bs : List Bound) (below : Adequate R bs) (book : List ℕ) (L : Ledger) (S : State) (kept : Kept bs book L S) (d : Decision) where
  decided_answered : (o : Option (List ℕ)) → R.settle (cut d S.masks) ≡ o → Answered R bs book L S d (decided R S o).1 (decided R S o).0
  unfolding decided
  decided_answered none fails =
      record {
        dies = (λ is. unstable_cut kept.force d (below.fails (cut d S.masks) fails), λ none_within. refl);
        lives = λ not_dead. absurd (not_dead refl);
        struck = λ x is. absurd (live_not_dead x (sym is));
        stays = λ is. refl;
      }
  decided_answered (some N) settles =
      let largest = below.settles (cut d S.masks) N settles in
      let under = largest_cut kept.force d largest in
      let fewer = below.fewer N S.masks (subset_trans largest.within (cut_subset d S.masks)) in
      record {
        dies = (λ is. absurd (live_not_dead _ is), λ none_within. absurd (none_within N under.stable under.allowed));
        lives = λ not_dead. (R.ones S.masks - R.ones N, refl);
        struck = λ x is. omega (arith, fewer, ap (λ (r : Reply). (words r).1) is);
        stays = λ is. absurd (live_not_dead _ is);
      }

  act_answered : Answered R bs book L S d (act R S (decide d)).1 (act R S (decide d)).0
  unfolding act
  act_answered = decided_answered (R.settle (cut d S.masks)) refl

  pub step_answered : (Refused (step R S (decide d)).1 → ⊥) → Answered R bs book L S d (step R S (decide d)).1 (step R S (decide d)).0
  step_answered not_refused = rw (step_acts R S (decide d) (unrefused_none R S (decide d) not_refused)) act_answered
