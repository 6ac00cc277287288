-- The laws of `step` and `act` of `specs/Machine.antt`: what each kind of call does (`step_refused`, `step_live`, `step_dead`, `step_mark`,
-- `step_back`, `step_show`, `step_walls`), that a refused call changes nothing (`refused_keeps`) and is refused with the first number that
-- applies (`refused_number`), that while dead only a back changes something (`dead_waits`), and that only a decision is answered live or
-- dead (`live_or_dead_decides`). No contract cites this file. Assumes nothing.
use mathlib.Core.Path.{◌≡◌, refl, sym, ap, ◌∙◌, subst}
use mathlib.Core.Logic.{◌↔◌}
use mathlib.Core.Bool.{Bool, true, false, ◌&&◌, true≢false}
use mathlib.Core.List.{List, ◌∷◌}
use mathlib.Core.Option.{Option, none, some, some-ne-none}
use Prim.Native.Nat.{ℕ, ◌-◌, ◌≤◌, ◌<◌}
use native.Mathlib.Omega.{arith}
use lib.Dec.{leb}
use lib.ListN.{length, get_or}
use Rattle.session_model.specs.Decisions.{Decision, assign, remove, cut}
use Rattle.session_model.specs.Calls.{Call, decide, mark, back, show, walls, unknown, kind_of}
use Rattle.session_model.specs.State.{Rules, State, Reply, live, dead, value, done, refused, words}
use Rattle.session_model.specs.Refusal.{Refusal, while_dead, number, refusal}
use Rattle.session_model.specs.Machine.{decided, restored, act, step_by, step}
use Rattle.session_model.specs.Demand.{Refused}
use Rattle.session_model.proofs.OrderLaws.{none_applies_not}
use Rattle.session_model.proofs.RefusalLaws.{refusal_unknown, refusal_back_none, refusal_show_none, refusal_walls_none}

module _ (R : Rules) (S : State) where
  -- ---- step
  module _ (c : Call) where
    pub step_refused : (r : Refusal) → refusal R S c ≡ some r → step R S c ≡ (S, refused (number r))
    unfolding step step_by
    step_refused r is = rw is

    pub step_acts : refusal R S c ≡ none → step R S c ≡ act R S c
    unfolding step step_by
    step_acts unrefused = rw unrefused

  -- ---- what each kind does
  module _ (d : Decision) (unrefused : refusal R S (decide d) ≡ none) where
    pub step_live : (N : List ℕ) → R.settle (cut d S.masks) ≡ some N
        → step R S (decide d) ≡ (record { masks = N; dead = false; saved = S.saved }, live (R.ones S.masks - R.ones N))
    unfolding act decided
    step_live N settles = step_acts (decide d) unrefused ∙ ap (decided R S) settles

    pub step_dead : R.settle (cut d S.masks) ≡ none → step R S (decide d) ≡ (record { masks = S.masks; dead = true; saved = S.saved }, dead)
    unfolding act decided
    step_dead fails = step_acts (decide d) unrefused ∙ ap (decided R S) fails

  pub step_mark : refusal R S mark ≡ none → step R S mark ≡ (record { masks = S.masks; dead = S.dead; saved = S.masks ∷ S.saved }, done)
  unfolding act
  step_mark unrefused = step_acts mark unrefused

  pub step_back : (M : List ℕ) (rest : List (List ℕ)) → S.saved ≡ M ∷ rest → step R S back ≡ (record { masks = M; dead = false; saved = rest }, done)
  unfolding act restored
  step_back M rest saved =
      step_acts back (refusal_back_none R S (omega (arith, ap (λ (l : List (List ℕ)). length l) saved)))
      ∙ ap (λ (l : List (List ℕ)). (restored S l, done)) saved

  pub step_show : (s : ℕ) → s < R.slots → step R S (show s) ≡ (S, value (get_or S.masks s 0))
  unfolding act
  step_show s inside = step_acts (show s) (refusal_show_none R S s inside)

  pub step_walls : (kind : Bool) (v : ℕ) → v < R.values → step R S (walls kind v) ≡ (S, value (R.standing kind S.masks v))
  unfolding act
  step_walls kind v below = step_acts (walls kind v) (refusal_walls_none R S kind v below)

  -- a mark or a back that no number refuses is done
  pub mark_done : refusal R S mark ≡ none → (step R S mark).1 ≡ done
  unfolding act
  mark_done unrefused = ap (λ (t : State × Reply). t.1) (step_acts mark unrefused)

  pub back_done : refusal R S back ≡ none → (step R S back).1 ≡ done
  unfolding act
  back_done unrefused = ap (λ (t : State × Reply). t.1) (step_acts back unrefused)

  pub step_unknown : step R S unknown ≡ (S, refused 11)
  step_unknown = step_refused unknown _ (refusal_unknown R S)

  -- ---- the first word of an answer: below 2 for a decision, 2 or 3 for another call, 256 or more for a refusal
  decided_word : (settled : Option (List ℕ)) → (words (decided R S settled).1).0 < 2
  unfolding decided
  decided_word none = omega arith
  decided_word (some N) = omega arith

  act_word : (c : Call) → refusal R S c ≡ none → (words (act R S c).1).0 < 256
  unfolding act
  act_word (decide d) unrefused = omega (arith, decided_word (R.settle (cut d S.masks)))
  act_word mark unrefused = omega arith
  act_word back unrefused = omega arith
  act_word (show s) unrefused = omega arith
  act_word (walls kind v) unrefused = omega arith
  act_word unknown unrefused = absurd (some-ne-none _ (sym (refusal_unknown R S) ∙ unrefused))

  step_word : (c : Call) → 2 ≤ (words (act R S c).1).0 → (words (step R S c).1).0 < 2 → ⊥
  step_word c two = go (refusal R S c) refl
    where
      go : (o : Option Refusal) → refusal R S c ≡ o → (words (step R S c).1).0 < 2 → ⊥
      go none is = rw (step_acts c is) (λ less. absurd (omega arith))
      go (some r) is = rw (step_refused c r is) (λ less. absurd (omega arith))

  -- so what holds of every decision holds of a call answered live or dead
  pub live_or_dead_decides : (P : Call → Type 0) → ((d : Decision) → P (decide d)) → (c : Call) → (words (step R S c).1).0 < 2 → P c
  unfolding act
  live_or_dead_decides P each (decide d) less = each d
  live_or_dead_decides P each mark less = absurd (step_word mark (omega arith) less)
  live_or_dead_decides P each back less = absurd (step_word back (omega arith) less)
  live_or_dead_decides P each (show s) less = absurd (step_word (show s) (omega arith) less)
  live_or_dead_decides P each (walls kind v) less = absurd (step_word (walls kind v) (omega arith) less)
  live_or_dead_decides P each unknown less = absurd (step_word unknown (omega arith) less)

  -- ---- refused
  pub refused_number : (c : Call) (x : ℕ) → ((step R S c).1 ≡ refused x) ↔ ((r : Refusal) × (refusal R S c ≡ some r) × (x ≡ number r))
  refused_number c x = (go (refusal R S c) refl, λ found. ap (λ (t : State × Reply). t.1) (step_refused c found.0 found.1) ∙ ap refused (sym found.2))
    where
      go : (o : Option Refusal) → refusal R S c ≡ o → (step R S c).1 ≡ refused x → (r : Refusal) × (refusal R S c ≡ some r) × (x ≡ number r)
      go none e = rw (step_acts c e) (λ is. absurd (omega (arith, act_word c e, ap (λ (r : Reply). (words r).0) is)))
      go (some r) e = rw (step_refused c r e) (λ is. (r, e, omega (arith, ap (λ (a : Reply). (words a).0) is)))

  refused_word : (r : Reply) → Refused r → 256 ≤ (words r).0
  refused_word (live x) is = absurd is
  refused_word dead is = absurd is
  refused_word (value x) is = absurd is
  refused_word done is = absurd is
  refused_word (refused x) is = omega arith

  pub refused_keeps : (c : Call) → Refused (step R S c).1 → (step R S c).0 ≡ S
  refused_keeps c = go (refusal R S c) refl
    where
      go : (o : Option Refusal) → refusal R S c ≡ o → Refused (step R S c).1 → (step R S c).0 ≡ S
      go none e = rw (step_acts c e) (λ is. absurd (omega (arith, act_word c e, refused_word (act R S c).1 is)))
      go (some r) e = rw (step_refused c r e) (λ is. refl)

  pub unrefused_none : (c : Call) → (Refused (step R S c).1 → ⊥) → refusal R S c ≡ none
  unrefused_none c not_refused = go (refusal R S c) refl
    where
      go : (o : Option Refusal) → refusal R S c ≡ o → refusal R S c ≡ none
      go none e = e
      go (some r) e = absurd (not_refused (rw (step_refused c r e) tt))

  -- ---- while dead
  act_waits : (c : Call) → (leb 1 (kind_of c) && leb (kind_of c) 3) ≡ false → (kind_of c ≡ 4 → ⊥) → (act R S c).0 ≡ S
  unfolding act
  act_waits (decide (assign s v)) other no_back = absurd (true≢false other)
  act_waits (decide (remove s v)) other no_back = absurd (true≢false other)
  act_waits mark other no_back = absurd (true≢false other)
  act_waits back other no_back = absurd (no_back refl)
  act_waits (show s) other no_back = refl
  act_waits (walls kind v) other no_back = refl
  act_waits unknown other no_back = refl

  pub dead_waits : (c : Call) → S.dead ≡ true → (kind_of c ≡ 4 → ⊥) → (step R S c).0 ≡ S
  dead_waits c up no_back = go (refusal R S c) refl
    where
      go : (o : Option Refusal) → refusal R S c ≡ o → (step R S c).0 ≡ S
      go none e =
          let asked : (S.dead && (leb 1 (kind_of c) && leb (kind_of c) 3)) ≡ false = none_applies_not R S c e while_dead in
          ap (λ (t : State × Reply). t.0) (step_acts c e)
          ∙ act_waits c (subst (λ (flag : Bool). (flag && (leb 1 (kind_of c) && leb (kind_of c) 3)) ≡ false) up asked) no_back
      go (some r) e = ap (λ (t : State × Reply). t.0) (step_refused c r e)
