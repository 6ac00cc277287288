-- The laws of `Refuses` of `specs/Refuses.antt`, one for each kind of call. No contract cites this file. Assumes nothing.
use mathlib.Core.Path.{◌≡◌, refl, ap, ◌∙◌}
use mathlib.Core.Bool.{Bool, true, false, cond}
use Prim.Native.Nat.{ℕ}
use lib.Dec.{eqb, leb}
use lib.ListN.{length}
use Rattle.session_model.specs.Calls.{decide, mark, back, show, walls, unknown}
use Rattle.session_model.specs.Decisions.{Decision, assign, remove, slot_of, value_of}
use Rattle.session_model.specs.Refusal.{first, refusal}
use Rattle.session_model.specs.State.{Rules, State}
use Rattle.calls.specs.Refuses.{refusal_number}
use Rattle.calls.specs.Refuses.{Refuses}

-- ---- the machine's number, by the tests that it makes
module _ (R : Rules) (S : State) where
  decide_number : (d : Decision) (dead outside absent : Bool) → S.dead ≡ dead → leb R.slots (slot_of d) ≡ outside
      → leb R.values (value_of d) ≡ absent
      → cond outside 12 (cond absent 13 (cond dead 15 0)) ≡ refusal_number (refusal R S (decide d))
  unfolding refusal first
  decide_number (assign s v) dead true absent is_dead_lem slot value = rw slot refl
  decide_number (assign s v) dead false true is_dead_lem slot value = rw (slot, value) refl
  decide_number (assign s v) true false false is_dead_lem slot value = rw (is_dead_lem, slot, value) refl
  decide_number (assign s v) false false false is_dead_lem slot value = rw (is_dead_lem, slot, value) refl
  decide_number (remove s v) dead true absent is_dead_lem slot value = rw slot refl
  decide_number (remove s v) dead false true is_dead_lem slot value = rw (slot, value) refl
  decide_number (remove s v) true false false is_dead_lem slot value = rw (is_dead_lem, slot, value) refl
  decide_number (remove s v) false false false is_dead_lem slot value = rw (is_dead_lem, slot, value) refl

  mark_number : (dead full : Bool) → S.dead ≡ dead → leb R.limit (length S.saved) ≡ full
      → cond dead 15 (cond full 16 0) ≡ refusal_number (refusal R S mark)
  unfolding refusal first
  mark_number true full is_dead_lem marks = rw is_dead_lem refl
  mark_number false true is_dead_lem marks = rw (is_dead_lem, marks) refl
  mark_number false false is_dead_lem marks = rw (is_dead_lem, marks) refl

  back_number : (dead none : Bool) → S.dead ≡ dead → eqb (length S.saved) 0 ≡ none → cond none 14 0 ≡ refusal_number (refusal R S back)
  unfolding refusal first
  back_number true true is_dead_lem marks = rw (is_dead_lem, marks) refl
  back_number true false is_dead_lem marks = rw (is_dead_lem, marks) refl
  back_number false true is_dead_lem marks = rw (is_dead_lem, marks) refl
  back_number false false is_dead_lem marks = rw (is_dead_lem, marks) refl

  show_number : (s : ℕ) (dead outside : Bool) → S.dead ≡ dead → leb R.slots s ≡ outside → cond outside 12 0 ≡ refusal_number (refusal R S (show s))
  unfolding refusal first
  show_number s true true is_dead_lem slot = rw (is_dead_lem, slot) refl
  show_number s true false is_dead_lem slot = rw (is_dead_lem, slot) refl
  show_number s false true is_dead_lem slot = rw (is_dead_lem, slot) refl
  show_number s false false is_dead_lem slot = rw (is_dead_lem, slot) refl

  walls_number : (kind : Bool) (v : ℕ) (dead absent : Bool) → S.dead ≡ dead → leb R.values v ≡ absent
      → cond absent 13 0 ≡ refusal_number (refusal R S (walls kind v))
  unfolding refusal first
  walls_number true v true true is_dead_lem value = rw (is_dead_lem, value) refl
  walls_number true v true false is_dead_lem value = rw (is_dead_lem, value) refl
  walls_number true v false true is_dead_lem value = rw (is_dead_lem, value) refl
  walls_number true v false false is_dead_lem value = rw (is_dead_lem, value) refl
  walls_number false v true true is_dead_lem value = rw (is_dead_lem, value) refl
  walls_number false v true false is_dead_lem value = rw (is_dead_lem, value) refl
  walls_number false v false true is_dead_lem value = rw (is_dead_lem, value) refl
  walls_number false v false false is_dead_lem value = rw (is_dead_lem, value) refl

  unknown_number : 11 ≡ refusal_number (refusal R S unknown)
  unfolding refusal first
  unknown_number = refl

-- ---- Refuses, by the kind of call
module _ {n k limit marks : ℕ} {dead : Bool} (r : ℕ) where
  module _ (slot v : ℕ) (r_is : r ≡ cond (leb n slot) 12 (cond (leb k v) 13 (cond dead 15 0))) where
    pub refuses_assign : Refuses n k limit marks dead (decide (assign slot v)) r
    refuses_assign =
        record {
          says = λ R S slots values most flag saved.
              r_is ∙ decide_number R S (assign slot v) dead (leb n slot) (leb k v) flag (ap (λ (m : ℕ). leb m slot) slots) (ap (λ (m : ℕ). leb m v) values);
        }

    pub refuses_remove : Refuses n k limit marks dead (decide (remove slot v)) r
    refuses_remove =
        record {
          says = λ R S slots values most flag saved.
              r_is ∙ decide_number R S (remove slot v) dead (leb n slot) (leb k v) flag (ap (λ (m : ℕ). leb m slot) slots) (ap (λ (m : ℕ). leb m v) values);
        }

  pub refuses_mark : r ≡ cond dead 15 (cond (leb limit marks) 16 0) → Refuses n k limit marks dead mark r
  refuses_mark r_is =
      record {
        says = λ R S slots values most flag saved. r_is ∙ mark_number R S dead (leb limit marks) flag (rw (most, saved) refl);
      }

  pub refuses_back : r ≡ cond (eqb marks 0) 14 0 → Refuses n k limit marks dead back r
  refuses_back r_is =
      record {
        says = λ R S slots values most flag saved. r_is ∙ back_number R S dead (eqb marks 0) flag (ap (λ (m : ℕ). eqb m 0) saved);
      }

  pub refuses_show : (slot : ℕ) → r ≡ cond (leb n slot) 12 0 → Refuses n k limit marks dead (show slot) r
  refuses_show slot r_is =
      record {
        says = λ R S slots values most flag saved. r_is ∙ show_number R S slot dead (leb n slot) flag (ap (λ (m : ℕ). leb m slot) slots);
      }

  pub refuses_walls : (lower : Bool) (v : ℕ) → r ≡ cond (leb k v) 13 0 → Refuses n k limit marks dead (walls lower v) r
  refuses_walls lower v r_is =
      record {
        says = λ R S slots values most flag saved. r_is ∙ walls_number R S lower v dead (leb k v) flag (ap (λ (m : ℕ). leb m v) values);
      }

  pub refuses_unknown : r ≡ 11 → Refuses n k limit marks dead unknown r
  refuses_unknown r_is = record { says = λ R S slots values most flag saved. r_is ∙ unknown_number R S }

-- ---- the laws by which `check_call` meets its contract
pub ruleset refuses_calls = (refuses_assign, refuses_remove, refuses_mark, refuses_back, refuses_show, refuses_walls, refuses_unknown)
