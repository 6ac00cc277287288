-- Which number refuses a call and when none does, kind by kind (`refusal` of `specs/Refusal.antt`). These laws follow `order`,
-- and are what a `match` on the kind cites. No contract cites this file. Assumes nothing.
use mathlib.Core.Path.{◌≡◌, refl}
use mathlib.Core.Bool.{Bool, true, false, and-false}
use mathlib.Core.Option.{none, some}
use Prim.Native.Nat.{ℕ, ◌≤◌, ◌<◌}
use native.Mathlib.Omega.{arith}
use lib.ListN.{length}
use borrow.Author.Tests.{eq-eqb, ne_eqb, le-leb, lt-leb}
use Rattle.session_model.specs.Decisions.{Decision, assign, remove, slot_of, value_of}
use Rattle.session_model.specs.Calls.{decide, mark, back, show, walls, unknown}
use Rattle.session_model.specs.State.{Rules, State}
use Rattle.session_model.specs.Refusal.{unknown_kind, slot_out, value_out, no_mark, while_dead, marks_full, first, refusal}

module _ (R : Rules) (S : State) where
  pub refusal_unknown : refusal R S unknown ≡ some unknown_kind
  unfolding refusal first
  refusal_unknown = refl

  -- a decision: 12, 13, 15
  pub refusal_decide_slot : (d : Decision) → R.slots ≤ slot_of d → refusal R S (decide d) ≡ some slot_out
  unfolding refusal first
  refusal_decide_slot (assign s v) out = rw (refusal, le-leb R.slots s out)
  refusal_decide_slot (remove s v) out = rw (refusal, le-leb R.slots s out)

  pub refusal_decide_value : (d : Decision) → slot_of d < R.slots → R.values ≤ value_of d → refusal R S (decide d) ≡ some value_out
  unfolding refusal first
  refusal_decide_value (assign s v) inside out = rw (refusal, lt-leb R.slots s inside, le-leb R.values v out)
  refusal_decide_value (remove s v) inside out = rw (refusal, lt-leb R.slots s inside, le-leb R.values v out)

  pub refusal_decide_dead : (d : Decision) → S.dead ≡ true → slot_of d < R.slots → value_of d < R.values → refusal R S (decide d) ≡ some while_dead
  unfolding refusal first
  refusal_decide_dead (assign s v) up inside below = rw (refusal, up, lt-leb R.slots s inside, lt-leb R.values v below)
  refusal_decide_dead (remove s v) up inside below = rw (refusal, up, lt-leb R.slots s inside, lt-leb R.values v below)

  pub refusal_decide_none : (d : Decision) → S.dead ≡ false → slot_of d < R.slots → value_of d < R.values → refusal R S (decide d) ≡ none
  unfolding refusal first
  refusal_decide_none (assign s v) down inside below = rw (refusal, down, lt-leb R.slots s inside, lt-leb R.values v below)
  refusal_decide_none (remove s v) down inside below = rw (refusal, down, lt-leb R.slots s inside, lt-leb R.values v below)

  -- a mark: 15, 16
  pub refusal_mark_dead : S.dead ≡ true → refusal R S mark ≡ some while_dead
  unfolding refusal first
  refusal_mark_dead up = rw (refusal, up)

  pub refusal_mark_full : S.dead ≡ false → R.limit ≤ length S.saved → refusal R S mark ≡ some marks_full
  unfolding refusal first
  refusal_mark_full down full = rw (refusal, down, le-leb R.limit (length S.saved) full)

  pub refusal_mark_none : S.dead ≡ false → length S.saved < R.limit → refusal R S mark ≡ none
  unfolding refusal first
  refusal_mark_none down room = rw (refusal, down, lt-leb R.limit (length S.saved) room)

  -- a back: 14
  pub refusal_back_empty : length S.saved ≡ 0 → refusal R S back ≡ some no_mark
  unfolding refusal first
  refusal_back_empty empty = rw (refusal, and-false S.dead, eq-eqb (length S.saved) 0 empty)

  pub refusal_back_none : 0 < length S.saved → refusal R S back ≡ none
  unfolding refusal first
  refusal_back_none marked = rw (refusal, and-false S.dead, ne_eqb (length S.saved) 0 (omega arith))

  -- a show: 12; a wall count: 13
  pub refusal_show_slot : (s : ℕ) → R.slots ≤ s → refusal R S (show s) ≡ some slot_out
  unfolding refusal first
  refusal_show_slot s out = rw (refusal, and-false S.dead, le-leb R.slots s out)

  pub refusal_show_none : (s : ℕ) → s < R.slots → refusal R S (show s) ≡ none
  unfolding refusal first
  refusal_show_none s inside = rw (refusal, and-false S.dead, lt-leb R.slots s inside)

  pub refusal_walls_value : (kind : Bool) (v : ℕ) → R.values ≤ v → refusal R S (walls kind v) ≡ some value_out
  unfolding refusal first
  refusal_walls_value true v out = rw (refusal, and-false S.dead, le-leb R.values v out)
  refusal_walls_value false v out = rw (refusal, and-false S.dead, le-leb R.values v out)

  pub refusal_walls_none : (kind : Bool) (v : ℕ) → v < R.values → refusal R S (walls kind v) ≡ none
  unfolding refusal first
  refusal_walls_none true v below = rw (refusal, and-false S.dead, lt-leb R.values v below)
  refusal_walls_none false v below = rw (refusal, and-false S.dead, lt-leb R.values v below)
