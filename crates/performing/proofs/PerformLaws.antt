-- What each kind of call needs where no number refuses it (`decide_deciding` .. `walls_counting`).
-- No contract cites this file. Assumes nothing.
use mathlib.Core.Path.{◌≡◌, refl, sym, ◌∙◌, subst}
use mathlib.Core.Bool.{Bool, true, false, true≢false, ◌&&◌}
use mathlib.Core.List.{List}
use mathlib.Core.Option.{none}
use Prim.Native.Nat.{ℕ, ◌<◌}
use native.Mathlib.Omega.{arith}
use borrow.Author.Tests.{leb-false, eqb-false}
use lib.Dec.{leb}
use lib.ListN.{length}
use Rattle.session_model.specs.Calls as Calls
use Rattle.session_model.specs.Calls.{Call}
use Rattle.session_model.specs.Refusal.{unknown_kind, slot_out, value_out, no_mark, while_dead, marks_full, refusal}
use Rattle.session_model.proofs.OrderLaws.{none_applies_not}
use Rattle.acts.specs.Given.{decision_of, is_dead}
use Rattle.acts.specs.Represents.{Running}
use Rattle.acts.specs.Answers.{Deciding, Marking, Backing, Counting}
use Rattle.acts.specs.declared.Session.{Session}
use Rattle.acts.specs.declared.Standing.{Standing}
use Rattle.acts.specs.declared.Standing.TheVariants.{OpenedDead, Live, Dead}
use Rattle.acts.proofs.RepresentsLaws.{live_working}
use Rattle.performing.specs.Performing.{Performing}

-- ---- what a call needs where no number refuses it
and-true : (b : Bool) → b && true ≡ false → b ≡ false
and-true true is = is
and-true false is = refl

not_dead : (standing : Standing) → is_dead standing ≡ false → standing ≡ Live
not_dead OpenedDead is = absurd (true≢false is)
not_dead Live is = refl
not_dead (Dead call) is = absurd (true≢false is)

module _ {masks cells trail heights : List ℕ} {n k : ℕ} {session : Session} where
  none_applies : {c d : Call} → c ≡ d → (performing : Performing masks cells trail heights n k session c)
      → refusal performing.running.rules performing.running.state d ≡ none
  none_applies {c} {d} is performing =
      let running = performing.running in
      subst (λ (e : Call). refusal running.rules running.state e ≡ none) is
      (performing.accepted running.table running.rules running.state running.represents)

  live_now : (running : Running masks cells trail heights n k session) → running.state.dead ≡ false → session.standing ≡ Live
  live_now running is = not_dead session.standing (sym running.represents.flag ∙ is)

  -- for either kind of decision the same three numbers do not apply
  running_deciding : (running : Running masks cells trail heights n k session) (slot v : ℕ) → leb running.rules.slots slot ≡ false
      → leb running.rules.values v ≡ false → running.state.dead && true ≡ false → Deciding masks cells trail heights n k session slot v
  running_deciding running slot v no_slot no_value no_death =
      let R = running.rules in
      let suits = running.represents.suits in
      let slot_in : slot < R.slots = leb-false R.slots slot no_slot in
      let value_in : v < R.values = leb-false R.values v no_value in
      record {
        running = running;
        live = live_now running (and-true running.state.dead no_death);
        slot_in = omega (arith, slot_in, suits.slots);
        value_in = omega (arith, value_in, suits.values);
      }

  pub decide_deciding : {c : Call} (assign : Bool) (slot v : ℕ) → c ≡ Calls.decide (decision_of assign slot v)
      → Performing masks cells trail heights n k session c → Deciding masks cells trail heights n k session slot v
  decide_deciding true slot v is performing =
      let running = performing.running in
      let no = none_applies_not running.rules running.state (Calls.decide (decision_of true slot v)) (none_applies is performing) in
      running_deciding running slot v (no slot_out) (no value_out) (no while_dead)
  decide_deciding false slot v is performing =
      let running = performing.running in
      let no = none_applies_not running.rules running.state (Calls.decide (decision_of false slot v)) (none_applies is performing) in
      running_deciding running slot v (no slot_out) (no value_out) (no while_dead)

  pub mark_marking : {c : Call} → c ≡ Calls.mark → Performing masks cells trail heights n k session c → Marking heights session
  mark_marking is performing =
      let running = performing.running in
      let represents = running.represents in
      let R = running.rules in
      let S = running.state in
      let no = none_applies_not R S Calls.mark (none_applies is performing) in
      let free : length S.saved < R.limit = leb-false R.limit (length S.saved) (no marks_full) in
      let live = live_now running (and-true S.dead (no while_dead)) in
      record {
        live = live;
        free = omega (arith, free, represents.suits.limit, represents.marks_are);
        fits = omega (arith, (live_working represents live).base.room, represents.room.heights_fit);
      }

  pub back_backing : {c : Call} → c ≡ Calls.back → Performing masks cells trail heights n k session c
      → Backing masks cells trail heights n k session
  back_backing is performing =
      let running = performing.running in
      let S = running.state in
      let no = none_applies_not running.rules S Calls.back (none_applies is performing) in
      let some : length S.saved ≡ 0 → ⊥ = eqb-false (length S.saved) 0 (no no_mark) in
      record { running = running; marked = omega (arith, some, running.represents.marks_are) }

  pub show_inside : {c : Call} (slot : ℕ) → c ≡ Calls.show slot → Performing masks cells trail heights n k session c → slot < length masks
  show_inside slot is performing =
      let running = performing.running in
      let R = running.rules in
      let no = none_applies_not R running.state (Calls.show slot) (none_applies is performing) in
      let slot_in : slot < R.slots = leb-false R.slots slot (no slot_out) in
      omega (arith, slot_in, running.represents.suits.slots, running.represents.room.masks_inside)

  pub walls_counting : {c : Call} (lower : Bool) (v : ℕ) → c ≡ Calls.walls lower v → Performing masks cells trail heights n k session c
      → Counting cells n k v
  walls_counting lower v is performing =
      let running = performing.running in
      let R = running.rules in
      let room = running.represents.room in
      let no = none_applies_not R running.state (Calls.walls lower v) (none_applies is performing) in
      let value_in : v < R.values = leb-false R.values v (no value_out) in
      record {
        rows = room.rows;
        slots_fit = room.slots_fit;
        values_fit = room.values_fit;
        value_in = omega (arith, value_in, running.represents.suits.values);
      }

  pub unknown_refused : {c : Call} → c ≡ Calls.unknown → Performing masks cells trail heights n k session c → ⊥
  unknown_refused is performing =
      let running = performing.running in
      let no = none_applies_not running.rules running.state Calls.unknown (none_applies is performing) in
      true≢false (no unknown_kind)
