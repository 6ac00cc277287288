-- What a decision is to the machine: it lives (`decide_live`), with as many struck as the ones fall, or dies and is taken back (`decide_dead`).
-- No contract cites this file. Assumes nothing.
use mathlib.Core.Path.{◌≡◌, refl, sym, ◌∙◌}
use mathlib.Core.Bool.{Bool, true, false}
use mathlib.Core.List.{List}
use mathlib.Core.Option.{none, some}
use Prim.Native.Nat.{ℕ, ◌-◌, ◌<◌}
use native.Mathlib.Nat.{le_trans}
use native.Mathlib.Omega.{arith}
use lib.ListN.{length}
use Rattle.closing_model.specs.Table.{Table}
use Rattle.filter_model.specs.State.{Ready}
use Rattle.filter.specs.Filtered.{Filtered}
use Rattle.outcomes.specs.declared.Outcome.TheVariants as Outcomes
use Rattle.undoing.specs.Undone.{Undoable, Undone}
use Rattle.session_model.specs.Decisions.{Decision, cut}
use Rattle.session_model.specs.Calls as Calls
use Rattle.session_model.specs.Machine.{decided, act}
use Rattle.session_model.specs.Standing.{stand}
use Rattle.session_model.specs.State as Machine
use Rattle.session_model.specs.State.{Rules, State}
use Rattle.acts.specs.Given.{decision_of, CutOf, standing_of}
use Rattle.acts.specs.Represents.{Represents}
use Rattle.acts.specs.Answers.{Answered, Acts, Deciding, Strikes, OnesLost}
use Rattle.acts.specs.declared.Session.{Session}
use Rattle.acts.specs.declared.Standing.TheVariants.{Live, Dead}
use Rattle.acts.proofs.RepresentsLaws.{live_working}
use Rattle.deciding.proofs.CutLaws.{cut_live, cut_dead}
use Rattle.cutting.proofs.StruckLaws.{moved_strikes}
use Rattle.deciding.proofs.WorkingLaws.{working_world, room_moved, working_live, undoable_dead, masks_back, working_dead, room_dead}

-- ---- the machine
act_live : (R : Rules) (S : State) (d : Decision) (N : List ℕ) → R.settle (cut d S.masks) ≡ some N
    → act R S (Calls.decide d) ≡ (record { masks = N; dead = false; saved = S.saved }, Machine.live (R.ones S.masks - R.ones N))
unfolding act decided
act_live R S d N settles = rw settles refl

act_dead : (R : Rules) (S : State) (d : Decision) → R.settle (cut d S.masks) ≡ none
    → act R S (Calls.decide d) ≡ (record { masks = S.masks; dead = true; saved = S.saved }, Machine.dead)
unfolding act decided
act_dead R S d fails = rw fails refl

-- ---- the answers of a session that is live
module _ {T : Table} {R : Rules} {S : State} {masks cells trail heights : List ℕ} {n k : ℕ} {session : Session}
    (represents : Represents T R S masks cells trail heights n k session) (live : session.standing ≡ Live) (i : ℕ) (d : Decision) where
  live_answered : {Q : List ℕ → Type 0} {masks' cells' trail' : List ℕ} {h : ℕ} (x : ℕ)
      → Filtered n k Q Q masks cells trail session.top masks' cells' trail' (Outcomes.Live h)
      → R.settle (cut d S.masks) ≡ some masks' → x ≡ R.ones S.masks - R.ones masks'
      → Answered T R (act R S (Calls.decide d)) (stand (standing_of session.standing) i (Calls.decide d) (act R S (Calls.decide d)).1)
      masks' cells' trail' heights n k
      (record { session = record { standing = Live; top = h; marks = session.marks; idle = session.idle }; first = 0; second = x })
  unfolding stand
  live_answered {masks' = masks'} x done settles struck =
      let working = live_working represents live in
      let room = room_moved represents.room working done.moved in
      let moved_to = working_live represents.room working done in
      rw (act_live R S d masks' settles, live)
      (record {
        represents =
            record {
              room = room;
              suits = represents.suits;
              masks_are = refl;
              flag = refl;
              marks_are = represents.marks_are;
              marks_in = represents.marks_in;
              top_fits = omega (arith, moved_to.base.room, room.heights_fit);
              stands = moved_to;
            };
        first = refl;
        second = struck;
        standing = refl;
      })

  dead_answered : {Q : List ℕ → Type 0} {masks' cells' trail' masks'' cells'' : List ℕ} {h : ℕ}
      → Filtered n k Q Q masks cells trail session.top masks' cells' trail' (Outcomes.Dead h)
      → Undone masks' cells' trail' n k session.top h masks'' cells'' → R.settle (cut d S.masks) ≡ none
      → Answered T R (act R S (Calls.decide d)) (stand (standing_of session.standing) i (Calls.decide d) (act R S (Calls.decide d)).1)
      masks'' cells'' trail' heights n k
      (record { session = record { standing = Dead i; top = session.top; marks = session.marks; idle = session.idle }; first = 1; second = 0 })
  unfolding stand
  dead_answered done undone fails =
      let working = live_working represents live in
      rw (act_dead R S d fails)
      (record {
        represents =
            record {
              room = room_dead represents.room working done undone;
              suits = represents.suits;
              masks_are = represents.masks_are ∙ sym (masks_back represents.room working done undone);
              flag = refl;
              marks_are = represents.marks_are;
              marks_in = represents.marks_in;
              top_fits = represents.top_fits;
              stands = working_dead represents.room working done undone;
            };
        first = refl;
        second = refl;
        standing = refl;
      })

-- ---- what the filter and the undoing need
module _ {masks cells trail heights : List ℕ} {n k : ℕ} {session : Session} {slot v : ℕ}
    (deciding : Deciding masks cells trail heights n k session slot v) where
  pub deciding_ready : Ready masks cells trail n k session.top slot v
  deciding_ready =
      let represents = deciding.running.represents in
      record {
        world = working_world represents.room (live_working represents deciding.live);
        opens = (live_working represents deciding.live).mirror.opens;
        slot_in = deciding.slot_in;
        value_in = deciding.value_in;
      }

  pub deciding_undoable : {Q : List ℕ → Type 0} {masks' cells' trail' : List ℕ} {h : ℕ}
      → Filtered n k Q Q masks cells trail session.top masks' cells' trail' (Outcomes.Dead h)
      → Undoable masks' cells' trail' n k session.top h
  deciding_undoable done =
      let represents = deciding.running.represents in
      undoable_dead represents.room (live_working represents deciding.live) done

  pub deciding_strikes : {Q : List ℕ → Type 0} {masks' cells' trail' : List ℕ} {h : ℕ}
      → Filtered n k Q Q masks cells trail session.top masks' cells' trail' (Outcomes.Live h)
      → Strikes n session.idle trail' session.top h
  deciding_strikes done =
      let represents = deciding.running.represents in
      let room = represents.room in
      moved_strikes session.idle deciding_ready.world room.heights_fit (le_trans represents.suits.idle_known room.values_fit) done.moved

  -- ---- the answers
  module _ (i : ℕ) (assign : Bool) {masks' cells' trail' : List ℕ} {h : ℕ} where
    pub decide_live : {count : ℕ}
        → Filtered n k (CutOf assign slot v) (CutOf assign slot v) masks cells trail session.top masks' cells' trail' (Outcomes.Live h)
        → OnesLost n session.idle trail' session.top h count
        → Acts n k i (Calls.decide (decision_of assign slot v)) session masks cells trail heights masks' cells' trail' heights
        (record { session = record { standing = Live; top = h; marks = session.marks; idle = session.idle }; first = 0; second = count })
    decide_live {count} done lost =
        record {
          does = λ T R S represents.
              let d = decision_of assign slot v in
              let working = live_working represents deciding.live in
              let inside : slot < length masks = omega (arith, deciding.slot_in, represents.room.masks_inside) in
              let cuts = cut_live working.rules.closed working.mirror working.base.stable slot v inside assign done in
              let settles : R.settle (cut d S.masks) ≡ some masks' = rw represents.masks_are (working.rules.settle (cut d masks) ∙ cuts) in
              let struck : count ≡ R.ones S.masks - R.ones masks' =
              rw (represents.masks_are, represents.suits.ones masks, represents.suits.ones masks')
              (omega (arith, lost.difference k masks masks' cells cells' done.moved.trailed.back)) in
              live_answered represents deciding.live i d count done settles struck;
        }

    pub decide_dead : {masks'' cells'' : List ℕ}
        → Filtered n k (CutOf assign slot v) (CutOf assign slot v) masks cells trail session.top masks' cells' trail' (Outcomes.Dead h)
        → Undone masks' cells' trail' n k session.top h masks'' cells''
        → Acts n k i (Calls.decide (decision_of assign slot v)) session masks cells trail heights masks'' cells'' trail' heights
        (record { session = record { standing = Dead i; top = session.top; marks = session.marks; idle = session.idle }; first = 1; second = 0 })
    decide_dead done undone =
        record {
          does = λ T R S represents.
              let d = decision_of assign slot v in
              let working = live_working represents deciding.live in
              let inside : slot < length masks = omega (arith, deciding.slot_in, represents.room.masks_inside) in
              let cuts = cut_dead working.rules.closed working.mirror working.base.stable slot v inside assign done in
              let fails : R.settle (cut d S.masks) ≡ none = rw represents.masks_are (working.rules.settle (cut d masks) ∙ cuts) in
              dead_answered represents deciding.live i d done undone fails;
        }
