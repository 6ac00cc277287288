-- Decisions on a value that the slot lacks, in a book that opens live: an assign is answered dead (`absent_assign_dead`), a remove live with 0
-- struck (`absent_remove_live`). The masks are the largest list: within the assign a stable list would have an empty slot, and within the
-- remove the masks themselves lie. No contract cites this file. Assumes nothing.
use mathlib.Core.Path.{◌≡◌, ap, ◌∙◌, subst}
use mathlib.Core.Logic.{dite}
use mathlib.Core.List.{List, ◌∷◌}
use mathlib.Core.Option.{some}
use Prim.Native.Nat.{ℕ, ◌<◌}
use native.Mathlib.Decide.{ℕ_discrete}
use native.Mathlib.Omega.{arith}
use lib.ListN.{length, get_or}
use borrow.Author.Tests.{leb-false}
use Rattle.domains.specs.Mask.{test_bit}
use Rattle.domains.proofs.MaskLaws.{test_bit_lt, test_bit_empty, test_bit_ext}
use Rattle.book.specs.Layout.{slots, masks}
use Rattle.book.proofs.LayoutLaws.{length_masks}
use Rattle.closing_model.specs.Table.{view}
use Rattle.settling_model.specs.Settled.{LacksAt}
use Rattle.settling_model.specs.Stable.{Bound}
use Rattle.settling_model.specs.Book.{closed_book, settled_book}
use Rattle.session_model.specs.Decisions.{Decision, assign, remove, slot_of, Allowed, LargestUnder, UnstableUnder}
use Rattle.session_model.specs.Calls.{Call, decide}
use Rattle.session_model.specs.State.{Reply, live, dead}
use Rattle.session_model.specs.Refusal.{slot_out}
use Rattle.session_model.specs.Machine.{step}
use Rattle.session_model.specs.InForce.{when_live, follow, follow_all, unmarked}
use Rattle.session_model.specs.BookRun.{rules_of, state_after, replies_of, force_after}
use Rattle.session_model.specs.Demand.{bounds_of, Refused}
use Rattle.session_model.proofs.OrderLaws.{none_applies_not}
use Rattle.session_model.proofs.StepLaws.{unrefused_none}
use Rattle.session_model.proofs.KeptLaws.{step_kept}
use Rattle.session_model.proofs.LiveLaws.{closed_adequate, live_kept, live_answered}

-- ---- the lists under such a decision
module _ {bs : List Bound} {M N : List ℕ} {ds : List Decision} (best : LargestUnder bs M ds N) (s v : ℕ) (lacks : LacksAt N s v) where
  absent_assign_unstable : s < length M → UnstableUnder bs M (assign s v ∷ ds)
  absent_assign_unstable inside X stable allowed =
      let X⊆N = best.largest X stable (record { within = allowed.within; meets = allowed.meets.1 }) in
      let empty : get_or X s 0 ≡ 0 =
      test_bit_ext (get_or X s 0) 0
      (λ w.
      dite (ℕ_discrete (test_bit (get_or X s 0) w) 1)
      (λ has. absurd (omega (arith, lacks, X⊆N.bits s v, ap (λ (u : ℕ). test_bit (get_or X s 0) u) (allowed.meets.0 w has))))
      (λ not. omega (arith, test_bit_lt (get_or X s 0) w, test_bit_empty w)))
      in
      stable.alive.each s (omega (arith, allowed.within.len)) empty

  absent_remove_allowed : Allowed M (remove s v ∷ ds) N
  absent_remove_allowed = record { within = best.allowed.within; meets = (lacks, best.allowed.meets) }

-- ---- the answers
module _ (b : List ℕ) (limit : ℕ) (M : List ℕ) (settles : settled_book b ≡ some M) (L U : List ℕ) (closes : closed_book b ≡ some (L, U))
    (before : List Call) where
  -- a decision that is not refused is on a slot that is there
  decide_inside : (d : Decision) → (Refused (step (rules_of b limit) (state_after b limit before) (decide d)).1 → ⊥) → slot_of d < slots b
  decide_inside d not_refused =
      let unrefused = unrefused_none (rules_of b limit) (state_after b limit before) (decide d) not_refused in
      leb-false (slots b) (slot_of d) (none_applies_not (rules_of b limit) (state_after b limit before) (decide d) unrefused slot_out)

  -- after a live answer the masks are the largest list under the decision too
  live_largest : (d : Decision) (x : ℕ) → (step (rules_of b limit) (state_after b limit before) (decide d)).1 ≡ live x
      → LargestUnder (bounds_of b (view L U)) (masks b) (d ∷ force_after b limit before) (step (rules_of b limit) (state_after b limit before) (decide d)).0.masks
  unfolding follow when_live
  live_largest d x is =
      let ledger = follow_all unmarked before (replies_of b limit before) in
      let S = state_after b limit before in
      let kept =
      step_kept (rules_of b limit) (bounds_of b (view L U)) (closed_adequate b limit M settles L U closes) (masks b) ledger S (decide d)
      (live_kept b limit M settles L U closes before)
      in
      let after = (step (rules_of b limit) S (decide d)).0.masks in
      subst (λ (r : Reply). LargestUnder (bounds_of b (view L U)) (masks b) (follow ledger (decide d) r).force after) is kept.force

  module _ (s v : ℕ) (lacks : LacksAt (state_after b limit before).masks s v) where
    pub absent_assign_dead : (Refused (step (rules_of b limit) (state_after b limit before) (decide (assign s v))).1 → ⊥)
        → (step (rules_of b limit) (state_after b limit before) (decide (assign s v))).1 ≡ dead
    absent_assign_dead not_refused =
        (live_answered b limit M settles L U closes before (assign s v) not_refused).dies.1
        (absent_assign_unstable (live_kept b limit M settles L U closes before).force s v lacks
        (omega (arith, decide_inside (assign s v) not_refused, length_masks b)))

    pub absent_remove_live : (Refused (step (rules_of b limit) (state_after b limit before) (decide (remove s v))).1 → ⊥)
        → (step (rules_of b limit) (state_after b limit before) (decide (remove s v))).1 ≡ live 0
    absent_remove_live not_refused =
        let best = (live_kept b limit M settles L U closes before).force in
        let allowed = absent_remove_allowed best s v lacks in
        let answered = live_answered b limit M settles L U closes before (remove s v) not_refused in
        let lives = answered.lives (λ dies. answered.dies.0 dies (state_after b limit before).masks best.stable allowed) in
        let after = live_largest (remove s v) lives.0 lives.1 in
        let kept = (closed_adequate b limit M settles L U closes).fewer _ _ (after.largest (state_after b limit before).masks best.stable allowed) in
        lives.1 ∙ ap live (omega (arith, kept, answered.struck lives.0 lives.1))
