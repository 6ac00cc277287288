-- No plan is lost in a session: a plan of the book that meets the decisions in force lies within the masks after the list (`demand_plan_kept`,
-- slot by slot `demand_plan_at`), and no plan meets a decision that was answered dead and those then in force (`demand_dead_no_plan`).
-- No contract cites this file. Assumes nothing.
use mathlib.Core.Path.{◌≡◌, sym, ◌∙◌}
use mathlib.Core.List.{List, ◌∷◌}
use Prim.Native.Nat.{ℕ, ◌<◌}
use native.Mathlib.Omega.{arith}
use lib.ListN.{get_or}
use Rattle.domains.specs.Masks.{HasAt, Subset}
use Rattle.book.specs.Layout.{slots, masks}
use Rattle.book.proofs.LayoutLaws.{length_masks}
use Rattle.settling_model.specs.Plans.{singles}
use Rattle.settling_model.specs.Book.{BookPlan}
use Rattle.settling_model.proofs.PlansLaws.{allowed_singles, singles_allowed, plan_stable}
use Rattle.session_model.specs.Decisions.{Decision, Allowed}
use Rattle.session_model.specs.Calls.{Call, decide}
use Rattle.session_model.specs.State.{dead}
use Rattle.session_model.specs.BookRun.{state_after, force_after}
use Rattle.session_model.specs.Demand.{Refused, At, answer_to, PlanMeets, Demand3}

module _ (b p : List ℕ) (plan : BookPlan b p) where
  pub plan_allowed : (ds : List Decision) → PlanMeets p ds → Allowed (masks b) ds (singles p)
  plan_allowed ds meets =
      record {
        within = allowed_singles p (masks b) (plan.slots ∙ sym (length_masks b)) (λ s s<n. plan.allowed s (omega (arith, plan.slots)));
        meets = meets;
      }

  module _ (limit : ℕ) (calls : List Call) (claim : Demand3 b limit calls) where
    pub demand_plan_kept : PlanMeets p (force_after b limit calls) → Subset (singles p) (state_after b limit calls).masks
    demand_plan_kept meets = claim.largest.largest (singles p) (plan_stable plan claim.loosest) (plan_allowed _ meets)

    pub demand_plan_at : PlanMeets p (force_after b limit calls) → (s : ℕ) → s < slots b → HasAt (state_after b limit calls).masks s (get_or p s 0)
    demand_plan_at meets s s<n = singles_allowed p _ (demand_plan_kept meets) s (omega (arith, plan.slots))

    pub demand_dead_no_plan : (before rest : List Call) (d : Decision) → At calls before (decide d) rest
        → (Refused (answer_to b limit calls before) → ⊥) → answer_to b limit calls before ≡ dead → PlanMeets p (d ∷ force_after b limit before) → ⊥
    demand_dead_no_plan before rest d at unrefused dies meets =
        (claim.dies before rest d at unrefused).0 dies (singles p) (plan_stable plan claim.loosest) (plan_allowed _ meets)
