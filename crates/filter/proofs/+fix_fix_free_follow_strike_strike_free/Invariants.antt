-- The proof of the cycle of calls of `fix`, `fix_free`, `follow`, `strike` and `strike_free`. The measure is four times the values that are left, plus 1 for
-- `fix`, 2 for `fix_free` and `strike_free`, and 3 for `follow`. The invariant of each loop is `Filtered` for what was passed: in `fix` the other values that
-- are struck, and that `rest` is what the slot has besides v (`others_less`); in the two others the slots that are settled (`FreeInv`, whose turns are those
use mathlib.Core.Bool.{true, false}
use mathlib.Core.List.{List}
use Prim.Native.Nat.{ℕ, ◌+◌, ◌-◌, ◌*◌}
use lib.ListN.{get_or}
use Rattle.domains.specs.Masks.{total}
use Rattle.filter_model.specs.Cuts.{FixCut}
use Rattle.slots.specs.Values.{OtherValues}
use Rattle.filter.specs.Filtered.{Filtered}
use Rattle.outcomes.specs.declared.Outcome.TheVariants.{Live}
use Rattle.filter.proofs.TurnLaws.{FreeInv}
use Rattle.filter.proofs.+fix_fix_free_follow_strike_strike_free.Given as goal

-- some of the slot's other values are struck, and `rest` is those that are left
pub record FixInv (n k slot v : ℕ) (masks₀ cells₀ trail₀ : List ℕ) (h₀ : ℕ) (masks cells trail : List ℕ) (h rest : ℕ) : Type 0 where
  pub done : Filtered n k (FixCut slot v) (λ M. Unit {0}) masks₀ cells₀ trail₀ h₀ masks cells trail (Live h)
  pub others : OtherValues (get_or masks slot 0) v rest

abbrev pub decreases-fix : goal.decreases-fix
decreases-fix l = 4 * total l.masks.now + 1

abbrev pub decreases-fix_free : goal.decreases-fix_free
decreases-fix_free l = 4 * total l.masks.now + 2

abbrev pub decreases-follow : goal.decreases-follow
decreases-follow l = 4 * total l.masks.now + 3

abbrev pub decreases-strike : goal.decreases-strike
decreases-strike l = 4 * total l.masks.now

abbrev pub decreases-strike_free : goal.decreases-strike_free
decreases-strike_free l = 4 * total l.masks.now + 2

abbrev pub invariant-fix-loop-w : goal.invariant-fix-loop-w
invariant-fix-loop-w l = FixInv l.n l.k l.slot l.v l.initial.masks l.initial.cells l.initial.trail l.initial.h l.masks l.cells l.trail l.h l.rest

abbrev pub decreases-fix-loop-w : goal.decreases-fix-loop-w
decreases-fix-loop-w l = total l.masks

abbrev pub invariant-fix_free-loop-b : goal.invariant-fix_free-loop-b
invariant-fix_free-loop-b l = FreeInv true l.n l.k l.v l.start l.end l.initial.masks l.initial.cells l.initial.trail l.initial.h l.masks l.cells l.trail l.h l.b l.word

abbrev pub decreases-fix_free-loop-b : goal.decreases-fix_free-loop-b
decreases-fix_free-loop-b l = 4294967296 * (l.end - 32 * l.b) + l.word

abbrev pub invariant-strike_free-loop-b : goal.invariant-strike_free-loop-b
invariant-strike_free-loop-b l = FreeInv false l.n l.k l.v l.start l.end l.initial.masks l.initial.cells l.initial.trail l.initial.h l.masks l.cells l.trail l.h l.b l.word

abbrev pub decreases-strike_free-loop-b : goal.decreases-strike_free-loop-b
decreases-strike_free-loop-b l = 4294967296 * (l.end - 32 * l.b) + l.word
