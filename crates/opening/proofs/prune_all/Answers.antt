-- `opening::prune_all` meets its contract. The invariant of its loop: the rows of the values below v are quiet (`QuietBelow`). Each turn
-- is `quiet_more`. Assumes nothing.
use native.Mathlib.Omega.{arith}
use Rattle.filter.proofs.FilteredLaws.{filtered_at, filtered_refl, filtered_more, filtered_goal}
use Rattle.opening.proofs.PruneLaws.{opening_more, quiet_none, quiet_more}
use Rattle.opening.proofs.prune_all.Goals as goal

pub loop-v-init : goal.loop-v-init
loop-v-init c = filtered_refl _ _ _ _ (quiet_none _ _ _ _)

pub prune_value-o-requires : goal.prune_value-o-requires
prune_value-o-requires c = (opening_more c.requires c.loop-v.invariant, c.loop-v-test.true)

pub returns-in-Dead : goal.returns-in-Dead
returns-in-Dead c = filtered_more c.loop-v.invariant (filtered_at c.in-Dead.is c.prune_value-o.ensures) (λ N any. any) (λ no. absurd no)

pub loop-v-preserved : goal.loop-v-preserved
loop-v-preserved c = quiet_more c.loop-v-test.true c.loop-v.invariant (filtered_at c.in-Live.is c.prune_value-o.ensures)

pub returns : goal.returns
returns c =
    filtered_goal c.loop-v.invariant
    (λ live below. record { quiet = λ T mirror kind x x<k. below.quiet T mirror kind x (omega (arith, x<k, c.loop-v-test.false)) })
