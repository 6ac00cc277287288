-- `opening::prune_value` meets its contract: every stable list meets the cuts of both spent corners (`value_pruned`, `value_dead`). Assumes
-- nothing.
use mathlib.Core.Bool.{true, false}
use mathlib.Core.Path.{refl}
use Prim.Native.Nat.{◌+◌}
use native.Mathlib.Omega.{arith}
use Rattle.filter_model.proofs.StateLaws.{world_row, world_moved}
use Rattle.filter.proofs.FilteredLaws.{filtered_at}
use Rattle.opening.proofs.PruneLaws.{opening_more, mirrored_spent, value_dead, value_pruned}
use Rattle.opening.proofs.prune_value.Goals as goal

pub spent-a-requires : goal.spent-a-requires
spent-a-requires c =
    let args = c.args in
    let pre = c.requires in
    world_row pre.0.world args.v _ (omega (arith, pre.1)) refl

pub prune-p-requires : goal.prune-p-requires
prune-p-requires c =
    let spent = c.spent-a in
    let args = c.args in
    let pre = c.requires in
    let opening = pre.0 in
    let end_in = mirrored_spent opening.mirrored true args.v spent.result pre.1 spent.ensures in
    record { world = opening.world; opens = opening.mirrored.mirror.opens; end_in = end_in; value_in = pre.1 }

pub spent-b-requires : goal.spent-b-requires
spent-b-requires c =
    let prune = c.prune-p in
    let args = c.args in
    let pre = c.requires in
    let low = filtered_at c.in-Live.is prune.ensures in
    world_row (world_moved pre.0.world low.moved) (args.k + args.v) _ (omega (arith, pre.1)) refl

pub prune-requires : goal.prune-requires
prune-requires c =
    let spent2 = c.spent-b in
    let prune = c.prune-p in
    let args = c.args in
    let pre = c.requires in
    let opening = opening_more pre.0 (filtered_at c.in-Live.is prune.ensures) in
    let end_in = mirrored_spent opening.mirrored false args.v spent2.result pre.1 spent2.ensures in
    record { world = opening.world; opens = opening.mirrored.mirror.opens; end_in = end_in; value_in = pre.1 }

pub returns-in-Live : goal.returns-in-Live
returns-in-Live c =
    let prune2 = c.prune in
    let spent2 = c.spent-b in
    let prune = c.prune-p in
    let spent = c.spent-a in
    let pre = c.requires in
    value_pruned pre.1 spent.ensures (filtered_at c.in-Live.is prune.ensures) spent2.ensures prune2.ensures

pub returns-in-Dead : goal.returns-in-Dead
returns-in-Dead c =
    let prune = c.prune-p in
    let spent = c.spent-a in
    let pre = c.requires in
    value_dead pre.1 spent.ensures (filtered_at c.in-Dead.is prune.ensures)
