-- `pruning::prune` meets its contract: each kind has its own loop (`filtered_bound`). Assumes nothing.
use mathlib.Core.Path.{sym}
use mathlib.Core.Bool.{true, false}
use Rattle.filter_model.proofs.MirrorLaws.{settled_from_all}
use Rattle.filter.proofs.FilteredLaws.{filtered_at, filtered_goal, filtered_bound}
use Rattle.pruning.proofs.prune.Goals as goal

pub returns-then-lower : goal.returns-then-lower
returns-then-lower c =
    let fix-free = c.fix_free in
    let if1 = c.if-lower in
    let args = c.args in
    filtered_at (sym c.told.ensures)
    (filtered_goal (filtered_bound true args.lower args.v args.end if1.true fix-free.ensures) (λ live. settled_from_all))

pub returns : goal.returns
returns c =
    let strike-free = c.strike_free in
    let if1 = c.if-lower in
    let args = c.args in
    filtered_at (sym c.told-2.ensures)
    (filtered_goal (filtered_bound false args.lower args.v args.end if1.false strike-free.ensures) (λ live. settled_from_all))
