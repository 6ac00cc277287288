-- `opening::open` meets its contract: a broken corner (`open_broken`), or all rows pruned (`open_pruned`). Assumes nothing.
use borrow.Author.Tests.{not-true, not-false}
use Rattle.opening.proofs.OpenedLaws.{built_opening, open_broken, open_pruned}
use Rattle.mirroring.proofs.BuiltLaws.{built_at}
use Rattle.opening.proofs.open.Goals as goal

pub returns-then-not-build_all : goal.returns-then-not-build_all
returns-then-not-build_all c =
    let build-all = c.build_all in
    open_broken (built_at (not-true _ c.if-not-build_all.true-raw) build-all.ensures)

pub prune_all-requires : goal.prune_all-requires
prune_all-requires c =
    let if1 = c.if-not-build_all in
    let build-all = c.build_all in
    let pre = c.requires in
    built_opening (built_at (not-false _ if1.false-raw) build-all.ensures) pre.world

pub returns : goal.returns
returns c =
    let prune-all = c.prune_all in
    let if1 = c.if-not-build_all in
    let build-all = c.build_all in
    let pre = c.requires in
    open_pruned (built_at (not-false _ if1.false-raw) build-all.ensures) pre.world.alive prune-all.ensures
