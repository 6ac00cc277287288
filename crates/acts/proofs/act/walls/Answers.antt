-- `acts::act::walls` meets its contract: none after a dead opening (`walls_shut`), else as many as the formula says (`walls_stand`). Assumes nothing.
use mathlib.Core.Path.{sym, ◌∙◌}
use Prim.Native.Nat.{◌+◌, ◌≤◌}
use native.Mathlib.Omega.{arith}
use Rattle.segments_model.specs.Links.{gaps}
use Rattle.segments_model.specs.Part.{part}
use Rattle.acts.proofs.CallLaws.{walls_most, walls_shut, walls_stand, walls_row}
use Rattle.acts.proofs.act.walls.Goals as goal

pub returns-then-is_shut : goal.returns-then-is_shut
returns-then-is_shut c = walls_shut c.args.lower (sym c.is_shut.ensures ∙ c.if-is_shut.true)

pub standing_in-count-requires : goal.standing_in-count-requires
standing_in-count-requires c = walls_row c.args.lower c.requires c.row_start-start.ensures

pub overflow_cast-result : goal.overflow_cast-result
overflow_cast-result c =
    let cells = part c.row_start-start.result (c.args.n + 2) c.args.cells.now in
    let most : c.standing_in-count.result ≤ c.args.n = walls_most (gaps cells) c.args.n c.standing_in-count.result c.standing_in-count.ensures in
    omega (arith, most, c.requires.slots_fit)

pub returns : goal.returns
returns c =
    walls_stand c.args.lower (sym c.is_shut.ensures ∙ c.if-is_shut.false) c.requires.value_in c.standing_in-count.result c.row_start-start.result
    c.row_start-start.ensures c.standing_in-count.ensures
