-- `descents::fall_row` meets its contract: the answer of `segments::fall_in`, read as a clash, a reach, a tag and a note (`dropped_lowered` to
-- `dropped_reached`). Assumes nothing.
use mathlib.Core.Path.{◌∙◌}
use Rattle.descents.proofs.FallLaws.{dropped_lowered, dropped_still, dropped_joined, dropped_clash, dropped_reached}
use Rattle.descents.proofs.fall_row.Goals as goal

pub returns-in-Lowered : goal.returns-in-Lowered
returns-in-Lowered c = dropped_lowered c.args.row c.args.n c.fall_in-hit.ensures c.requires.2 c.in-Lowered.is c.saturating_sub-g.ensures c.fell_by.ensures

pub returns-in-Still : goal.returns-in-Still
returns-in-Still c = dropped_still c.args.row c.args.n c.fall_in-hit.ensures c.in-Still.is c.fell_by-in-Still.ensures

pub returns-in-Joined : goal.returns-in-Joined
returns-in-Joined c = dropped_joined c.args.row c.args.n c.fall_in-hit.ensures c.in-Joined.is c.fell_by-in-Joined.ensures

pub returns-in-Clash : goal.returns-in-Clash
returns-in-Clash c = dropped_clash c.args.row c.args.n c.fall_in-hit.ensures c.in-Clash.is c.fell_by-in-Clash.ensures

pub returns-in-Reached : goal.returns-in-Reached
returns-in-Reached c =
    let parts = c.fell_by-in-Reached.ensures in
    dropped_reached c.args.row c.args.n c.fall_in-hit.ensures c.in-Reached.is (parts.0, parts.1 ∙ c.up_to.ensures, parts.2, parts.3)
