-- `canonical_rows::writing::write_corner` meets its contract: the sides were tested, and the row is the corner's (`corner_written`), or there is none.
-- Assumes nothing.
use lib.ListN.{length}
use Rattle.canonical_rows.proofs.RowsLaws.{corner_written, corner_absent, corner_room}
use Rattle.canonical_rows.proofs.TurnsLaws.{some_corner, no_corner}
use Rattle.canonical_rows.proofs.writing.write_corner.Goals as goal

pub write_row-requires : goal.write_row-requires
write_row-requires c =
    let room =
    corner_room c.args.n c.args.v c.args.t c.args.lowers.now c.args.uppers.now c.corner_at-low.ensures c.corner_at-high.ensures
    (some_corner c.then-low.either) (length c.args.out.now) c.args.place c.requires.3
    in
    (c.requires.0, c.requires.2, room)

pub returns-then-low : goal.returns-then-low
returns-then-low c =
    corner_written c.args.n c.args.v c.args.t c.args.lowers.now c.args.uppers.now c.corner_at-low.ensures c.corner_at-high.ensures
    (some_corner c.then-low.either) c.write_row.ensures.0 c.write_row.ensures.1

pub returns : goal.returns
returns c =
    corner_absent c.args.n c.args.v c.args.t c.args.lowers.now c.args.uppers.now c.corner_at-low.ensures c.corner_at-high.ensures
    (no_corner c.if-low.false c.if-high.false) c.args.out.now c.args.place
