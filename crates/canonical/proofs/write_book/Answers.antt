-- `canonical::write_book` meets its contract: header, masks and rows stand one behind the other (`canonical_stored`). Assumes nothing.
use native.Mathlib.Omega.{arith}
use Rattle.canonical.proofs.ArchiveLaws.{closed_lines, rows_room, canonical_stored}
use Rattle.canonical.proofs.write_book.Goals as goal

pub write_rows-requires : goal.write_rows-requires
write_rows-requires c =
    let n_is = c.slots-n.ensures.0 in
    let k_is = c.values-k.ensures.0 in
    let room = rows_room c.args.book.now c.args.lowers.now c.args.uppers.now n_is k_is c.requires.1.count c.requires.1.room in
    (closed_lines c.requires.0 n_is k_is, omega (arith, c.write_header.auto.out, c.write_masks.auto.out, room))

pub returns : goal.returns
returns c =
    canonical_stored c.args.book.now c.args.lowers.now c.args.uppers.now c.slots-n.ensures.0 c.values-k.ensures.0 c.args.out.now
    c.idle.ensures.0 c.requires.1.count c.write_header.ensures c.write_masks.ensures c.write_rows.ensures
