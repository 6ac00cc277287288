-- `canonical::close_and_archive` meets its contract: what closing says of the book's closed table (`wrote_closed`, `wrote_none`). Assumes nothing.
use mathlib.Core.Path.{refl, ap, ◌∙◌}
use native.Mathlib.Omega.{arith}
use lib.ListN.{length}
use Rattle.canonical_model.specs.Canonical.{archive_of}
use Rattle.canonical_model.proofs.OutcomeLaws.{archive_dead}
use Rattle.settle_fault.proofs.ClosedLaws.{wrote_closed, wrote_none}
use Rattle.canonical.proofs.ArchiveLaws.{room_ready, canonises_dead}
use Rattle.canonical.proofs.close_and_archive.Goals as goal

pub close_exactly-requires : goal.close_exactly-requires
close_exactly-requires c = room_ready c.requires.1

pub archive_table-requires : goal.archive_table-requires
archive_table-requires c = (
  c.requires.0,
  record {
    book = c.requires.1.book;
    slotted = c.requires.1.slotted;
    closes = wrote_closed _ c.in-Live.ensures refl;
  },
)

pub returns-in-Live : goal.returns-in-Live
returns-in-Live c = rw (wrote_closed _ c.in-Live.ensures refl) c.archive_table.ensures

pub returns-in-Dead : goal.returns-in-Dead
returns-in-Dead c =
    let none = wrote_none _ c.in-Dead.ensures (λ live. absurd (omega (arith, live))) in
    let room = length c.args.out.now in
    canonises_dead c.args.out.now (ap (archive_of c.args.limits c.args.book.now room) none ∙ archive_dead c.args.limits c.args.book.now room)
