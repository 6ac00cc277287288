-- `probe::entry::probe_opened` meets its contract: Live, each call is tried on the opened book (`probes_live`); Dead, every byte is 1 (`probes_dead`).
-- Assumes nothing.
use Rattle.probe.proofs.EntryLaws.{opened_trying, probes_live, probes_dead}
use Rattle.probe.proofs.entry.probe_opened.Goals as goal

pub try_all-requires : goal.try_all-requires
try_all-requires c =
    opened_trying c.requires.ready c.in-Live.ensures c.slots-n.ensures.0 c.values-k.ensures.0 c.open_book-outcome.auto.masks

pub returns-in-Live : goal.returns-in-Live
returns-in-Live c =
    probes_live c.requires.ready c.in-Live.ensures c.slots-n.ensures.0 c.values-k.ensures.0 c.try_all.ensures

pub returns-in-Dead : goal.returns-in-Dead
returns-in-Dead c =
    probes_dead c.requires.ready c.in-Dead.ensures c.fill_dead.ensures
