-- `deciding::decide` meets its contract: Live, the machine's masks become those at exit (`decide_live`); Dead, what was struck is taken back,
-- and the masks stay (`decide_dead`). Assumes nothing.
use Rattle.filter.proofs.FilteredLaws.{filtered_at}
use Rattle.deciding.proofs.DecideLaws.{deciding_ready, deciding_strikes, deciding_undoable, decide_live, decide_dead}
use Rattle.deciding.proofs.decide.Goals as goal

pub cut_slot-outcome-requires : goal.cut_slot-outcome-requires
cut_slot-outcome-requires c = deciding_ready c.requires

pub struck-count-requires : goal.struck-count-requires
struck-count-requires c =
    let pre = c.requires in
    let cut-slot = c.cut_slot-outcome in
    deciding_strikes pre (filtered_at c.in-Live.is cut-slot.ensures)

pub returns-in-Live : goal.returns-in-Live
returns-in-Live c =
    let pre = c.requires in
    let args = c.args in
    let cut-slot = c.cut_slot-outcome in
    decide_live pre args.i args.assign (filtered_at c.in-Live.is cut-slot.ensures) c.struck-count.ensures

pub undo-requires : goal.undo-requires
undo-requires c =
    let pre = c.requires in
    let cut-slot = c.cut_slot-outcome in
    deciding_undoable pre (filtered_at c.in-Dead.is cut-slot.ensures)

pub returns-in-Dead : goal.returns-in-Dead
returns-in-Dead c =
    let pre = c.requires in
    let args = c.args in
    let cut-slot = c.cut_slot-outcome in
    decide_dead pre args.i args.assign (filtered_at c.in-Dead.is cut-slot.ensures) c.undo.ensures
