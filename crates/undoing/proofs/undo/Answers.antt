-- `undoing::undo` meets its contract. The invariant of its loop: the strikes below i restore the old masks and cells from those at hand
-- (`Putting`). Each turn is `putting_step`. Assumes nothing.
use Rattle.undoing.proofs.UndoneLaws.{putting_start, putting_undoing, putting_step, putting_end}
use Rattle.undoing.proofs.undo.Goals as goal

pub loop-i-init : goal.loop-i-init
loop-i-init c =
    let pre = c.requires in
    putting_start _ _ _ _ _ _ _ pre.order

pub take_back-requires : goal.take_back-requires
take_back-requires c =
    let loop-test = c.loop-i-test in
    let loop = c.loop-i in
    let pre = c.requires in
    putting_undoing loop.invariant loop-test.true pre

pub loop-i-preserved : goal.loop-i-preserved
loop-i-preserved c =
    let take_back = c.take_back in
    let loop-test = c.loop-i-test in
    let loop = c.loop-i in
    putting_step loop.invariant loop-test.true take_back.auto.masks take_back.auto.cells take_back.ensures

pub shape_of-masks : goal.shape_of-masks
shape_of-masks c = c.loop-i.invariant.masks_size

pub shape_of-cells : goal.shape_of-cells
shape_of-cells c = c.loop-i.invariant.cells_length

pub returns : goal.returns
returns c = putting_end c.loop-i.invariant c.loop-i-test.false
