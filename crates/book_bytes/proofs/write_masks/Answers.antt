-- `book_bytes::write_masks` meets its contract: a turn is `masks_more`, of the mask that the book has there. Assumes nothing.
use mathlib.Core.Path.{sym, ◌∙◌}
use native.Mathlib.Omega.{arith}
use Rattle.book.proofs.LayoutLaws.{length_masks, get_d_masks}
use Rattle.book_bytes.proofs.WritingLaws.{masks_more, masks_all}
use Rattle.book_bytes.proofs.write_masks.Goals as goal

pub loop-s-preserved : goal.loop-s-preserved
loop-s-preserved c =
    let mask = c.mask_at.ensures ∙ sym (get_d_masks c.args.book.now c.loop-s.s (omega arith)) in
    masks_more (omega (arith, length_masks c.args.book.now)) c.loop-s.invariant mask c.put.ensures

pub returns : goal.returns
returns c = masks_all (omega (arith, length_masks c.args.book.now)) c.loop-s.invariant
