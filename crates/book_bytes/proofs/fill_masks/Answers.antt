-- `book_bytes::fill_masks` meets its contract: a turn is `masks_more`, and each mask of the list is the same. Assumes nothing.
use mathlib.Core.Path.{sym}
use native.Mathlib.Omega.{arith}
use lib.ListN.{length-replicate, get_or-replicate}
use Rattle.book_bytes.proofs.WritingLaws.{masks_more, masks_all}
use Rattle.book_bytes.proofs.fill_masks.Goals as goal

pub loop-s-preserved : goal.loop-s-preserved
loop-s-preserved c =
    masks_more (omega (arith, length-replicate c.args.n c.args.mask)) c.loop-s.invariant
    (sym (get_or-replicate c.args.n c.loop-s.s c.args.mask 0 c.loop-s-test.true)) c.put.ensures

pub returns : goal.returns
returns c = masks_all (omega (arith, length-replicate c.args.n c.args.mask)) c.loop-s.invariant
