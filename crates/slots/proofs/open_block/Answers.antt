-- `slots::open_block` meets its contract: the end is before the block (`block_none`), or the block's two words have no slot (`block_empty`), or are
-- cut to the slots from the start on and before the end (`block_bits`). Assumes nothing.
use Rattle.slots.proofs.BlockLaws.{block_none, block_empty, block_bits}
use Rattle.slots.proofs.open_block.Goals as goal

pub returns-then-end-b : goal.returns-then-end-b
returns-then-end-b c = block_none _ _ _ _ _ _ c.if-end-b.true

pub returns-then-x-eq0 : goal.returns-then-x-eq0
returns-then-x-eq0 c = block_empty _ _ _ _ _ _ c.word-x.ensures c.if-x-eq0.true

pub returns : goal.returns
returns c =
    let a = c.args in
    block_bits _ _ _ a.b a.start a.end c.bits_from.result c.word-x.ensures c.bits_from.ensures c.bits_before.ensures
