-- `bands::narrow` meets its contract, by `narrowed_made`. Assumes nothing.
use Rattle.bands.proofs.TurnLaws.{narrowed_made}
use Rattle.bands.proofs.narrow.Goals as goal

pub returns : goal.returns
returns c =
    narrowed_made c.args.p c.args.lowers.now c.args.uppers.now c.store.new.s c.store-2.new.s c.args.above c.args.below c.load-a.result c.load-b.result
    c.less-gap.result c.raised.result c.lowered.result c.less.result c.less-2.result c.sum.result c.requires.0 c.requires.1 c.load-a.ensures
    c.load-b.ensures c.less-gap.ensures c.raised.ensures c.store.ensures c.lowered.ensures c.store-2.ensures c.less.ensures c.less-2.ensures c.sum.ensures
