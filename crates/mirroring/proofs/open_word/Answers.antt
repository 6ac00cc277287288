-- `mirroring::open_word` meets its contract. The invariant of its loop: the bits below i are those of the open slots (`WordOf`).
-- Each turn is `word_skip` or `word_more`. Assumes nothing.
use native.Mathlib.Omega.{arith}
use Rattle.mirroring.proofs.BuiltLaws.{word_none, word_skip, word_lacks, word_more, word_all}
use Rattle.mirroring.proofs.open_word.Goals as goal

pub loop-i-init : goal.loop-i-init
loop-i-init c = word_none _ _ _

pub loop-i-preserved-then-n-base : goal.loop-i-preserved-then-n-base
loop-i-preserved-then-n-base c = word_skip c.loop-i.invariant (λ inside. absurd (omega (arith, c.if-n-base.true)))

pub bounds-masks-base : goal.bounds-masks-base
bounds-masks-base c = omega (arith, c.if-n-base.false, c.requires.0)

pub loop-i-preserved-then-count-lt2 : goal.loop-i-preserved-then-count-lt2
loop-i-preserved-then-count-lt2 c =
    word_skip c.loop-i.invariant (λ inside many. omega (arith, c.if-count-lt2.true, c.count.ensures, many))

pub with-x-requires : goal.with-x-requires
with-x-requires c = (omega (arith, c.loop-i-test.true), word_lacks c.loop-i.invariant)

pub loop-i-preserved : goal.loop-i-preserved
loop-i-preserved c = rw c.with-x.ensures (word_more c.loop-i.invariant)

pub returns : goal.returns
returns c = word_all (omega (arith, c.loop-i-test.false)) c.loop-i.invariant
