-- What each turn of `mirroring::open_word` keeps: the bits below i are those of the open slots.
use Rattle.mirroring.specs.Built.{WordOf}
use Rattle.mirroring.proofs.open_word.Given as goal

abbrev pub invariant-loop-i : goal.invariant-loop-i
invariant-loop-i l = WordOf l.masks l.n l.base l.i l.x
