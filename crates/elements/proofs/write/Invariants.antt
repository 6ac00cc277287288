-- What each turn of `elements::write` keeps: the first i elements are written.
use mathlib.Core.List.{map}
use Rattle.elements.proofs.ElementsLaws.{Written}
use Rattle.elements.proofs.write.Given as goal

abbrev pub invariant-loop-i : goal.invariant-loop-i
invariant-loop-i g l = Written g.row.W (map g.Number.Element.value l.xs) l.initial.out l.i l.out
