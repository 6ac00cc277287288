-- What each turn of `book_masks::load_masks` keeps.
use Rattle.book.specs.Layout.{mask_at}
use Rattle.filling.proofs.FillLaws.{Filled}
use Rattle.book_masks.proofs.load_masks.Given as goal

abbrev pub invariant-loop-slot : goal.invariant-loop-slot
invariant-loop-slot l = Filled (mask_at l.book) l.initial.masks l.slot l.masks
