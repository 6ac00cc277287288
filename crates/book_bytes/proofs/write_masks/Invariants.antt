-- What each turn of `book_bytes::write_masks` keeps.
use Rattle.book.specs.Layout.{masks}
use Rattle.book_bytes.proofs.WritingLaws.{Masking}
use Rattle.book_bytes.proofs.write_masks.Given as goal

abbrev pub invariant-loop-s : goal.invariant-loop-s
invariant-loop-s l = Masking l.initial.out (masks l.book) l.out l.s
