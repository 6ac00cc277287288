-- What each turn of `book_bytes::fill_masks` keeps.
use Rattle.book_bytes.proofs.WritingLaws.{Masking}
use lib.ListN.{replicate}
use Rattle.book_bytes.proofs.fill_masks.Given as goal

abbrev pub invariant-loop-s : goal.invariant-loop-s
invariant-loop-s l = Masking l.initial.out (replicate l.n l.mask) l.out l.s
