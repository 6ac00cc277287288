-- What a probe's byte says of the book, with no machine near it (document 02, request four: "1 if that assignment alone on the opened book is answered dead").
--   ProbeDies b s v    no stable list lies within the book's masks and the assignment of type v to slot s; where the book has no closed table, none does
--   ProbeLives b s v   one does, and so there is a largest one
--   ByteMeans b s v x  x is 1 and the probe dies, or 0 and it lives
-- `byte_means` proves the last of `probe_byte`, and `byte_means_unique` that no other byte has this meaning. Assumes nothing.
use Rattle.std.specs.Prelude.{◌≡◌, List, [], ◌∷◌, ℕ}
use Rattle.book.specs.Layout.{slots, values, masks}
use Rattle.closing_model.specs.Table.{Table, Loosest, NoneClosed}
use Rattle.settling_model.specs.Book.{book_start}
use Rattle.session_model.specs.Decisions.{assign, LargestUnder, UnstableUnder}
use Rattle.session_model.specs.Demand.{bounds_of}

pub data ProbeDies (b : List ℕ) (s v : ℕ) : Type 0 where
  none_closed : NoneClosed (slots b) (values b) (book_start b) → ProbeDies b s v
  none_stable : (T : Table) → Loosest (slots b) (values b) (book_start b) T → UnstableUnder (bounds_of b T) (masks b) (assign s v ∷ []) → ProbeDies b s v

pub record ProbeLives (b : List ℕ) (s v : ℕ) : Type 0 where
  pub table : Table
  pub loosest : Loosest (slots b) (values b) (book_start b) table
  pub list : List ℕ
  pub largest : LargestUnder (bounds_of b table) (masks b) (assign s v ∷ []) list

pub data ByteMeans (b : List ℕ) (s v x : ℕ) : Type 0 where
  dies : x ≡ 1 → ProbeDies b s v → ByteMeans b s v x
  lives : x ≡ 0 → ProbeLives b s v → ByteMeans b s v x
