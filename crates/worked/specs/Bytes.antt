-- Books and call lists as bytes, in the layout of document 01 ('The book', 'Session').
--   at_least v e x           a row: type v, end e, lower x. A side that a row does not name is lower 0 or upper 65535
--   at_most v e x            a row: type v, end e, upper x
--   plain_book n k ms rs     the book of n slots, k types, the masks ms and the rows rs
--   call kind v s           4 bytes: kind, type, slot; then the calls by document 01's kinds, unused fields 0
-- Assumes nothing.
use Rattle.std.specs.Prelude.{List, [], ◌∷◌, ◌++◌, ℕ}
use Rattle.book.specs.declared.Row.{Row}
use Rattle.elements.specs.Elements.{digits}
use Rattle.book_bytes.specs.BookBytes.{book_bytes}

-- ---- books
abbrev pub at_least : ℕ → ℕ → ℕ → Row
at_least v e x = record { value = v; reserved = 0; end = e; lower = x; upper = 65535 }

abbrev pub at_most : ℕ → ℕ → ℕ → Row
at_most v e x = record { value = v; reserved = 0; end = e; lower = 0; upper = x }

-- byte 3 is 0
abbrev pub plain_book : ℕ → ℕ → List ℕ → List Row → List ℕ
plain_book n k ms rs = book_bytes n k 0 ms rs

-- ---- call lists
abbrev pub call : ℕ → ℕ → ℕ → List ℕ
call kind v s = (kind ∷ v ∷ []) ++ digits 2 s

abbrev pub assign : ℕ → ℕ → List ℕ
assign s v = call 1 v s

abbrev pub remove : ℕ → ℕ → List ℕ
remove s v = call 2 v s

abbrev pub mark : List ℕ
mark = call 3 0 0

abbrev pub back : List ℕ
back = call 4 0 0

abbrev pub show : ℕ → List ℕ
show s = call 5 0 s

abbrev pub upper_walls : ℕ → List ℕ
upper_walls v = call 6 v 0
