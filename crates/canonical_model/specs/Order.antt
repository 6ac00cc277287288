-- The order of the canonical rows (document 02, request six): "by type then end".
--   Before r q    row r stands before row q: by type, then end
--   Ordered rs    each row of rs stands before each later one; so no two are of the same type and end
-- `canonical_ordered`: the canonical rows are in this order. Assumes nothing.
use Rattle.std.specs.Prelude.{◌≡◌, ◌⊎◌, List, [], ◌∷◌, ◌<◌}
use Rattle.book.specs.declared.Row.{Row}
use Rattle.book.specs.Lists.{All}

abbrev pub Before : Row → Row → Type 0
Before r q = (r.value < q.value) ⊎ ((r.value ≡ q.value) × (r.end < q.end))

abbrev pub Ordered : List Row → Type 0
Ordered [] = Unit {0}
Ordered (r ∷ rs) = All (Before r) rs × Ordered rs
