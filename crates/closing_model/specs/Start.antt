-- The starting table of a list of rows (document 01, 'Closing'), value by value: entry (v, t) stands at place v * (n + 1) + t.
--   speaks r v t          row r is one of value v and end t
--   low_of rs v t          the greatest lower of the rows of value v and end t, 0 where there is none
--   high_of rs v t         the least of t and the uppers of those rows
--   start_lowers n k rs    all starting lowers, for k values and the prefixes 0 to n
--   start_uppers n k rs    all starting uppers
--   entries b             k(n+1), how many lowers and how many uppers the table of book b has
-- Assumes nothing.
use Rattle.std.specs.Prelude.{Bool, cond, ◌&&◌, List, [], ◌∷◌, ℕ, ◌+◌, ◌*◌, ◌/◌, ◌%◌, min, max, eqb}
use Rattle.book.specs.declared.Row.{Row}
use Rattle.book.specs.Layout.{list_of, slots, values}
use Rattle.closing_model.specs.Table.{size}

abbrev pub speaks : Row → ℕ → ℕ → Bool
speaks r v t = eqb r.value v && eqb r.end t

unfoldable pub low_of : List Row → ℕ → ℕ → ℕ
low_of [] v t = 0
low_of (r ∷ rs) v t = cond (speaks r v t) (max r.lower (low_of rs v t)) (low_of rs v t)

unfoldable pub high_of : List Row → ℕ → ℕ → ℕ
high_of [] v t = t
high_of (r ∷ rs) v t = cond (speaks r v t) (min r.upper (high_of rs v t)) (high_of rs v t)

unfoldable pub start_lowers : ℕ → ℕ → List Row → List ℕ
start_lowers n k rs = list_of (k * (n + 1)) (λ p. low_of rs (p / (n + 1)) (p % (n + 1)))

unfoldable pub start_uppers : ℕ → ℕ → List Row → List ℕ
start_uppers n k rs = list_of (k * (n + 1)) (λ p. high_of rs (p / (n + 1)) (p % (n + 1)))

abbrev pub entries : List ℕ → ℕ
entries b = size (slots b) (values b)
