-- The ones that are news: the idle value is left out of the count (document 02, request two). `idle` is a book's byte 3: 0 for no idle value, else that
-- value plus 1.
--   news idle m        how many values the mask m has besides the idle one
--   news_total idle M   how many all masks have together
-- Assumes nothing.
use Rattle.std.specs.Prelude.{List, [], ◌∷◌, ℕ, zero, suc, ◌+◌}
use Rattle.std.specs.Int.Count.{ones}
use Rattle.domains.specs.Mask.{clear_bit}

unfoldable pub news : ℕ → ℕ → ℕ
news zero m = ones m
news (suc v) m = ones (clear_bit m v)

unfoldable pub news_total : ℕ → List ℕ → ℕ
news_total idle [] = 0
news_total idle (m ∷ ms) = news idle m + news_total idle ms
