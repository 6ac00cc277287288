-- What the searches along the cells find, said of their gaps (`gaps` of specs/Links.antt). A right end is a cell above 0 from 1 on.
--   Gap cells a b          the cells from a to b - 1 are 0
--   Next n slot cells t    t is the first right end after the slot, or n + 1
--   Previous slot cells p  p is the last right end up to the slot, or 0
--   Latest z slot cells p  p is the last right end after z up to the slot, or z
-- Assumes nothing.
use Rattle.std.specs.Prelude.{◌≡◌, List, ℕ, ◌+◌, ◌≤◌, ◌<◌, get_or}

abbrev pub Gap : List ℕ → ℕ → ℕ → Type 0
Gap cells a b = (i : ℕ) → a ≤ i → i < b → get_or cells i 0 ≡ 0

pub record Next (n slot : ℕ) (cells : List ℕ) (t : ℕ) : Type 0 where
  pub after : slot < t
  pub inside : t ≤ n + 1
  pub stands : t ≤ n → 0 < get_or cells t 0
  pub gap : Gap cells (slot + 1) t

pub record Previous (slot : ℕ) (cells : List ℕ) (p : ℕ) : Type 0 where
  pub before : p ≤ slot
  pub stands : 0 < p → 0 < get_or cells p 0
  pub gap : Gap cells (p + 1) (slot + 1)

pub record Latest (z slot : ℕ) (cells : List ℕ) (p : ℕ) : Type 0 where
  pub from : z ≤ p
  pub before : p ≤ slot
  pub stands : z < p → 0 < get_or cells p 0
  pub gap : Gap cells (p + 1) (slot + 1)
