-- Filling a list line by line.
--   prefixes n             the prefix length of each place
--   LineFilled n base ..   what filling one line does: in a list of which the places before base hold their prefix lengths, those up to r hold them
-- Assumes nothing.
use Rattle.std.specs.Prelude.{◌≡◌, List, ◌++◌, ℕ, ◌+◌, ◌-◌, ◌%◌, min, length, drop}
use Rattle.book.specs.Layout.{list_of}

abbrev pub prefixes : ℕ → ℕ → ℕ
prefixes n p = p % (n + 1)

pub record LineFilled (n base : ℕ) (s s' : List ℕ) (r : ℕ) : Type 0 where
  pub size : length s' ≡ length s
  pub end : r ≡ base + min (length s - base) (n + 1)
  pub filled : (l : List ℕ) → length s ≡ length l → s ≡ list_of base (prefixes n) ++ drop base l → s' ≡ list_of r (prefixes n) ++ drop r l
