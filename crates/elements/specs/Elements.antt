-- Elements of 16 and of 32 bits as little-endian bytes (document 01, 'Entries and their numbers': elements stand little-endian, and a
-- trailing part of an element neither counts towards the length nor is written).
--   digits w x      the w lowest bytes of x, the lowest first
--   bytes_of w xs    the elements of xs, w bytes each
--   whole w len     how many elements of w bytes stand in len bytes
-- Assumes nothing.
use Rattle.std.specs.Prelude.{List, [], ◌∷◌, ◌++◌, ℕ, zero, suc, ◌/◌, ◌%◌}

abbrev pub digits : ℕ → ℕ → List ℕ
digits zero x = []
digits (suc w) x = x % 256 ∷ digits w (x / 256)

unfoldable pub bytes_of : ℕ → List ℕ → List ℕ
bytes_of w [] = []
bytes_of w (x ∷ xs) = digits w x ++ bytes_of w xs

abbrev pub whole : ℕ → ℕ → ℕ
whole w len = len / w
