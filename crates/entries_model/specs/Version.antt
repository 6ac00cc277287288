-- The version of this part.
--   version_of major minor patch   a version in one number
--   version                       that of this part
-- Assumes nothing.
use Rattle.std.specs.Prelude.{ℕ, ◌+◌, ◌*◌}

abbrev pub version_of : ℕ → ℕ → ℕ → ℕ
version_of major minor patch = 65536 * major + 256 * minor + patch

abbrev pub version : ℕ
version = version_of 1 6 0
