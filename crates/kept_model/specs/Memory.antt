-- The memory that a host lends for a kept session: five slices.
--   Memory             masks, cells, trail, heights, numbers; memory: from the five
--   Sized at           each slice has its size; sized: the test, and sizes by the five lengths
--   standing_number, dead_call   a standing in numbers: 0 live, 1 dead since a call, 2 opened dead; the number of that call, else 0
--   standing_by_number         the standing that two such numbers stand for
--   numbers_of n k made session   a session after so many calls in numbers: slots, types, calls made, standing, its call, open marks, and the trail's height
--                      with 65536 times the idle byte
--   session_in numbers  the session that they stand for
-- Assumes nothing.
use Rattle.std.specs.Prelude.{◌≡◌, Bool, cond, ◌&&◌, List, [], ◌∷◌, ℕ, ◌+◌, ◌*◌, ◌/◌, ◌%◌, eqb, length, get_or}
use Rattle.acts.specs.declared.Session.{Session}
use Rattle.acts.specs.declared.Standing.{Standing}
use Rattle.acts.specs.declared.Standing.TheVariants.{OpenedDead, Live, Dead}

pub record Memory : Type 0 where
  pub masks : List ℕ
  pub cells : List ℕ
  pub trail : List ℕ
  pub heights : List ℕ
  pub numbers : List ℕ

abbrev pub memory : List ℕ → List ℕ → List ℕ → List ℕ → List ℕ → Memory
memory masks cells trail heights numbers = record { masks = masks; cells = cells; trail = trail; heights = heights; numbers = numbers }

pub record Sized (at : Memory) : Type 0 where
  pub masks : length at.masks ≡ 256
  pub cells : length at.cells ≡ 16528
  pub trail : length at.trail ≡ 25088
  pub heights : length at.heights ≡ 256
  pub numbers : length at.numbers ≡ 7

unfoldable pub sizes : ℕ → ℕ → ℕ → ℕ → ℕ → Bool
sizes masks cells trail heights numbers =
    eqb masks 256 && (eqb cells 16528 && (eqb trail 25088 && (eqb heights 256 && eqb numbers 7)))

abbrev pub sized : Memory → Bool
sized at = sizes (length at.masks) (length at.cells) (length at.trail) (length at.heights) (length at.numbers)

-- ---- the numbers
abbrev pub standing_number : Standing → ℕ
standing_number Live = 0
standing_number (Dead call) = 1
standing_number OpenedDead = 2

abbrev pub dead_call : Standing → ℕ
dead_call Live = 0
dead_call (Dead call) = call
dead_call OpenedDead = 0

unfoldable pub standing_by_number : ℕ → ℕ → Standing
standing_by_number number call = cond (eqb number 0) Live (cond (eqb number 1) (Dead call) OpenedDead)

abbrev pub numbers_of : ℕ → ℕ → ℕ → Session → List ℕ
numbers_of n k made session =
    n ∷ k ∷ made ∷ standing_number session.standing ∷ dead_call session.standing ∷ session.marks ∷ (session.idle * 65536 + session.top) ∷ []

abbrev pub session_in : List ℕ → Session
session_in numbers =
    record {
      standing = standing_by_number (get_or numbers 3 0) (get_or numbers 4 0);
      top = get_or numbers 6 0 % 65536;
      marks = get_or numbers 5 0;
      idle = get_or numbers 6 0 / 65536 % 256;
    }
