-- The laws of `archive_of` and `canonical_of` of `specs/Canonical.antt`: the equations of the outcome, case by case, in the order of the answers. The book's
-- own number (`canonical_refused`); of a good book, dead (`canonical_dead`) before 19 (`canonical_many`), whatever the room, before 9 (`canonical_short`);
-- else live (`canonical_live`). No contract cites this file. Assumes nothing.
use mathlib.Core.Path.{◌≡◌, refl, ap, ap₂, ◌∙◌}
use mathlib.Core.Bool.{Bool}
use mathlib.Core.List.{List, []}
use mathlib.Core.Option.{Option, some, none}
use Prim.Native.Nat.{ℕ, suc, ◌≤◌, ◌<◌}
use lib.Dec.{ltb}
use lib.ListN.{length}
use borrow.Author.Tests.{le-ltb, lt-ltb}
use Rattle.book.specs.declared.Limits.{Limits}
use Rattle.book.specs.Refusal.{fault, ◌or_else◌, refusal, GoodBook}
use Rattle.closing_model.specs.Table.{view}
use Rattle.closing.specs.Close.{refused, dead, live, unless}
use Rattle.settling_model.specs.Book.{closed_book}
use Rattle.canonical_model.specs.Canonical.{book_rows, canonical_book, archive_fault, archive_of, canonical_of}

-- ---- archive_of
module _ (limits : Limits) (b : List ℕ) (room : ℕ) where
  pub archive_dead : archive_of limits b room none ≡ dead 0
  unfolding archive_of
  archive_dead = refl

  module _ (L U : List ℕ) where
    abbrev rows : ℕ
    rows = length (book_rows b (view L U))

    abbrev bytes : List ℕ
    bytes = canonical_book b (view L U)

    -- 19, then 9, of the two tests
    numbers : (many short : Bool) → ltb limits.rows rows ≡ many → ltb room (length bytes) ≡ short
        → archive_fault limits b room (view L U) ≡ (fault 19 many or_else fault 9 short)
    unfolding archive_fault
    numbers many short many_is short_is = ap₂ (λ (x y : Bool). fault 19 x or_else fault 9 y) many_is short_is

    archive_by : (x : ℕ) → archive_fault limits b room (view L U) ≡ x → archive_of limits b room (some (L, U)) ≡ unless x (live bytes [])
    unfolding archive_of
    archive_by x is = ap (λ (y : ℕ). unless y (live bytes [])) is

    -- 19 whatever the room
    pub archive_many : limits.rows < rows → archive_of limits b room (some (L, U)) ≡ refused 19
    archive_many many = archive_by 19 (numbers _ _ (lt-ltb limits.rows rows many) refl)

    module _ (few : rows ≤ limits.rows) where
      pub archive_short : room < length bytes → archive_of limits b room (some (L, U)) ≡ refused 9
      archive_short short = archive_by 9 (numbers _ _ (le-ltb limits.rows rows few) (lt-ltb room (length bytes) short))

      pub archive_live : length bytes ≤ room → archive_of limits b room (some (L, U)) ≡ live bytes []
      archive_live fits = archive_by 0 (numbers _ _ (le-ltb limits.rows rows few) (le-ltb room (length bytes) fits))

-- ---- canonical_of
module _ (limits : Limits) (b : List ℕ) (room : ℕ) where
  pub canonical_refused : (x : ℕ) → refusal limits b ≡ suc x → canonical_of limits b room ≡ refused (suc x)
  unfolding canonical_of
  canonical_refused x is = ap (λ (y : ℕ). unless y (archive_of limits b room (closed_book b))) is

  module _ (good : GoodBook limits b) where
    pub canonical_good_of : (found : Option (List ℕ × List ℕ)) → closed_book b ≡ found → canonical_of limits b room ≡ archive_of limits b room found
    unfolding canonical_of
    canonical_good_of found is = ap (λ (y : ℕ). unless y (archive_of limits b room (closed_book b))) good ∙ ap (archive_of limits b room) is

    pub canonical_dead : closed_book b ≡ none → canonical_of limits b room ≡ dead 0
    canonical_dead is = canonical_good_of none is ∙ archive_dead limits b room

    module _ (L U : List ℕ) (closes : closed_book b ≡ some (L, U)) where
      pub canonical_many : limits.rows < length (book_rows b (view L U)) → canonical_of limits b room ≡ refused 19
      canonical_many many = canonical_good_of (some (L, U)) closes ∙ archive_many limits b room L U many

      module _ (few : length (book_rows b (view L U)) ≤ limits.rows) where
        pub canonical_short : room < length (canonical_book b (view L U)) → canonical_of limits b room ≡ refused 9
        canonical_short short = canonical_good_of (some (L, U)) closes ∙ archive_short limits b room L U few short

        pub canonical_live : length (canonical_book b (view L U)) ≤ room → canonical_of limits b room ≡ live (canonical_book b (view L U)) []
        canonical_live fits = canonical_good_of (some (L, U)) closes ∙ archive_live limits b room L U few fits
