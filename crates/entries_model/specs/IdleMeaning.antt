-- What the entries answer and write of two books that differ in the idle byte alone, of which each names one of its types as idle, or none: the same, but for
-- the struck figures (document 02, request two: "masks and walls are not concerned").
--   SameTold calls A' A''    the words of each call, as a host reads them in the answers A' and A'', are the same, but for the second word of an answer live
--   SameEntries b c         check, close, settle and probe answer and write of c what they do of b; two sessions with the same calls on outputs lent alike
--                           have the same answer and the same last masks, and tell the same
-- `same_entries` proves it of all such books. Assumes nothing.
use Rattle.std.specs.Prelude.{◌≡◌, List, ℕ, ◌+◌, ◌*◌, ◌/◌, ◌<◌, length}
use Rattle.book.specs.Layout.{word32}
use Rattle.entries_model.specs.Entries.{check_answer, CloseEntry, SettleEntry, SessionEntry, ProbeEntry}

pub record SameTold (calls A' A'' : List ℕ) : Type 0 where
  pub first : (i : ℕ) → i < length calls / 4 → word32 A'' (4 * (2 * i)) ≡ word32 A' (4 * (2 * i))
  pub second : (i : ℕ) → i < length calls / 4 → (word32 A' (4 * (2 * i)) ≡ 0 → ⊥) → word32 A'' (4 * (2 * i + 1)) ≡ word32 A' (4 * (2 * i + 1))

pub record SameEntries (b c : List ℕ) : Type 0 where
  pub check : check_answer c ≡ check_answer b
  pub close : (L U : List ℕ) (r : ℕ) (L' U' : List ℕ) → CloseEntry b L U r L' U' → CloseEntry c L U r L' U'
  pub settle : (M : List ℕ) (r : ℕ) (M' : List ℕ) → SettleEntry b M r M' → SettleEntry c M r M'
  pub probe : (calls D : List ℕ) (r : ℕ) (D' : List ℕ) → ProbeEntry b calls D r D' → ProbeEntry c calls D r D'
  pub session : (calls A M : List ℕ) (r : ℕ) (A' M' : List ℕ) (r'' : ℕ) (A'' M'' : List ℕ) → SessionEntry b calls A M r A' M' → SessionEntry c calls A M r'' A'' M''
      → (r'' ≡ r) × (M'' ≡ M') × SameTold calls A' A''
