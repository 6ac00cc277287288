-- What `settle` answers and writes (document 01, 'Settling' and 'Entries and their numbers'), from the bytes of a book and from how many
-- masks its output has room for. Outcomes, and what they answer and write, are those of closing's `specs/Close.antt`; settle has one output,
-- so the second list of an outcome is empty.
--   settle_fault    the number that refuses: the book's own, then 9 where the output is too short; 0 where none does
--   settled_of      live with the settled masks, or dead with so many masks filled
--   settle_good     the outcome for a good book, with room: what the model `settled_book` says of it
--   settle_of       the outcome: refused by settle_fault, else settle_good
--   masks_of        what stands in the front of the output: nothing if refused, zeros if dead, the settled masks if live
--   Settles        the answer and the output are those of an outcome
-- Assumes nothing.
use Rattle.std.specs.Prelude.{◌≡◌, List, [], ℕ, ltb}
use Rattle.std.proofs.Math.Option.{Option, none, some}
use Rattle.book.specs.declared.Limits.{Limits}
use Rattle.book.specs.Layout.{slots}
use Rattle.book.specs.Refusal.{fault, ◌or_else◌, refusal}
use Rattle.closing.specs.Close.{Outcome, dead, live, unless, answer_of, written, overlay}
use Rattle.settling_model.specs.Book.{settled_book}

unfoldable pub settle_fault : Limits → List ℕ → ℕ → ℕ
settle_fault limits b room = refusal limits b or_else fault 9 (ltb room (slots b))

abbrev pub settled_of : ℕ → Option (List ℕ) → Outcome
settled_of n none = dead n
settled_of n (some M) = live M []

unfoldable pub settle_good : List ℕ → Outcome
settle_good b = settled_of (slots b) (settled_book b)

unfoldable pub settle_of : Limits → List ℕ → ℕ → Outcome
settle_of limits b room = unless (settle_fault limits b room) (settle_good b)

abbrev pub masks_of : Outcome → List ℕ
masks_of = written (λ M second. M)

-- M is the output as it was lent, M' as it comes back; stored says how elements stand in it
pub record Settles (stored : List ℕ → List ℕ) (o : Outcome) (answer : ℕ) (M M' : List ℕ) : Type 0 where
  pub answers : answer ≡ answer_of o
  pub masks : M' ≡ overlay (stored (masks_of o)) M
