-- What the functions below the entry rest on, and what they promise.
--   Capacity limits     the working arrays have room for every book within the limits: 256 slots, 32 values
--   FitBook b           a good book for which they have room
--   Ready b M           such a book, and a mask for each of its slots
--   Wrote o r M         the answer r and the masks M are those of the outcome o
--   settled_by r M       the model's answer that r and the masks M stand for: the settled masks, or none (document 01: dead)
-- Assumes nothing.
use Rattle.std.specs.Prelude.{◌≡◌, Bool, true, false, List, ℕ, ◌+◌, ◌*◌, ◌≤◌, ◌<◌, length, Ok}
use Rattle.std.proofs.Math.Option.{Option, none, some}
use Rattle.answer.specs.declared.Verdict.{Verdict}
use Rattle.answer.specs.Answer.{word_of}
use Rattle.book.specs.declared.Limits.{Limits}
use Rattle.book.specs.Layout.{slots, values, idle, row_count, mask_at, rows_part, row_at}
use Rattle.book.specs.GoodFacts.{MaskFacts, RowFacts}
use Rattle.closing.specs.Close.{Outcome, answer_of}
use Rattle.settle_fault.specs.Settle.{masks_of}

pub record Capacity (limits : Limits) : Type 0 where
  pub slots : limits.slots ≤ 256
  pub values : limits.values ≤ 32

pub record FitBook (b : List ℕ) : Type 0 where
  pub inside : 12 + 4 * slots b + 8 * row_count b ≤ length b
  pub slots_most : slots b ≤ 256
  pub values_most : values b ≤ 32
  pub idle_known : idle b ≤ values b
  pub mask : (s : ℕ) → s < slots b → MaskFacts (values b) (mask_at b s)
  pub row : (i : ℕ) → i < row_count b → RowFacts (slots b) (values b) (row_at (rows_part b) i)

pub record Ready (b M : List ℕ) : Type 0 where
  pub book : FitBook b
  pub masks : length M ≡ slots b

pub record Wrote (o : Outcome) (r : Verdict) (M : List ℕ) : Type 0 where
  pub answer : word_of (Ok r) ≡ answer_of o
  pub masks : M ≡ masks_of o

abbrev pub settled_by : Bool → List ℕ → Option (List ℕ)
settled_by true M = some M
settled_by false M = none
