-- The set of open slots, those that have two values or more: 16 words of 16 bits after the rows of cells. Bit i of word j is slot 16 * j + i.
--   words_at n k, cells_size n k   where the words are, and how many cells there are with them
--   word_at, open_bit              the place of a slot's word, and the slot's bit in it
--   close_slot, open_slot          the cells with the slot's bit taken out, and with it put in
--   OpenSlots n k M cells        each slot that has two values or more in M is in the set
--   BlockAsked, OpenBlock        a block b, the 32 slots from 32 * b on, that may be asked for, from a start on and before an end; r is a mask of
--                                it, bit i for slot 32 * b + i: the slots of the set from the start on before the end, and no others
-- Assumes nothing.
use Rattle.std.specs.Prelude.{◌≡◌, List, ℕ, ◌+◌, ◌-◌, ◌*◌, ◌/◌, ◌%◌, ◌^◌, ◌≤◌, ◌<◌, length, get_or, set}
use Rattle.std.specs.Int.Count.{ones}
use Rattle.domains.specs.Mask.{test_bit, Has, clear_bit}

abbrev pub words_at : ℕ → ℕ → ℕ
words_at n k = (k + k) * (n + 2)

abbrev pub cells_size : ℕ → ℕ → ℕ
cells_size n k = words_at n k + 16

abbrev pub word_at : ℕ → ℕ → ℕ → ℕ
word_at n k slot = words_at n k + slot / 16

abbrev pub open_bit : ℕ → ℕ → List ℕ → ℕ → ℕ
open_bit n k cells slot = test_bit (get_or cells (word_at n k slot) 0) (slot % 16)

abbrev pub close_slot : ℕ → ℕ → ℕ → List ℕ → List ℕ
close_slot n k slot cells = set cells (word_at n k slot) (clear_bit (get_or cells (word_at n k slot) 0) (slot % 16))

abbrev pub open_slot : ℕ → ℕ → ℕ → List ℕ → List ℕ
open_slot n k slot cells = set cells (word_at n k slot) (get_or cells (word_at n k slot) 0 + 2 ^ (slot % 16))

pub record OpenSlots (n k : ℕ) (M cells : List ℕ) : Type 0 where
  pub each : (s : ℕ) → s < n → 1 < ones (get_or M s 0) → open_bit n k cells s ≡ 1

pub record BlockAsked (cells : List ℕ) (n k b start end : ℕ) : Type 0 where
  pub rows : cells_size n k ≤ length cells
  pub slots_fit : n ≤ 256
  pub values_fit : k ≤ 32
  pub end_in : end ≤ n
  pub start_in : start < 32 * b + 32

pub record OpenBlock (n k : ℕ) (cells : List ℕ) (b start end r : ℕ) : Type 0 where
  pub word : r < 4294967296
  pub from : (i : ℕ) → Has r i → start ≤ 32 * b + i
  pub before : (i : ℕ) → Has r i → 32 * b + i < end
  pub only : (i : ℕ) → Has r i → open_bit n k cells (32 * b + i) ≡ 1
  pub each : (s : ℕ) → start ≤ s → s < end → s / 32 ≡ b → open_bit n k cells s ≡ 1 → Has r (s - 32 * b)
