-- The laws of `OpenBlock` of filter_model's `specs/Open.antt`: an end before the block (`block_none`), and its two words as one (`words_bit`), which
-- have no bit (`block_closed`, `block_empty`), or are cut before the start (`from_bits`) and from the end on (`word_bits`, `before_bits`), which is
-- `block_bits`. No contract cites this file. Assumes nothing.
use mathlib.Core.Path.{◌≡◌, refl, sym, ap, ◌∙◌}
use mathlib.Core.Logic.{dite}
use mathlib.Core.List.{List}
use Prim.Native.Nat.{ℕ, ◌+◌, ◌-◌, ◌*◌, ◌/◌, ◌%◌, ◌^◌, ◌≤◌, ◌<◌}
use native.Mathlib.Decide.{ℕ_discrete}
use native.Mathlib.Nat.{lt_of_not-le, mod-le}
use native.Mathlib.Omega.{arith}
use lib.ListN.{get_or}
use Rattle.domains.specs.Mask.{test_bit, Has}
use Rattle.domains.proofs.MaskLaws.{test_bit_empty, test_bit_high}
use Rattle.filter_model.specs.Open.{words_at, word_at, open_bit, OpenBlock}
use Rattle.filter_model.proofs.OpenLaws.{test_bit_before, test_bit_before_high, test_bit_from, test_bit_from_low, test_bit_words_low, test_bit_words_high}

-- ---- the bits of a word, where bit 0 stands for `base`
abbrev pub From : ℕ → ℕ → ℕ → ℕ → Type 0
From x base start r = ((i : ℕ) → Has r i → start ≤ base + i) × ((i : ℕ) → start ≤ base + i → test_bit r i ≡ test_bit x i)

abbrev pub Before : ℕ → ℕ → ℕ → ℕ → Type 0
Before x base end r = (r < 4294967296) × ((i : ℕ) → Has r i → base + i < end) × ((i : ℕ) → base + i < end → test_bit r i ≡ test_bit x i)

pub from_bits : (x base start y : ℕ) → base < start → y ≡ 2 ^ (start - base) → From x base start (x - x % y)
from_bits x base start y base<start y_is =
    rw y_is (
      λ i has. omega (arith, test_bit_from_low x (start - base) i has),
      λ i start≤. test_bit_from x (start - base) i (omega arith),
    )

pub word_bits : (x base end : ℕ) → x < 4294967296 → base + 32 ≤ end → Before x base end x
word_bits x base end x_Fits long =
    (x_Fits, λ i has. lt_of_not-le (λ past. absurd (omega (arith, has, test_bit_high 32 x i x_Fits (omega arith)))), λ i before. refl)

pub before_bits : (x base end y : ℕ) → x < 4294967296 → y ≡ 2 ^ (end - base) → Before x base end (x % y)
before_bits x base end y x_Fits y_is =
    rw y_is (
      omega (arith, mod-le x (2 ^ (end - base))),
      λ i has. omega (arith, test_bit_before_high x (end - base) i has),
      λ i before. test_bit_before x (end - base) i (omega arith),
    )

-- ---- OpenBlock
module _ (n k : ℕ) (cells : List ℕ) (b start end : ℕ) where
  pub block_none : (end + 31) / 32 ≤ b → OpenBlock n k cells b start end 0
  block_none past =
      record {
        word = omega arith;
        from = λ i has. absurd (omega (arith, has, test_bit_empty i));
        before = λ i has. absurd (omega (arith, has, test_bit_empty i));
        only = λ i has. absurd (omega (arith, has, test_bit_empty i));
        each = λ s start≤s s<end here. absurd (omega arith);
      }

  abbrev low : ℕ
  low = get_or cells (words_at n k + 2 * b) 0

  abbrev high : ℕ
  high = get_or cells (words_at n k + 2 * b + 1) 0

  -- a slot's bit is the one of the two words as one
  words_bit : (s : ℕ) → low < 65536 → s / 32 ≡ b → open_bit n k cells s ≡ test_bit (low + 65536 * high) (s - 32 * b)
  words_bit s low<65536 here =
      dite (ℕ_discrete (s / 16) (2 * b))
      (λ first.
      let bit : s % 16 ≡ s - 32 * b = omega arith in
      rw (first, bit) (sym (test_bit_words_low low high (s - 32 * b) low<65536 (omega arith))))
      (λ other.
      let second : word_at n k s ≡ words_at n k + 2 * b + 1 = omega arith in
      let bit : s % 16 ≡ s - 32 * b - 16 = omega arith in
      rw (second, bit) (sym (test_bit_words_high low high (s - 32 * b) low<65536 (omega arith))))

  pub block_closed : {x : ℕ} → (x ≡ low + 65536 * high) × (low < 65536) → x ≡ 0 → (s : ℕ) → s / 32 ≡ b → open_bit n k cells s ≡ 0
  block_closed word empty s here =
      words_bit s word.1 here ∙ ap (λ (m : ℕ). test_bit m (s - 32 * b)) (sym word.0 ∙ empty) ∙ test_bit_empty (s - 32 * b)

  pub block_empty : {x : ℕ} → (x ≡ low + 65536 * high) × (low < 65536) → x ≡ 0 → OpenBlock n k cells b start end 0
  block_empty {x} word empty =
      let none : low + 65536 * high ≡ 0 = sym word.0 ∙ empty in
      record {
        word = omega arith;
        from = λ i has. absurd (omega (arith, has, test_bit_empty i));
        before = λ i has. absurd (omega (arith, has, test_bit_empty i));
        only = λ i has. absurd (omega (arith, has, test_bit_empty i));
        each = λ s start≤s s<end here in_set.
            absurd (omega (arith, in_set, words_bit s word.1 here ∙ ap (λ (m : ℕ). test_bit m (s - 32 * b)) none, test_bit_empty (s - 32 * b)));
      }

  pub block_bits : {x r : ℕ} (y : ℕ) → (x ≡ low + 65536 * high) × (low < 65536) → From x (32 * b) start y → Before y (32 * b) end r
      → OpenBlock n k cells b start end r
  block_bits {x} {r} y word from before =
      let kept : (i : ℕ) → Has r i → Has y i = λ i has. sym (before.2 i (before.1 i has)) ∙ has in
      let started : (i : ℕ) → Has r i → start ≤ 32 * b + i = λ i has. from.0 i (kept i has) in
      record {
        word = before.0;
        from = started;
        before = before.1;
        only = λ i has.
            let i<32 : i < 32 = lt_of_not-le (λ past. absurd (omega (arith, has, test_bit_high 32 r i before.0 past))) in
            let at : 32 * b + i - 32 * b ≡ i = omega arith in
            words_bit (32 * b + i) word.1 (omega arith)
            ∙ rw (at, sym word.0) (sym (from.1 i (started i has)) ∙ kept i has);
        each = λ s start≤s s<end here in_set.
            before.2 (s - 32 * b) (omega arith)
            ∙ from.1 (s - 32 * b) (omega arith)
            ∙ ap (λ (m : ℕ). test_bit m (s - 32 * b)) word.0
            ∙ sym (words_bit s word.1 here)
            ∙ in_set;
      }
