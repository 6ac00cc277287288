-- The laws of `specs/Open.antt`, in its order. No contract cites this file. The ones that matter most: `open_strike` (a value struck, the words
-- as they were), `open_close` (a slot with one value taken out), `close_slot_back` (put back), `closed_settled` (a slot that is not in the set is
-- settled). Assumes nothing.
use mathlib.Core.Path.{◌≡◌, sym, ap, ◌∙◌}
use mathlib.Core.Bool.{Bool, true, false}
use mathlib.Core.Logic.{inl, dite}
use mathlib.Core.List.{List}
use Prim.Native.Nat.{ℕ, ◌+◌, ◌-◌, ◌*◌, ◌/◌, ◌%◌, ◌^◌, ◌≤◌, ◌<◌}
use native.Mathlib.Decide.{ℕ_discrete}
use native.Mathlib.Nat.{lt_of_lt_of_le, lt_of_not-le, mod-lt}
use native.Mathlib.Omega.{arith}
use lib.Count.{ones}
use lib.Pow.{pow_pos, shl-shr, shr-shr, split, low, field, mod-mod-pow}
use lib.ListN.{length, get_or, set, length-set}
use lib.Seq.{get_or-set_same, get_or-set_other, set-get_or, set-set}
use Rattle.domains.specs.Mask.{test_bit, clear_bit}
use Rattle.domains.proofs.MaskLaws.{test_bit_empty, test_bit_high, test_bit_clear_bit_same, test_bit_clear_bit_other, clear_bit_has, ones_subset}
use Rattle.domains.proofs.MasksLaws.{subset_clear_bit}
use Rattle.segments_model.specs.Part.{Lent}
use Rattle.segments_model.proofs.PartLaws.{lent_apart}
use Rattle.filter_model.specs.Mirror.{row, cells_of}
use Rattle.filter_model.specs.Open.{words_at, cells_size, word_at, open_bit, close_slot, open_slot, OpenSlots}
use Rattle.filter_model.proofs.RowLaws.{row_inside}

-- ---- the bits of a word
-- what is left of m below 2 ^ e has the bits below e, and no others
pub test_bit_before : (m e i : ℕ) → i < e → test_bit (m % 2 ^ e) i ≡ test_bit m i
unfolding test_bit
test_bit_before m e i i<e =
    let at : e - i + i ≡ e = omega arith in
    let some : e - i - 1 + 1 ≡ e - i = omega arith in
    let field_at : m % 2 ^ e / 2 ^ i ≡ m / 2 ^ i % 2 ^ (e - i) = rw at at (field m (e - i) i) in
    ap (λ (x : ℕ). x % 2) field_at ∙ rw some at (mod-mod-pow (m / 2 ^ i) (e - i - 1) 1)

pub test_bit_before_high : (m e i : ℕ) → test_bit (m % 2 ^ e) i ≡ 1 → i < e
test_bit_before_high m e i has =
    lt_of_not-le (λ e≤i. absurd (omega (arith, has, test_bit_high e (m % 2 ^ e) i (mod-lt m (pow_pos e)) e≤i)))

-- m without what is below 2 ^ d has the bits from d on, and no others
pub test_bit_from : (m d i : ℕ) → d ≤ i → test_bit (m - m % 2 ^ d) i ≡ test_bit m i
unfolding test_bit
test_bit_from m d i d≤i =
    let at : d + (i - d) ≡ i = omega arith in
    let left : m - m % 2 ^ d ≡ m / 2 ^ d * 2 ^ d = omega (arith, split m d) in
    let halves : (x : ℕ) → x / 2 ^ i ≡ x / 2 ^ d / 2 ^ (i - d) = λ x. ap (λ (j : ℕ). x / 2 ^ j) (sym at) ∙ sym (shr-shr x d (i - d)) in
    ap (λ (x : ℕ). x % 2)
    (halves (m - m % 2 ^ d) ∙ ap (λ (x : ℕ). x / 2 ^ d / 2 ^ (i - d)) left ∙ ap (λ (x : ℕ). x / 2 ^ (i - d)) (shl-shr (m / 2 ^ d) d) ∙ sym (halves m))

pub test_bit_from_low : (m d i : ℕ) → test_bit (m - m % 2 ^ d) i ≡ 1 → d ≤ i
test_bit_from_low m d i has =
    let left : m - m % 2 ^ d ≡ m / 2 ^ d * 2 ^ d + 0 = omega (arith, split m d) in
    let none : (m - m % 2 ^ d) % 2 ^ d ≡ 0 = rw left (low (m / 2 ^ d) d (pow_pos d)) in
    let not_before : i < d → ⊥ =
    λ i<d. omega (arith, has, test_bit_before (m - m % 2 ^ d) d i i<d, ap (λ (x : ℕ). test_bit x i) none, test_bit_empty i) in
    omega (arith, not_before)

-- two words as one have the bits of the one, then those of the other
pub test_bit_words_low : (lo hi i : ℕ) → lo < 65536 → i < 16 → test_bit (lo + 65536 * hi) i ≡ test_bit lo i
test_bit_words_low lo hi i lo<65536 i<16 =
    let low_is : (lo + 65536 * hi) % 65536 ≡ lo = omega arith in
    sym (test_bit_before (lo + 65536 * hi) 16 i i<16) ∙ ap (λ (m : ℕ). test_bit m i) low_is

pub test_bit_words_high : (lo hi i : ℕ) → lo < 65536 → 16 ≤ i → test_bit (lo + 65536 * hi) i ≡ test_bit hi (i - 16)
unfolding test_bit
test_bit_words_high lo hi i lo<65536 16≤i =
    let at : 16 + (i - 16) ≡ i = omega arith in
    let high_is : (lo + 65536 * hi) / 65536 ≡ hi = omega arith in
    ap (λ (j : ℕ). (lo + 65536 * hi) / 2 ^ j % 2) (sym at)
    ∙ ap (λ (x : ℕ). x % 2) (sym (shr-shr (lo + 65536 * hi) 16 (i - 16)))
    ∙ ap (λ (x : ℕ). x / 2 ^ (i - 16) % 2) high_is

-- ---- word_at
pub word_inside : (n k slot : ℕ) (cells : List ℕ) → slot < 256 → cells_size n k ≤ length cells → word_at n k slot < length cells
word_inside n k slot cells slot<256 fits = omega arith

-- ---- open_bit
-- a row that was lent leaves the words
pub open_lent : {P : List ℕ → List ℕ → Type 0} {cells cells' : List ℕ} (n k r : ℕ) → Lent (r * (n + 2)) (n + 2) P cells cells' → r < k + k
    → (s : ℕ) → open_bit n k cells' s ≡ open_bit n k cells s
open_lent n k r lent r<rows s =
    ap (λ (m : ℕ). test_bit m (s % 16)) (lent.after (word_at n k s) (omega (arith, row_inside n (k + k) r r<rows)))

-- ---- close_slot
module _ (n k slot : ℕ) (cells : List ℕ) (inside : word_at n k slot < length cells) where
  abbrev word : ℕ
  word = get_or cells (word_at n k slot) 0

  pub closed_same : open_bit n k (close_slot n k slot cells) slot ≡ 0
  closed_same =
      ap (λ (m : ℕ). test_bit m (slot % 16)) (get_or-set_same cells (word_at n k slot) (clear_bit word (slot % 16)) 0 inside)
      ∙ test_bit_clear_bit_same word (slot % 16)

  pub closed_other : (s : ℕ) → (s ≡ slot → ⊥) → open_bit n k (close_slot n k slot cells) s ≡ open_bit n k cells s
  closed_other s s≢slot =
      dite (ℕ_discrete (word_at n k s) (word_at n k slot))
      (λ same.
      let other : s % 16 ≡ slot % 16 → ⊥ = λ e. s≢slot (omega arith) in
      ap (λ (i : ℕ). test_bit (get_or (close_slot n k slot cells) i 0) (s % 16)) same
      ∙ ap (λ (m : ℕ). test_bit m (s % 16)) (get_or-set_same cells (word_at n k slot) (clear_bit word (slot % 16)) 0 inside)
      ∙ test_bit_clear_bit_other word (slot % 16) (s % 16) other
      ∙ ap (λ (i : ℕ). test_bit (get_or cells i 0) (s % 16)) (sym same))
      (λ apart.
      ap (λ (m : ℕ). test_bit m (s % 16))
      (get_or-set_other cells (word_at n k slot) (word_at n k s) (clear_bit word (slot % 16)) 0 apart))

  -- the bit that was taken out is put back
  pub close_slot_back : open_bit n k cells slot ≡ 1 → open_slot n k slot (close_slot n k slot cells) ≡ cells
  close_slot_back has =
      rw (get_or-set_same cells (word_at n k slot) (clear_bit word (slot % 16)) 0 inside, clear_bit_has word (slot % 16) has, set-set)
      (set-get_or cells (word_at n k slot) 0)

-- the rows lie before the words
row_before : (n k : ℕ) (kind : Bool) (x : ℕ) → x < k → row kind k x * (n + 2) + (n + 2) ≤ words_at n k
row_before n k true x x<k = row_inside n (k + k) x (omega arith)
row_before n k false x x<k = row_inside n (k + k) (k + x) (omega arith)

-- a word that is stored leaves the rows
pub close_slot_row : (n k slot : ℕ) (cells : List ℕ) (kind : Bool) (x : ℕ) → x < k → cells_size n k ≤ length cells
    → cells_of kind n k x (close_slot n k slot cells) ≡ cells_of kind n k x cells
close_slot_row n k slot cells kind x x<k fits =
    let at = word_at n k slot in
    let m = clear_bit (get_or cells (word_at n k slot) 0) (slot % 16) in
    let lent : Lent at 1 (λ a b. Unit {0}) cells (set cells at m) =
    record {
      does = tt;
      size = length-set cells at m;
      before = λ i i<at. get_or-set_other cells at i m 0 (λ e. absurd (omega arith));
      after = λ i at<i. get_or-set_other cells at i m 0 (λ e. absurd (omega arith));
    } in
    lent_apart lent (row kind k x * (n + 2)) (n + 2) (omega (arith, row_before n k kind x x<k)) (inl (omega (arith, row_before n k kind x x<k)))

-- ---- OpenSlots
-- a value struck, the words as they were
pub open_strike : {n k : ℕ} {M cells cells' : List ℕ} (slot v : ℕ) → slot < length M → ((s : ℕ) → open_bit n k cells' s ≡ open_bit n k cells s)
    → OpenSlots n k M cells → OpenSlots n k (set M slot (clear_bit (get_or M slot 0) v)) cells'
open_strike {M = M} slot v inside same opens =
    let less = subset_clear_bit M slot v inside in
    record {
      each = λ s s<n many.
          same s
          ∙ opens.each s s<n
          (lt_of_lt_of_le many (ones_subset (get_or (set M slot (clear_bit (get_or M slot 0) v)) s 0) (get_or M s 0) (λ w. less.bits s w)));
    }

-- a slot with one value taken out
pub open_close : {n k : ℕ} {M cells : List ℕ} (slot : ℕ) → word_at n k slot < length cells → ones (get_or M slot 0) ≤ 1 → OpenSlots n k M cells
    → OpenSlots n k M (close_slot n k slot cells)
open_close {n} {k} {M} {cells} slot inside few opens =
    record {
      each = λ s s<n many.
          closed_other n k slot cells inside s (λ here. omega (arith, ap (λ (i : ℕ). ones (get_or M i 0)) here)) ∙ opens.each s s<n many;
    }

-- two rows lent, and a slot that is left one value taken out
pub open_single : {P Q : List ℕ → List ℕ → Type 0} {n k : ℕ} {M cells cells₁ cells₂ : List ℕ} (slot v r q : ℕ) → slot < length M → slot < 256
    → cells_size n k ≤ length cells → Lent (r * (n + 2)) (n + 2) P cells cells₁ → r < k + k → Lent (q * (n + 2)) (n + 2) Q cells₁ cells₂ → q < k + k
    → ones (clear_bit (get_or M slot 0) v) ≤ 1 → OpenSlots n k M cells → OpenSlots n k (set M slot (clear_bit (get_or M slot 0) v)) (close_slot n k slot cells₂)
open_single {n = n} {k} {M} {cells₂ = cells₂} slot v r q inside slot<256 fits lent₁ r<rows lent₂ q<rows few opens =
    open_close {cells = cells₂} slot (word_inside n k slot cells₂ slot<256 (omega (arith, lent₁.size, lent₂.size)))
    (rw (get_or-set_same M slot (clear_bit (get_or M slot 0) v) 0 inside) few)
    (open_strike slot v inside (λ s. open_lent n k q lent₂ q<rows s ∙ open_lent n k r lent₁ r<rows s) opens)
