-- What the entries write fits the width of its elements: bounds are at most 256 (`close_fits`), masks and words below 4294967296, which is 2 to the 32
-- (`settle_fits`, `session_words_fit`, `session_masks_fit`). So a host that reads the bytes of an element gets the element (`read16_written`,
-- `read32_written`). No contract cites this file. Assumes nothing.
use mathlib.Core.Path.{◌≡◌, ap}
use mathlib.Core.Logic.{dite}
use mathlib.Core.List.{List, [], ◌∷◌}
use Prim.Native.Nat.{ℕ, zero, suc, ◌+◌, ◌*◌, ◌^◌, ◌≤◌, ◌<◌}
use native.Mathlib.Decide.{dec_lt}
use native.Mathlib.Nat.{lt_of_lt_of_le, add-zero}
use native.Mathlib.Omega.{arith}
use lib.ListN.{length, get_or, drop, get_or-eq_default}
use lib.Pow.{pow_mono, pow_pos}
use Rattle.domains.proofs.MaskLaws.{mask_subset_below}
use Rattle.book.specs.GoodFacts.{GoodFacts}
use Rattle.book.specs.Layout.{word16, word32, slots, values, masks}
use Rattle.book.specs.Refusal.{refusal}
use Rattle.book.proofs.BookLaws.{good_facts}
use Rattle.book.proofs.LayoutLaws.{length_masks, get_d_masks}
use Rattle.book.proofs.RefusalLaws.{none_of_or_else}
use Rattle.elements.specs.Elements.{digits, bytes_of}
use Rattle.elements.proofs.ElementsLaws.{bytes_of_byte}
use Rattle.closing_model.specs.Start.{entries}
use Rattle.closing_model.specs.Table.{view, Loosest}
use Rattle.closing_model.proofs.PlaceLaws.{value_below, prefix_upto, place_of}
use Rattle.closing.specs.Close.{close_fault, overlay}
use Rattle.settling_model.specs.Book.{book_start, SettlesTo}
use Rattle.book.specs.Lists.{All}
use Rattle.settle_fault.specs.Settle.{settle_fault}
use Rattle.session_model.specs.BookRun.{rules_of}
use Rattle.session_model.specs.Calls.{calls_of}
use Rattle.session_model.proofs.FitsLaws.{Fitting, book_fitting, words_fit, masks_fit}
use Rattle.session_fault.specs.Entry.{most_marks}
use Rattle.session_fault.proofs.EntryLaws.{session_fault_good}
use Rattle.entries_model.specs.Entries.{full_limits}
use Rattle.entries_model.specs.Meaning.{close_number, settle_number, session_number, session_words, session_masks}

all_at : (C : ℕ → Type 0) (xs : List ℕ) → All C xs → (i : ℕ) → i < length xs → C (get_or xs i 0)
all_at C [] all i inside = absurd (omega arith)
all_at C (x ∷ xs) all zero inside = all.0
all_at C (x ∷ xs) all (suc i) inside = all_at C xs all.1 i (omega arith)

-- ---- a good book
close_good_lem : (b L U : List ℕ) → close_number b L U ≡ 0 → GoodFacts full_limits b
unfolding close_fault
close_good_lem b L U unrefused = good_facts full_limits b (none_of_or_else (refusal full_limits b) _ unrefused).0

settle_good_lem : (b M : List ℕ) → settle_number b M ≡ 0 → GoodFacts full_limits b
unfolding settle_fault
settle_good_lem b M unrefused = good_facts full_limits b (none_of_or_else (refusal full_limits b) _ unrefused).0

-- its masks have 32 bits
masks_below : (b : List ℕ) → GoodFacts full_limits b → (s : ℕ) → get_or (masks b) s 0 < 2 ^ 32
masks_below b good s =
    dite (dec_lt s (slots b))
    (λ s<n. rw (get_d_masks b s s<n) (lt_of_lt_of_le (good.mask s s<n).below (pow_mono good.header.values_most)))
    (λ past. rw (get_or-eq_default (masks b) 0 {n = s} (omega (arith, length_masks b, past))) (pow_pos 32))

-- ---- close
module _ (b L U : List ℕ) (unrefused : close_number b L U ≡ 0) where
  pub close_fits : (lowers uppers : List ℕ) → Loosest (slots b) (values b) (book_start b) (view lowers uppers) → (p : ℕ) → p < entries b
      → (get_or lowers p 0 ≤ 256) × (get_or uppers p 0 ≤ 256)
  close_fits lowers uppers loosest p inside =
      let n = slots b in
      let k = values b in
      let v<k = value_below n k p inside in
      let t≤n = prefix_upto n k p inside in
      let at = place_of n k p inside in
      let across = loosest.closed.upper_across _ _ v<k t≤n in
      let uncrossed = loosest.closed.uncrossed _ _ v<k t≤n in
      let most = (close_good_lem b L U unrefused).header.slots_most in (
        omega (arith, across, uncrossed, ap (λ (q : ℕ). get_or lowers q 0) at, ap (λ (q : ℕ). get_or uppers q 0) at, most),
        omega (arith, across, ap (λ (q : ℕ). get_or uppers q 0) at, most),
      )

-- ---- settle
module _ (b M : List ℕ) (unrefused : settle_number b M ≡ 0) where
  pub settle_fits : (N : List ℕ) → SettlesTo b N → (s : ℕ) → get_or N s 0 < 4294967296
  settle_fits N settles s =
      mask_subset_below 32 (record { bits = settles.largest.within.bits s }) (masks_below b (settle_good_lem b M unrefused) s)

-- ---- session
module _ (b calls A M : List ℕ) (unrefused : session_number b calls A M ≡ 0) where
  session_good_lem : GoodFacts full_limits b
  session_good_lem = session_fault_good full_limits b (length calls) _ _ unrefused

  session_fitting : Fitting (rules_of b most_marks) (masks b) 4294967296
  session_fitting = book_fitting b most_marks session_good_lem.header.slots_most (masks_below b session_good_lem)

  pub session_words_fit : (i : ℕ) → i < length (session_words b calls) → get_or (session_words b calls) i 0 < 4294967296
  session_words_fit i inside = all_at (λ x. x < 4294967296) (session_words b calls) (words_fit b most_marks 4294967296 session_fitting (calls_of calls)) i inside

  pub session_masks_fit : (s : ℕ) → get_or (session_masks b calls) s 0 < 4294967296
  session_masks_fit s = masks_fit b most_marks 4294967296 session_fitting (calls_of calls) s

-- ---- read back
module _ (xs lent : List ℕ) (i : ℕ) (inside : i < length xs) where
  pub read16_written : get_or xs i 0 < 65536 → word16 (overlay (bytes_of 2 xs) lent) (2 * i) ≡ get_or xs i 0
  read16_written fits =
      let byte : (j : ℕ) → j < 2 → get_or (overlay (bytes_of 2 xs) lent) (2 * i + j) 0 ≡ get_or (digits 2 (get_or xs i 0)) j 0 =
      λ j j<2. bytes_of_byte 2 xs (drop (length (bytes_of 2 xs)) lent) i j inside j<2 in
      omega (arith, byte 0 (omega arith), byte 1 (omega arith), ap (λ (p : ℕ). get_or (overlay (bytes_of 2 xs) lent) p 0) (add-zero (2 * i)), fits)

  pub read32_written : get_or xs i 0 < 4294967296 → word32 (overlay (bytes_of 4 xs) lent) (4 * i) ≡ get_or xs i 0
  read32_written fits =
      let byte : (j : ℕ) → j < 4 → get_or (overlay (bytes_of 4 xs) lent) (4 * i + j) 0 ≡ get_or (digits 4 (get_or xs i 0)) j 0 =
      λ j j<4. bytes_of_byte 4 xs (drop (length (bytes_of 4 xs)) lent) i j inside j<4 in
      let second : 4 * i + 2 + 1 ≡ 4 * i + 3 = omega arith in
      omega (
        arith,
        byte 0 (omega arith),
        ap (λ (p : ℕ). get_or (overlay (bytes_of 4 xs) lent) p 0) (add-zero (4 * i)),
        byte 1 (omega arith),
        byte 2 (omega arith),
        byte 3 (omega arith),
        ap (λ (p : ℕ). get_or (overlay (bytes_of 4 xs) lent) p 0) second,
        fits,
      )
