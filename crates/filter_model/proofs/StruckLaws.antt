-- `Struck` of `specs/Strike.antt`, from what the falls of the slack did to the rows: where other values are left at the slot only the struck
-- value's lower row falls (`struck_plain`), where one is left its upper row falls too (`struck_single`). No contract cites this file.
-- Assumes nothing.
use mathlib.Core.Path.{◌≡◌, refl, ap, ◌∙◌}
use mathlib.Core.Bool.{Bool, true, false}
use mathlib.Core.Logic.{dite}
use mathlib.Core.List.{List}
use Prim.Native.Nat.{ℕ, ◌+◌, ◌*◌, ◌≤◌, ◌<◌, zero-le}
use native.Mathlib.Nat.{le_of_eq}
use native.Mathlib.Decide.{ℕ_discrete}
use native.Mathlib.Omega.{arith}
use lib.ListN.{length, get_or, set}
use Rattle.domains.specs.Mask.{Fixed, clear_bit}
use Rattle.domains.specs.Masks.{HasAt}
use Rattle.domains.proofs.MaskLaws.{test_bit_clear_bit_same, test_bit_clear_bit_other, fixed_single}
use Rattle.domains.proofs.CountsLaws.{only_fixed, only_free}
use Rattle.closing_model.specs.Table.{Table}
use Rattle.closing_model.specs.Corners.{bound_line}
use Rattle.segments_model.specs.Lines.{gain, loss, Change, row_corners, row_slack}
use Rattle.segments_model.specs.Part.{Lent}
use Rattle.segments_model.proofs.EndLaws.{row_lasts}
use Rattle.filter_model.specs.Mirror.{row, cells_of, Mirror, Passed}
use Rattle.filter_model.specs.Open.{cells_size, close_slot, OpenSlots}
use Rattle.filter_model.specs.Strike.{Reach, Dropped, Due, Struck}
use Rattle.filter_model.proofs.OpenLaws.{open_lent, close_slot_row, open_strike, open_single}
use Rattle.filter_model.proofs.RowLaws.{row_first, Row, row_weaken, row_cells, row_stays, row_falls, reach_met, lent_row}
use Rattle.filter_model.proofs.SpentLaws.{bound_cut, spent_passed}
use Rattle.filter_model.proofs.StoreLaws.{was_free, fixed_unique, strike_within}

-- the strike of v at the slot
module _ {n k : ℕ} {T : Table} {M cells : List ℕ} (mirror : Mirror n k T M cells) (slot v : ℕ) (inside : slot < length M) (v<k : v < k)
    (has : HasAt M slot v) (slot<n : slot < n) where
  abbrev left : ℕ
  left = clear_bit (get_or M slot 0) v

  abbrev after : List ℕ
  after = set M slot left

  -- ---- from the rows to the whole; where a reach is above 0 its bound is met
  module _ (cells' : List ℕ) (x₁ a w x₂ b : ℕ) (w<k : w < k) (a≤n : a ≤ n) (b≤n : b ≤ n)
      (rows : (kind : Bool) (q : ℕ) → q < k → Row kind n k T M after cells' q (Due kind v a w b q)) (opens : OpenSlots n k after cells')
      (low_from : 0 < a → (s : ℕ) → s < x₁ → Passed true n T M v s) (high_from : 0 < b → (s : ℕ) → s < x₂ → Passed false n T M w s)
      (low : 0 < a → gain true (bound_line true n T v) after v a ≡ loss true (bound_line true n T v) after v a)
      (high : 0 < b → gain false (bound_line false n T w) after w b ≡ loss false (bound_line false n T w) after w b) where
    struck_rows : Struck n k T M after cells' slot v x₁ a w x₂ b
    struck_rows =
        record {
          mirror = record { rows = λ kind x x<k. (rows kind x x<k).segments; opens = opens };
          spent = λ kind q t q<k. (rows kind q q<k).spent t;
          low_from = low_from;
          high_from = high_from;
          cuts = λ N stable N⊆M cut.
              let within = strike_within M slot v inside N⊆M cut in
              record {
                within = within;
                low = bound_cut n k T after N true v a v<k a≤n stable within low;
                high = bound_cut n k T after N false w b w<k b≤n stable within high;
              };
        }

  -- ---- the lower row of v
  module _ (cells₁ : List ℕ) (a : ℕ) {g₁ x₁ : ℕ} (fits : cells_size n k ≤ length cells) (some : left ≡ 0 → ⊥)
      (lent₁ : Lent (v * (n + 2)) (n + 2) (λ l l'. Dropped n slot l l' a g₁ x₁) cells cells₁) (free₁ : get_or (cells_of true n k v cells) 0 0 ≤ slot) where
    low_change : Change true (get_or M slot 0) left v 1
    low_change = omega (arith, has, test_bit_clear_bit_same (get_or M slot 0) v)

    low_other : (x : ℕ) → (x ≡ v → ⊥) → Change true (get_or M slot 0) left x 0
    low_other x x≢v = omega (arith, test_bit_clear_bit_other (get_or M slot 0) v x x≢v)

    high_other : (x : ℕ) → (Fixed left x → ⊥) → Change false (get_or M slot 0) left x 0
    high_other x free = omega (arith, only_free left x free, only_free (get_or M slot 0) x (was_free (get_or M slot 0) v x has some))

    low_reach : Reach (n + 1) (row_corners true n (bound_line true n T v)) (row_slack true n (bound_line true n T v) M v) slot (cells_of true n k v cells₁) a
    low_reach =
        let line = bound_line true n T v in
        lent₁.does.reach (row_corners true n line) (row_slack true n line M v) (mirror.rows true v v<k).held (row_lasts n true line M v) free₁

    low_starts : 0 < a → (s : ℕ) → s < x₁ → Passed true n T M v s
    low_starts 0<a = spent_passed mirror true v v<k x₁ (lent₁.does.from 0<a ∙ row_first n v cells)

    same₁ : (kind : Bool) (x : ℕ) → x < k → (row kind k x ≡ v → ⊥) → cells_of kind n k x cells₁ ≡ cells_of kind n k x cells
    same₁ true x x<k other = lent_row n (k + k) v x lent₁ (omega arith) (omega arith) other
    same₁ false x x<k other = lent_row n (k + k) v (k + x) lent₁ (omega arith) (omega arith) other

    -- no value is alone
    module _ (many : (x : ℕ) → Fixed left x → ⊥) where
      plain_rows : (kind : Bool) (x : ℕ) → x < k → Row kind n k T M after cells₁ x (Due kind v a 0 0 x)
      plain_rows true x x<k =
          dite (ℕ_discrete x v)
          (λ same. rw same (row_weaken (λ t t≤a. (refl, t≤a)) (row_falls mirror cells₁ slot left inside true v v<k slot<n a lent₁.does.inside low_change low_reach)))
          (λ other. row_stays mirror cells₁ slot left inside true x x<k (Due true v a 0 0 x) (low_other x other) (same₁ true x x<k other))
      plain_rows false x x<k =
          row_stays mirror cells₁ slot left inside false x x<k (Due false v a 0 0 x) (high_other x (many x)) (same₁ false x x<k (λ e. absurd (omega arith)))

      pub struck_plain : Struck n k T M after cells₁ slot v x₁ a 0 0 0
      struck_plain =
          struck_rows cells₁ x₁ a 0 0 0 (omega arith) lent₁.does.inside zero-le plain_rows
          (open_strike slot v inside (open_lent n k v lent₁ (omega arith)) mirror.opens) low_starts (λ 0<0. absurd (omega arith))
          (reach_met mirror cells₁ slot left inside true v v<k slot<n a lent₁.does.inside low_change low_reach) (λ 0<0. absurd (omega arith))

    -- ---- the upper row of w, the only value that is left
    module _ (cells₂ : List ℕ) (w b : ℕ) {g₂ x₂ : ℕ} (w<k : w < k) (single : Fixed left w)
        (lent₂ : Lent ((k + w) * (n + 2)) (n + 2) (λ l l'. Dropped n slot l l' b g₂ x₂) cells₁ cells₂)
        (free₂ : get_or (cells_of false n k w cells) 0 0 ≤ slot) where
      same₂ : (kind : Bool) (x : ℕ) → x < k → (row kind k x ≡ k + w → ⊥) → cells_of kind n k x cells₂ ≡ cells_of kind n k x cells₁
      same₂ true x x<k other = lent_row n (k + k) (k + w) x lent₂ (omega (arith, lent₁.size)) (omega arith) other
      same₂ false x x<k other = lent_row n (k + k) (k + w) (k + x) lent₂ (omega (arith, lent₁.size)) (omega arith) other

      high_change : Change false (get_or M slot 0) left w 1
      high_change = omega (arith, only_fixed left w single, only_free (get_or M slot 0) w (was_free (get_or M slot 0) v w has some))

      low_reach₂ : Reach (n + 1) (row_corners true n (bound_line true n T v)) (row_slack true n (bound_line true n T v) M v) slot (cells_of true n k v cells₂) a
      low_reach₂ = rw (same₂ true v v<k (λ e. absurd (omega arith))) low_reach

      high_reach : Reach (n + 1) (row_corners false n (bound_line false n T w)) (row_slack false n (bound_line false n T w) M w) slot (cells_of false n k w cells₂) b
      high_reach =
          let same = same₁ false w w<k (λ e. absurd (omega arith)) in
          let line = bound_line false n T w in
          lent₂.does.reach (row_corners false n line) (row_slack false n line M w) (rw same (mirror.rows false w w<k).held) (row_lasts n false line M w)
          (rw same free₂)

      high_starts : 0 < b → (s : ℕ) → s < x₂ → Passed false n T M w s
      high_starts 0<b =
          let same = same₁ false w w<k (λ e. absurd (omega arith)) in
          spent_passed mirror false w w<k x₂ (lent₂.does.from 0<b ∙ ap (λ (l : List ℕ). get_or l 0 0) same ∙ row_first n (k + w) cells)

      single_rows : (kind : Bool) (x : ℕ) → x < k → Row kind n k T M after cells₂ x (Due kind v a w b x)
      single_rows true x x<k =
          dite (ℕ_discrete x v)
          (λ same. rw same (row_weaken (λ t t≤a. (refl, t≤a)) (row_falls mirror cells₂ slot left inside true v v<k slot<n a lent₁.does.inside low_change low_reach₂)))
          (λ other.
          row_stays mirror cells₂ slot left inside true x x<k (Due true v a w b x) (low_other x other)
          (same₂ true x x<k (λ e. absurd (omega arith)) ∙ same₁ true x x<k other))
      single_rows false x x<k =
          dite (ℕ_discrete x w)
          (λ same. rw same (row_weaken (λ t t≤b. (refl, t≤b)) (row_falls mirror cells₂ slot left inside false w w<k slot<n b lent₂.does.inside high_change high_reach)))
          (λ other.
          row_stays mirror cells₂ slot left inside false x x<k (Due false v a w b x) (high_other x (λ fixed. other (fixed_unique left x w fixed single)))
          (same₂ false x x<k (λ e. other (omega arith)) ∙ same₁ false x x<k (λ e. absurd (omega arith))))

      -- the slot is taken out of the set of open ones
      module _ (slot_fits : slot < 256) where
        closed_row : (kind : Bool) (x : ℕ) → x < k → cells_of kind n k x (close_slot n k slot cells₂) ≡ cells_of kind n k x cells₂
        closed_row kind x x<k = close_slot_row n k slot cells₂ kind x x<k (omega (arith, lent₁.size, lent₂.size))

        pub struck_single : Struck n k T M after (close_slot n k slot cells₂) slot v x₁ a w x₂ b
        struck_single =
            struck_rows (close_slot n k slot cells₂) x₁ a w x₂ b w<k lent₁.does.inside lent₂.does.inside
            (λ kind x x<k. row_cells (closed_row kind x x<k) (single_rows kind x x<k))
            (open_single slot v v (k + w) inside slot_fits fits lent₁ (omega arith) lent₂ (omega arith) (le_of_eq (fixed_single left w single))
            mirror.opens)
            low_starts high_starts (reach_met mirror cells₂ slot left inside true v v<k slot<n a lent₁.does.inside low_change low_reach₂)
            (reach_met mirror cells₂ slot left inside false w w<k slot<n b lent₂.does.inside high_change high_reach)
