-- The laws of `PreviousTurn` and `PreviousCorner` of specs/Turn.antt: `straight_flat`, no corner of either kind where the line goes straight on;
-- `turn_corner`, where it turns by the kind's own step there is one; the starts, steps and ends of the two searches.
-- No contract cites this file. Assumes nothing.
use mathlib.Core.Path.{◌≡◌, refl, sym, ◌∙◌}
use mathlib.Core.Bool.{Bool, true, false, not}
use mathlib.Core.Logic.{dite}
use mathlib.Core.List.{List}
use Prim.Native.Nat.{ℕ, ◌+◌, ◌-◌, ◌≤◌, ◌<◌}
use native.Mathlib.Decide.{ℕ_discrete}
use native.Mathlib.Omega.{arith}
use lib.ListN.{get_or}
use borrow.Author.Tests.{eq-eqb, ne_eqb}
use Rattle.domains.specs.Mask.{test_bit}
use Rattle.domains.specs.Counts.{bit}
use Rattle.domains.proofs.MaskLaws.{test_bit_lt}
use Rattle.segments_model.specs.Lines.{line_of, corner_of}
use Rattle.segments_model.proofs.LinesLaws.{corner_off, corner_inner}
use Rattle.corners.specs.Turn.{Straight, PreviousTurn}

-- ---- corners, turns and straight prefixes

bits_sum : (kind : Bool) → bit kind + bit (not kind) ≡ 1
bits_sum true = refl
bits_sum false = refl

module _ (kind : Bool) (n : ℕ) (rises : List ℕ) (v i : ℕ) (0<i : 0 < i) (i<n : i < n) where
  pub straight_flat : Straight rises v i → corner_of kind n (line_of rises v) i ≡ false
  straight_flat same =
      dite (ℕ_discrete (test_bit (get_or rises i 0) v) (bit kind))
      (λ own. sym (corner_inner kind n rises v i 0<i refl refl own (λ last. omega arith) refl refl)
      ∙ ne_eqb (test_bit (get_or rises (i + 1) 0) v) (bit (not kind)) (λ other. omega (arith, bits_sum kind)))
      (λ other. sym (corner_off kind n rises v i 0<i refl refl other))

  pub turn_corner : (Straight rises v i → ⊥) → test_bit (get_or rises i 0) v ≡ bit kind → corner_of kind n (line_of rises v) i ≡ true
  turn_corner turns own =
      sym (corner_inner kind n rises v i 0<i refl refl own (λ last. omega arith) refl refl)
      ∙ eq-eqb (test_bit (get_or rises (i + 1) 0) v) (bit (not kind))
      (omega (arith, turns, bits_sum kind, test_bit_lt (get_or rises i 0) v, test_bit_lt (get_or rises (i + 1) 0) v))

-- ---- the search for a turn

pub straight_more : (rises : List ℕ) (v t i : ℕ) → 0 < i → ((j : ℕ) → i < j → j < t → Straight rises v j) → Straight rises v i
    → (j : ℕ) → i - 1 < j → j < t → Straight rises v j
straight_more rises v t i 0<i after here j i≤j j<t =
    dite (ℕ_discrete j i) (λ e. rw e here) (λ ne. after j (omega arith) j<t)

-- ---- the search for a corner: i is a turn or 0, and no corner lies between it and t

abbrev pub Cornerless : Bool → ℕ → List ℕ → ℕ → ℕ → ℕ → Type 0
Cornerless kind n rises v i t = (j : ℕ) → i < j → j < t → corner_of kind n (line_of rises v) j ≡ false

module _ (kind : Bool) (n : ℕ) (rises : List ℕ) (v t : ℕ) (t≤n : t ≤ n) where
  pub cornerless_start : (s : ℕ) → PreviousTurn rises v t s → Cornerless kind n rises v s t
  cornerless_start s turn j s<j j<t = straight_flat kind n rises v j (omega arith) (omega arith) (turn.straight j s<j j<t)

  pub cornerless_more : (i s : ℕ) → 0 < i → i < t → Cornerless kind n rises v i t → (test_bit (get_or rises i 0) v ≡ bit kind → ⊥) → PreviousTurn rises v i s
      → Cornerless kind n rises v s t
  cornerless_more i s 0<i i<t after other turn j s<j j<t =
      dite (ℕ_discrete j i) (λ e. rw e (sym (corner_off kind n rises v i 0<i refl refl other)))
      (λ ne. dite (ℕ_discrete (i - j) 0) (λ past. after j (omega arith) j<t)
      (λ short. straight_flat kind n rises v j (omega arith) (omega arith) (turn.straight j s<j (omega arith))))
