-- The laws of `specs/Corners.antt`: with a closed table, what a stable list keeps at the corners it keeps at every end (`corners_stable`),
-- and back (`stable_corners`). Both kinds of bound are `corners_suffice`: the upper bounds with the slots fixed to v, and t less the lower
-- bounds with the slots that lack v. No contract cites this file. Assumes nothing.
use mathlib.Core.Path.{◌≡◌, sym}
use mathlib.Core.List.{List}
use Prim.Native.Nat.{ℕ, suc, ◌+◌, ◌≤◌}
use native.Mathlib.Omega.{arith}
use lib.ListN.{get_or}
use Rattle.domains.specs.Mask.{test_bit}
use Rattle.domains.specs.Masks.{FixedAt, Alive}
use Rattle.domains.specs.Counts.{count, count_has, count_fixed}
use Rattle.domains.proofs.MaskLaws.{test_bit_lt}
use Rattle.domains.proofs.CountsLaws.{only_lt, fixed_only}
use Rattle.closing_model.specs.Table.{Table, Closed}
use Rattle.closing_model.specs.Corners.{UpperCorner, LowerCorner, Staircase, line}
use Rattle.closing_model.proofs.TableLaws.{closed_upper_staircase, closed_lower_staircase}
use Rattle.settling_model.specs.Settled.{LacksAt, Settled}
use Rattle.settling_model.specs.Stable.{Stable, table_bounds}
use Rattle.settling_model.specs.Corners.{Meets, CornersKept}
use Rattle.settling_model.proofs.SettledLaws.{lacks_not_has, settled_none, settled_less, settled_more}
use Rattle.settling_model.proofs.StableLaws.{keeps_low_settled, keeps_high_settled, settled_keeps}
use Rattle.settling_model.proofs.TableBoundsLaws.{stable_keeps, keeps_stable}
use Rattle.settling_model.proofs.StaircaseLaws.{staircase_le, count_staircase, co, co_staircase, co_corner, corners_suffice}

-- ---- Meets: the two kinds of bound, for one value
module _ (n : ℕ) (M : List ℕ) (v : ℕ) where
  count_fixed_rose : (t : ℕ) → count_fixed M v (suc t) ≡ count_fixed M v t + 1 → FixedAt M t v
  unfolding count
  count_fixed_rose t rose = fixed_only (get_or M t 0) v (omega arith)

  count_has_stayed : (t : ℕ) → count_has M v (suc t) ≡ count_has M v t → LacksAt M t v
  unfolding count
  count_has_stayed t stayed = omega arith

  pub upper_suffices : (u : ℕ → ℕ) → Staircase n u → ((t : ℕ) → UpperCorner n u t → Meets u (count_fixed M v) (Settled M v) t)
      → (t : ℕ) → t ≤ n → Meets u (count_fixed M v) (Settled M v) t
  upper_suffices u stairs =
      corners_suffice n u (count_fixed M v) (Settled M v) stairs (count_staircase n _ (λ s. only_lt (get_or M s 0) v)) (settled_none M v)
      (λ t t<n. settled_less) (λ t t<n rose. settled_more (λ has. count_fixed_rose t rose))

  pub lower_suffices : (l : ℕ → ℕ) → Staircase n l → ((t : ℕ) → LowerCorner n l t → Meets (count_has M v) l (Settled M v) t)
      → (t : ℕ) → t ≤ n → Meets (count_has M v) l (Settled M v) t
  lower_suffices l stairs corners t t≤n =
      let counts = count_staircase n (λ s. test_bit (get_or M s 0) v) (λ s. test_bit_lt (get_or M s 0) v) in
      let has≤ : (e : ℕ) → e ≤ n → count_has M v e ≤ e = staircase_le n (count_has M v) counts in
      let low≤ : (e : ℕ) → e ≤ n → l e ≤ e = staircase_le n l stairs in
      let there =
      corners_suffice n (co l) (co (count_has M v)) (Settled M v) (co_staircase n l stairs) (co_staircase n (count_has M v) counts) (settled_none M v)
      (λ e e<n. settled_less)
      (λ e e<n rose.
      settled_more
      (λ has. absurd (lacks_not_has M e v (count_has_stayed e (omega (arith, has≤ e (omega arith), has≤ (suc e) e<n))) has)))
      (λ e corner.
      let here = corners e (co_corner n l stairs e corner) in
      record {
        within = omega (arith, here.within);
        tight = λ met. here.tight (omega (arith, has≤ e corner.upto, low≤ e corner.upto));
      })
      t t≤n
      in
      record { within = omega (arith, there.within, has≤ t t≤n, low≤ t t≤n); tight = λ met. there.tight (omega arith) }

-- ---- CornersKept
pub corners_stable : (n k : ℕ) (T : Table) (M : List ℕ) → Closed n k T → Alive M → CornersKept n k T M → Stable (table_bounds n k T) M
corners_stable n k T M closed alive kept =
    keeps_stable n k T M alive
    (λ v t v<k 0<t t≤n.
    let high = upper_suffices n M v (line T.upper n v) (closed_upper_staircase n k T closed v v<k) (λ e. kept.upper v e v<k) t t≤n in
    let low = lower_suffices n M v (line T.lower n v) (closed_lower_staircase n k T closed v v<k) (λ e. kept.lower v e v<k) t t≤n in
    settled_keeps low.within high.within (λ met. low.tight (sym met)) high.tight)

-- a corner is an end
pub stable_corners : (n k : ℕ) (T : Table) (M : List ℕ) → Stable (table_bounds n k T) M → CornersKept n k T M
stable_corners n k T M stable =
    record {
      upper = λ v t v<k corner.
          let keeps = stable_keeps n k T M stable v t v<k corner.from corner.upto in
          record { within = keeps.high; tight = keeps_high_settled keeps };
      lower = λ v t v<k corner.
          let keeps = stable_keeps n k T M stable v t v<k corner.from corner.upto in
          record { within = keeps.low; tight = λ met. keeps_low_settled keeps (sym met) };
    }
