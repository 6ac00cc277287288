-- The laws of `specs/Mirror.antt`, in its order. No contract cites this file. The ones that matter most: `quiet_stable` and `stable_quiet`
-- (for a closed table a list that the cells mirror is stable exactly where every row is quiet), `progress_trans`, `progress_stable`.
-- Assumes nothing.
use mathlib.Core.Bool.{Bool, true, false}
use mathlib.Core.Logic.{inl, inr, ⊎_elim}
use mathlib.Core.List.{List}
use Prim.Native.Nat.{ℕ, ◌≤◌, ◌<◌, zero-le}
use native.Mathlib.Nat.{le_antisymm}
use native.Mathlib.Omega.{arith}
use Rattle.domains.specs.Masks.{Alive, Subset}
use Rattle.domains.proofs.MasksLaws.{has_subset, fixed_has_subset}
use Rattle.closing_model.specs.Table.{Table, Closed}
use Rattle.closing_model.specs.Corners.{UpperCorner, LowerCorner, line, bound_line}
use Rattle.settling_model.specs.Settled.{Settled}
use Rattle.settling_model.specs.Stable.{Stable, table_bounds}
use Rattle.settling_model.proofs.StableLaws.{keeps_low_settled, keeps_high_settled}
use Rattle.settling_model.proofs.TableBoundsLaws.{stable_keeps}
use Rattle.settling_model.proofs.CornersLaws.{corners_stable}
use Rattle.segments_model.specs.Lines.{gain, loss}
use Rattle.segments_model.proofs.LinesLaws.{corner_of_turn}
use Rattle.filter_model.specs.Mirror.{Corner, Mirror, Quiet, SettledAt, SettledFrom, Progress}

-- ---- Corner
pub lower_corner : (n : ℕ) (T : Table) (v t : ℕ) → LowerCorner n (line T.lower n v) t → Corner true n T v t
lower_corner n T v t corner =
    record {
      from = corner.from;
      upto = corner.upto;
      turns = corner_of_turn t n _ _ _ _ corner.rises (λ inner. corner.flat (omega (arith, corner.upto)));
    }

pub upper_corner : (n : ℕ) (T : Table) (v t : ℕ) → UpperCorner n (line T.upper n v) t → Corner false n T v t
upper_corner n T v t corner =
    record {
      from = corner.from;
      upto = corner.upto;
      turns = corner_of_turn t n _ _ _ _ corner.flat (λ inner. corner.rises (omega (arith, corner.upto)));
    }

-- ---- Mirror
-- no corner is broken
pub mirror_kept : {n k : ℕ} {T : Table} {M cells : List ℕ} → Mirror n k T M cells → (kind : Bool) (v t : ℕ) → v < k → Corner kind n T v t
    → loss kind (bound_line kind n T v) M v t ≤ gain kind (bound_line kind n T v) M v t
mirror_kept mirror kind v t v<k corner = (mirror.rows kind v v<k).kept t corner.from corner.upto corner.turns

-- ---- Quiet
module _ (n k : ℕ) (T : Table) (M : List ℕ) where
  pub quiet_stable : {cells : List ℕ} → Closed n k T → Alive M → Mirror n k T M cells → ((kind : Bool) (v : ℕ) → v < k → Quiet kind n T M v)
      → Stable (table_bounds n k T) M
  quiet_stable closed alive mirror quiet =
      corners_stable n k T M closed alive
      (record {
        upper = λ v t v<k corner.
            let here = upper_corner n T v t corner in
            record { within = mirror_kept mirror false v t v<k here; tight = λ met. (quiet false v v<k).each t here (omega (arith, met)) };
        lower = λ v t v<k corner.
            let here = lower_corner n T v t corner in
            record { within = mirror_kept mirror true v t v<k here; tight = λ met. (quiet true v v<k).each t here (omega (arith, met)) };
      })

  pub stable_quiet : Stable (table_bounds n k T) M → (kind : Bool) (v : ℕ) → v < k → Quiet kind n T M v
  stable_quiet stable true v v<k =
      record {
        each = λ t corner none.
            let keeps = stable_keeps n k T M stable v t v<k corner.from corner.upto in
            keeps_low_settled keeps (le_antisymm (omega (arith, none)) keeps.low);
      }
  stable_quiet stable false v v<k =
      record {
        each = λ t corner none.
            let keeps = stable_keeps n k T M stable v t v<k corner.from corner.upto in
            keeps_high_settled keeps (le_antisymm keeps.high (omega (arith, none)));
      }

-- ---- SettledAt, SettledFrom
pub settled_at_subset : {N M : List ℕ} → Subset N M → (s v : ℕ) → SettledAt M s v → SettledAt N s v
settled_at_subset N⊆M s v settled = λ has. fixed_has_subset N⊆M s v (settled (has_subset N⊆M s v has)) has

-- no slot
pub settled_from_none : (M : List ℕ) (v from t : ℕ) → t ≤ from → SettledFrom M v from t
settled_from_none M v from t t≤from = record { each = λ s from≤s s<t. absurd (omega arith) }

pub settled_from_subset : {N M : List ℕ} {v from t : ℕ} → Subset N M → SettledFrom M v from t → SettledFrom N v from t
settled_from_subset {v = v} N⊆M settled = record { each = λ s from≤s s<t. settled_at_subset N⊆M s v (settled.each s from≤s s<t) }

-- from the first slot on
pub settled_from_all : {M : List ℕ} {v t : ℕ} → SettledFrom M v 0 t → Settled M v t
settled_from_all settled = record { each = λ s s<t. settled.each s zero-le s<t }

-- ---- Progress
pub progress_refl : (n k : ℕ) (T : Table) (M : List ℕ) → Progress n k T M M
progress_refl n k T M =
    record { spent = λ kind v t s v<k corner none s<t. inr (record { end = t; after = s<t; corner = corner; none = none }) }

pub progress_trans : {n k : ℕ} {T : Table} {A B C : List ℕ} → Subset C B → Progress n k T A B → Progress n k T B C → Progress n k T A C
progress_trans C⊆B A_B B_C =
    record {
      spent = λ kind v t s v<k corner none s<t.
          ⊎_elim inl
          (λ passed.
          ⊎_elim (λ settled. inl (settled_at_subset C⊆B s v settled)) inr
          (A_B.spent kind v passed.end s v<k passed.corner passed.none passed.after))
          (B_C.spent kind v t s v<k corner none s<t);
    }

-- a quiet row stays quiet
pub progress_quiet : {n k : ℕ} {T : Table} {M M' : List ℕ} {kind : Bool} {v : ℕ} → v < k → Subset M' M → Progress n k T M M' → Quiet kind n T M v
    → Quiet kind n T M' v
progress_quiet {kind = kind} {v = v} v<k M'⊆M progress quiet =
    record {
      each = λ t corner none.
          record {
            each = λ s s<t.
                ⊎_elim (λ settled. settled)
                (λ passed. settled_at_subset M'⊆M s v ((quiet.each passed.end passed.corner passed.none).each s passed.after))
                (progress.spent kind v t s v<k corner none s<t);
          };
    }

-- from a stable list, progress ends in a stable one
pub progress_stable : (n k : ℕ) (T : Table) (M M' : List ℕ) {cells' : List ℕ} → Closed n k T → Stable (table_bounds n k T) M → Subset M' M → Alive M'
    → Mirror n k T M' cells' → Progress n k T M M' → Stable (table_bounds n k T) M'
progress_stable n k T M M' closed stable M'⊆M alive mirror progress =
    quiet_stable n k T M' closed alive mirror (λ kind v v<k. progress_quiet v<k M'⊆M progress (stable_quiet n k T M stable kind v v<k))
