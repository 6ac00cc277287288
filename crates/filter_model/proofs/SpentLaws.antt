-- Bounds that are met: every stable list meets their cuts (`bound_cut`); so it does before the spent corner of a row, the last one without slack
-- (`spent_cut`), and a row is quiet where all before that is settled (`spent_quiet`). No contract cites this file. Assumes nothing.
use mathlib.Core.Path.{◌≡◌, sym}
use mathlib.Core.Bool.{Bool, true, false}
use mathlib.Core.Logic.{⊎_elim, dite}
use mathlib.Core.List.{List}
use Prim.Native.Nat.{ℕ, ◌+◌, ◌*◌, ◌≤◌, ◌<◌}
use native.Mathlib.Nat.{le_antisymm}
use native.Mathlib.Decide.{dec_lt}
use native.Mathlib.Omega.{arith}
use lib.ListN.{get_or}
use Rattle.domains.specs.Masks.{Subset}
use Rattle.closing_model.specs.Table.{Table}
use Rattle.closing_model.specs.Corners.{bound_line}
use Rattle.settling_model.specs.Settled.{Settled}
use Rattle.settling_model.specs.Stable.{Stable, table_bounds}
use Rattle.settling_model.proofs.StableLaws.{low_cut, high_cut}
use Rattle.settling_model.proofs.TableBoundsLaws.{stable_keeps}
use Rattle.segments_model.specs.Cells.{Spent}
use Rattle.segments_model.specs.Lines.{corner_of, gain, loss}
use Rattle.segments_model.proofs.SlackLaws.{segments_spent}
use Rattle.filter_model.specs.Cuts.{BoundCut}
use Rattle.filter_model.specs.Mirror.{Corner, slack_at, row, Mirror, Quiet, Passed, Progress}
use Rattle.filter_model.proofs.MirrorLaws.{mirror_kept}
use Rattle.filter_model.proofs.RowLaws.{row_first}

-- ---- BoundCut
-- the bound of v is met at t
pub bound_cut : (n k : ℕ) (T : Table) (M N : List ℕ) (kind : Bool) (v t : ℕ) → v < k → t ≤ n → Stable (table_bounds n k T) N → Subset N M
    → (0 < t → gain kind (bound_line kind n T v) M v t ≡ loss kind (bound_line kind n T v) M v t) → BoundCut kind M v t N
bound_cut n k T M N true v t v<k t≤n stable N⊆M met =
    record {
      each = λ s s<t has.
          record { fixed = low_cut stable.alive (stable_keeps n k T N stable v t v<k (omega arith) t≤n) N⊆M (met (omega arith)) s s<t has };
    }
bound_cut n k T M N false v t v<k t≤n stable N⊆M met =
    record {
      each = λ s s<t free.
          record {
            lacks = high_cut stable.alive (stable_keeps n k T N stable v t v<k (omega arith) t≤n) N⊆M (sym (met (omega arith))) s s<t free;
          };
    }

-- ---- the spent corner z of a row
module _ {n k : ℕ} {T : Table} {M cells : List ℕ} (mirror : Mirror n k T M cells) (kind : Bool) (v : ℕ) (v<k : v < k) (z : ℕ)
    (z_is : z ≡ get_or cells (row kind k v * (n + 2)) 0) where
  pub spent_row : Spent n (corner_of kind n (bound_line kind n T v)) (slack_at kind n T M v) z
  spent_row = rw (z_is, ← row_first n (row kind k v) cells) (segments_spent (mirror.rows kind v v<k))

  spent_corner : 0 < z → Corner kind n T v z
  spent_corner 0<z = record { from = 0<z; upto = spent_row.inside; turns = spent_row.corner 0<z }

  -- the slots before it are before a corner without slack, and no others are
  pub spent_passed : (s : ℕ) → s < z → Passed kind n T M v s
  spent_passed s s<z = record { end = z; after = s<z; corner = spent_corner (omega arith); none = spent_row.none (omega arith) }

  passed_before : (s : ℕ) → Passed kind n T M v s → s < z
  passed_before s passed =
      dite (dec_lt z passed.end)
      (λ z<end. absurd (omega (arith, passed.none, spent_row.last passed.end z<end passed.corner.upto passed.corner.turns)))
      (λ end≤z. omega (arith, passed.after))

  -- a later list, settled before it: no corner without slack is left unsettled
  pub spent_quiet : {M' : List ℕ} → Progress n k T M M' → Settled M' v z → Quiet kind n T M' v
  spent_quiet progress settled =
      record {
        each = λ t corner none.
            record {
              each = λ s s<t.
                  ⊎_elim (λ here. here) (λ passed. settled.each s (passed_before s passed)) (progress.spent kind v t s v<k corner none s<t);
            };
      }

  pub spent_cut : (N : List ℕ) → Stable (table_bounds n k T) N → Subset N M → BoundCut kind M v z N
  spent_cut N stable N⊆M =
      bound_cut n k T M N kind v z v<k spent_row.inside stable N⊆M
      (λ 0<z. le_antisymm (omega (arith, spent_row.none 0<z)) (mirror_kept mirror kind v z v<k (spent_corner 0<z)))
