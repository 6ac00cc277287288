-- The laws of `specs/Rises.antt`: rows that hold the segments of every line with the rises mirror each table with them (`rises_mirror`), and a
-- broken corner leaves no stable list (`broken_unstable`). `mirror_larger`: where masks grow again no corner gets broken. No contract cites
-- this file. `rises_table`: every two lists of masks are the rises of a table. Assumes nothing.
use mathlib.Core.Path.{◌≡◌, ◌∙◌}
use mathlib.Core.Bool.{Bool, true, false}
use mathlib.Core.List.{List}
use Prim.Native.Nat.{ℕ, suc, ◌+◌, ◌/◌, ◌%◌, ◌≤◌, ◌<◌}
use native.Mathlib.Omega.{arith}
use Rattle.domains.specs.Masks.{Alive, Subset}
use Rattle.domains.proofs.CountsLaws.{count_has_subset, count_fixed_subset}
use Rattle.closing_model.specs.Table.{Table}
use Rattle.closing_model.specs.Corners.{bound_line}
use Rattle.closing_model.proofs.PlaceLaws.{place_value, place_prefix}
use Rattle.settling_model.specs.Stable.{Unstable, table_bounds}
use Rattle.settling_model.proofs.TableBoundsLaws.{low_broken, high_broken}
use Rattle.segments_model.specs.Lines.{line_of, Rising, BrokenAt, Segments}
use Rattle.segments_model.proofs.LinesLaws.{line_rising}
use Rattle.filter_model.specs.Mirror.{cells_of, Mirror}
use Rattle.filter_model.specs.Open.{OpenSlots}
use Rattle.filter_model.specs.Rises.{rises_of, TableRises}

pub rises_mirror : {n k : ℕ} {T : Table} {L U M cells : List ℕ} → TableRises n k T L U
    → ((kind : Bool) (v : ℕ) → v < k → (u : ℕ → ℕ) → Rising n v (rises_of kind L U) u → Segments kind n u M v (cells_of kind n k v cells))
    → OpenSlots n k M cells → Mirror n k T M cells
rises_mirror {n} {k} {T} rises rows opens =
    record { rows = λ kind v v<k. rows kind v v<k (bound_line kind n T v) (rises.rises kind v v<k); opens = opens }

pub broken_unstable : (n k : ℕ) (T : Table) (M : List ℕ) (kind : Bool) (v t : ℕ) → v < k → BrokenAt kind n (bound_line kind n T v) M v t
    → Unstable (table_bounds n k T) M
broken_unstable n k T M true v t v<k broken = low_broken n k T M v t v<k broken.above broken.inside broken.broken
broken_unstable n k T M false v t v<k broken = high_broken n k T M v t v<k broken.above broken.inside broken.broken

-- the larger list has no less gain and no more loss
pub mirror_larger : {n k : ℕ} {T : Table} {M M' cells : List ℕ} → Subset M' M → Alive M' → Mirror n k T M' cells → (kind : Bool) (v t : ℕ) → v < k
    → BrokenAt kind n (bound_line kind n T v) M v t → ⊥
mirror_larger M'⊆M alive mirror true v t v<k broken =
    let kept = (mirror.rows true v v<k).kept t broken.above broken.inside broken.corner in
    omega (arith, broken.broken, count_has_subset M'⊆M v t)
mirror_larger M'⊆M alive mirror false v t v<k broken =
    let kept = (mirror.rows false v v<k).kept t broken.above broken.inside broken.corner in
    omega (arith, broken.broken, count_fixed_subset M'⊆M alive v t)

-- ---- the table that two lists of rises give
abbrev pub line_table : ℕ → List ℕ → List ℕ → Table
line_table n L U = record { lower = λ p. line_of L (p / (n + 1)) (p % (n + 1)); upper = λ p. line_of U (p / (n + 1)) (p % (n + 1)) }

module _ (n : ℕ) (L U : List ℕ) where
  -- its lines are theirs
  bound_line_rises : (kind : Bool) (v t : ℕ) → t ≤ n → bound_line kind n (line_table n L U) v t ≡ line_of (rises_of kind L U) v t
  bound_line_rises true v t t≤n = rw (place_value n v t t≤n, place_prefix n v t t≤n)
  bound_line_rises false v t t≤n = rw (place_value n v t t≤n, place_prefix n v t t≤n)

  pub rises_table : (k : ℕ) → TableRises n k (line_table n L U) L U
  rises_table k =
      record {
        rises = λ kind v v<k.
            let line = line_rising n v (rises_of kind L U) in
            record {
              start = bound_line_rises kind v 0 (omega arith) ∙ line.start;
              steps = λ t t<n.
                  omega (arith, bound_line_rises kind v (suc t) t<n, bound_line_rises kind v t (omega arith), line.steps t t<n);
            };
      }
