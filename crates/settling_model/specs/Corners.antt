-- The conditions of a stable list at the corners of a table only. With a closed table they are enough (`corners_stable`, `stable_corners`).
--   Meets u c S t        at end t, c is at most u, and S holds where they meet: an upper bound u and a count c, or a count u and a lower bound c
--   CornersKept n k T M  M keeps the upper bounds of T at their upper corners, and the lower bounds at their lower corners
-- Where a bound is met both kinds ask `Settled` (`keeps_low_settled`, `keeps_high_settled`).
-- Assumes nothing.
use Rattle.std.specs.Prelude.{◌≡◌, List, ℕ, ◌≤◌, ◌<◌}
use Rattle.domains.specs.Counts.{count_has, count_fixed}
use Rattle.closing_model.specs.Table.{Table}
use Rattle.closing_model.specs.Corners.{UpperCorner, LowerCorner, line}
use Rattle.settling_model.specs.Settled.{Settled}

pub record Meets (u c : ℕ → ℕ) (S : ℕ → Type 0) (t : ℕ) : Type 0 where
  pub within : c t ≤ u t
  pub tight : c t ≡ u t → S t

pub record CornersKept (n k : ℕ) (T : Table) (M : List ℕ) : Type 0 where
  pub upper : (v t : ℕ) → v < k → UpperCorner n (line T.upper n v) t → Meets (line T.upper n v) (count_fixed M v) (Settled M v) t
  pub lower : (v t : ℕ) → v < k → LowerCorner n (line T.lower n v) t → Meets (count_has M v) (line T.lower n v) (Settled M v) t
