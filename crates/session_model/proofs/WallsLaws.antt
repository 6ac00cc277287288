-- The laws of `specs/Walls.antt`: the cells that hold a bound's segments hold as many as the formula counts (`segments_wall_count`), at most one an end
-- (`wall_count_most`), and the corners of a line are those of document 01's words (`corner_upper`, `upper_corner`, `corner_lower`, `lower_corner`). No
-- contract cites this file. Assumes nothing.
use mathlib.Core.Path.{◌≡◌, ap}
use mathlib.Core.Bool.{Bool, true, false}
use mathlib.Core.List.{List}
use Prim.Native.Nat.{ℕ, zero, suc, ◌+◌, ◌-◌, ◌≤◌, ◌<◌}
use native.Mathlib.Numerals.{add-one}
use native.Mathlib.Omega.{arith}
use Rattle.domains.specs.Counts.{count, bit}
use Rattle.domains.proofs.CountsLaws.{count_none, count_next}
use Rattle.closing_model.specs.Table.{Table}
use Rattle.closing_model.specs.Corners.{UpperCorner, LowerCorner, bound_line}
use Rattle.segments_model.specs.Cells.{stands_at, standing_in}
use Rattle.segments_model.specs.Lines.{corner_of, slack_of, Segments}
use Rattle.segments_model.specs.Links.{gaps}
use Rattle.segments_model.proofs.LinesLaws.{corner_of_turn, turn_of_corner}
use Rattle.segments_model.proofs.SlackLaws.{segments_standing}
use Rattle.session_model.specs.Walls.{wall_count}

-- ---- corners
module _ (n : ℕ) (u : ℕ → ℕ) (t : ℕ) where
  pub corner_upper : 0 < t → t ≤ n → corner_of false n u t ≡ true → UpperCorner n u t
  corner_upper from upto corner =
      let turn = turn_of_corner t n (u t) (u (t - 1)) (u (t + 1)) (u t + 1) corner in
      record { from = from; upto = upto; flat = turn.0; rises = λ t<n. turn.1 (omega arith) }

  pub upper_corner : UpperCorner n u t → corner_of false n u t ≡ true
  upper_corner corner = corner_of_turn t n (u t) (u (t - 1)) (u (t + 1)) (u t + 1) corner.flat (λ inner. corner.rises (omega (arith, corner.upto)))

  pub corner_lower : 0 < t → t ≤ n → corner_of true n u t ≡ true → LowerCorner n u t
  corner_lower from upto corner =
      let turn = turn_of_corner t n (u t) (u (t - 1) + 1) (u (t + 1)) (u t) corner in
      record { from = from; upto = upto; rises = turn.0; flat = λ t<n. turn.1 (omega arith) }

  pub lower_corner : LowerCorner n u t → corner_of true n u t ≡ true
  lower_corner corner = corner_of_turn t n (u t) (u (t - 1) + 1) (u (t + 1)) (u t) corner.rises (λ inner. corner.flat (omega (arith, corner.upto)))

-- ---- wall_count
pub segments_wall_count : (kind : Bool) (n : ℕ) (T : Table) (M : List ℕ) (v : ℕ) (cells : List ℕ) → Segments kind n (bound_line kind n T v) M v cells
    → standing_in (gaps cells) n ≡ wall_count kind n T M v
segments_wall_count kind n T M v cells segments = segments_standing segments

count_bits : (f : ℕ → Bool) (n : ℕ) → count (λ s. bit (f s)) n ≤ n
count_bits f zero = omega (arith, count_none (λ s. bit (f s)))
count_bits f (suc n) =
    omega (arith, ap (count (λ s. bit (f s))) (add-one n), count_next (λ s. bit (f s)) n, count_bits f n, bit_most (f n))
  where
    bit_most : (x : Bool) → bit x ≤ 1
    bit_most true = omega arith
    bit_most false = omega arith

pub wall_count_most : (kind : Bool) (n : ℕ) (T : Table) (M : List ℕ) (v : ℕ) → wall_count kind n T M v ≤ n
wall_count_most kind n T M v =
    count_bits (λ t. stands_at n (corner_of kind n (bound_line kind n T v)) (slack_of kind (bound_line kind n T v) M v) (suc t)) n
