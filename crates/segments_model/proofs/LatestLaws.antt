-- From `Latest` of specs/Search.antt to `Previous`: a right end that was found (`latest_end`), or none, since no right end is up to the spent
-- corner (`latest_none`). No contract cites this file. Assumes nothing.
use mathlib.Core.Path.{◌≡◌, ap}
use mathlib.Core.Bool.{Bool}
use mathlib.Core.Logic.{dite}
use mathlib.Core.List.{List}
use Prim.Native.Nat.{ℕ, ◌≤◌, ◌<◌, zero-le}
use native.Mathlib.Decide.{dec_le, dec_lt, ℕ_discrete}
use native.Mathlib.Omega.{arith}
use lib.ListN.{get_or}
use Rattle.segments_model.specs.Cells.{Cells}
use Rattle.segments_model.specs.Search.{Previous, Latest}

pub latest_end : {z slot p : ℕ} {l : List ℕ} → Latest z slot l p → z < p → Previous slot l p
latest_end latest z<p = record { before = latest.before; stands = λ 0<p. latest.stands z<p; gap = latest.gap }

module _ {n : ℕ} {C : ℕ → Bool} {f : ℕ → ℕ} {l : List ℕ} (held : Cells n C f l) where
  abbrev z : ℕ
  z = get_or l 0 0

  spent_clear : (i : ℕ) → 0 < i → i ≤ z → get_or l i 0 ≡ 0
  spent_clear i 0<i i≤z =
      let spent = held.spent in
      dite (ℕ_discrete (get_or l i 0) 0) (λ none. none)
      (λ some.
      let stands = held.stands i 0<i (omega (arith, spent.inside)) (omega arith) in
      dite (dec_lt i z)
      (λ i<z. absurd (omega (arith, stands.least z i<z spent.inside (spent.corner (omega arith)), spent.none (omega arith))))
      (λ z≤i. let same : i ≡ z = omega arith in absurd (omega (arith, stands.slack, ap f same, spent.none (omega arith)))))

  pub latest_none : {slot p : ℕ} → Latest z slot l p → p ≡ z → Previous slot l 0
  latest_none latest is =
      record {
        before = zero-le;
        stands = λ 0<0. absurd (omega arith);
        gap = λ i 1≤i i≤slot. dite (dec_le i z) (λ i≤z. spent_clear i (omega arith) i≤z) (λ z<i. latest.gap i (omega arith) i≤slot);
      }
