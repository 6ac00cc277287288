-- The law of `Gap` of specs/Search.antt: one more place passed, at its left side. No contract cites this file. Assumes nothing.
use mathlib.Core.Path.{◌≡◌}
use mathlib.Core.Logic.{dite}
use mathlib.Core.List.{List}
use Prim.Native.Nat.{ℕ, ◌+◌}
use native.Mathlib.Decide.{ℕ_discrete}
use native.Mathlib.Omega.{arith}
use lib.ListN.{get_or}
use Rattle.segments_model.specs.Search.{Gap}

pub gap_before : (cells : List ℕ) (a b : ℕ) → Gap cells (a + 1) b → get_or cells a 0 ≡ 0 → Gap cells a b
gap_before cells a b gap none i a≤i i<b = dite (ℕ_discrete i a) (λ e. rw e none) (λ ne. gap i (omega arith) i<b)
