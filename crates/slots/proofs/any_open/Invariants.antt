-- What each turn of `slots::any_open` keeps: no slot from the start on before block b is open.
use mathlib.Core.Path.{◌≡◌}
use Prim.Native.Nat.{ℕ, ◌*◌, ◌/◌, ◌≤◌, ◌<◌}
use Rattle.filter_model.specs.Open.{open_bit}
use Rattle.slots.proofs.any_open.Given as goal

abbrev pub invariant-loop-b : goal.invariant-loop-b
invariant-loop-b l = (l.start / 32 ≤ l.b) × ((s : ℕ) → l.start ≤ s → s < 32 * l.b → open_bit l.n l.k l.cells s ≡ 0)
