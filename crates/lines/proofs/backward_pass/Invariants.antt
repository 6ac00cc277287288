-- What each turn of `lines::backward_pass` keeps.
use mathlib.Core.Path.{◌≡◌}
use Prim.Native.Nat.{◌+◌, ◌-◌, ◌≤◌}
use Rattle.closing_model.proofs.LineLaws.{BackwardInv}
use Rattle.lines.proofs.backward_pass.Given as goal

abbrev pub invariant-loop-t : goal.invariant-loop-t
invariant-loop-t l = (l.d + l.t ≡ l.n) × (l.d ≤ l.a) × BackwardInv l.base l.n l.initial.lowers l.initial.uppers l.lowers l.uppers (l.a - l.d) l.b l.t
