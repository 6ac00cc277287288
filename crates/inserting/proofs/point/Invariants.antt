-- What each turn of `inserting::point` keeps: c is the link from i to `next`, and the cells from `from` on and before i are such links (`Pointed`).
use mathlib.Core.Path.{◌≡◌}
use Prim.Native.Nat.{◌+◌, ◌≤◌}
use Rattle.segments_model.specs.Build.{Pointed}
use Rattle.inserting.proofs.point.Given as goal

abbrev pub invariant-loop-i : goal.invariant-loop-i
invariant-loop-i l = (l.from ≤ l.i) × (l.c + l.i ≡ 1023 + l.next) × Pointed l.from l.i l.next l.initial.cells l.cells
