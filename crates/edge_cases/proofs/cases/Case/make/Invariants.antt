-- What each turn of `edge_cases::Case::make` keeps: while no byte is left at the start, none is, and the case is as it was.
use Rattle.std.proofs.Common.{◌≡◌, length}
use Rattle.edge_cases.proofs.cases.Case.make.Given as goal

abbrev pub invariant-loop-step : goal.invariant-loop-step
invariant-loop-step l = length l.line.rest.now ≡ 0 → (length l.step-iterator.rest.now ≡ 0) × (l.self ≡ l.initial.self)
