-- What each turn of `lines::forward_pass` keeps.
use Rattle.closing_model.proofs.LineLaws.{ForwardInv}
use Rattle.lines.proofs.forward_pass.Given as goal

abbrev pub invariant-loop-t : goal.invariant-loop-t
invariant-loop-t l = ForwardInv l.base l.n l.initial.lowers l.initial.uppers l.lowers l.uppers l.a l.b l.t
