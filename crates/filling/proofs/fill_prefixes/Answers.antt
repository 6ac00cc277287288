-- `filling::fill_prefixes` meets its contract. The invariant of the loop over the lines, `LinesInv`: the places below base hold their prefix lengths, and
-- a line begins at base. That of the loop over a line, `LineUpTo`: its first t places are filled besides those before it. The measure is how many places
-- are left. `line_more` is a turn on a line, `line_done` its end, `line_next` the next line. Assumes nothing.
use mathlib.Core.Path.{◌≡◌}
use Prim.Native.Nat.{◌+◌}
use native.Mathlib.Omega.{arith}
use Rattle.filling.specs.Fill.{LineFilled}
use Rattle.filling.proofs.FillLaws.{lines_start, line_more, line_done, line_next}
use Rattle.filling.proofs.fill_prefixes.Goals as goal

pub loop-base-init : goal.loop-base-init
loop-base-init c = lines_start _ _

pub loop-t-preserved : goal.loop-t-preserved
loop-t-preserved c =
    line_more c.args.n c.loop-base.base c.loop-t.t c.loop-base.s c.loop-t.s (c.loop-base.invariant.begins (omega arith)) (omega arith) (omega arith)
    c.loop-t.invariant

pub loop-base-preserved : goal.loop-base-preserved
loop-base-preserved c =
    let all : c.loop-t.t ≡ c.min-m.result = omega arith in
    let line : LineFilled c.args.n c.loop-base.base c.loop-base.s c.loop-t.s (c.loop-base.base + c.min-m.result) =
    line_done c.args.n c.loop-base.base c.min-m.result c.loop-base.s c.loop-t.s (omega arith) (omega arith) c.loop-t.auto.s (rw all at c.loop-t.invariant) in
    let next : c.loop-base.base + c.min-m.result ≡ c.loop-base.base + (c.args.n + 1) = omega arith in
    rw next at (line_next c.args.n c.args.s.now c.loop-base.base c.loop-base.s c.loop-t.s _ (omega arith) c.loop-base.invariant line)
