-- `columns::columns` meets its contract. The invariant of its loop: the run so far kept the rules across the values, which hold at the prefixes below t
-- where nothing was stored. The measure is n + 1 less t. `columns_more` is the turn. Assumes nothing.
use mathlib.Core.Path.{◌≡◌, refl}
use Prim.Native.Nat.{◌+◌}
use native.Mathlib.Omega.{arith}
use Rattle.columns.proofs.ColumnsLaws.{columns_more}
use Rattle.columns.proofs.columns.Goals as goal

pub loop-t-preserved : goal.loop-t-preserved
loop-t-preserved c =
    let next : c.min-end.result ≡ c.loop-t.t + 8 = omega arith in
    rw next at (columns_more _ _ _ c.min-end.result (omega arith) c.loop-t.invariant c.in_ok-changed.ensures refl)

pub returns-in_ok-changed : goal.returns-in_ok-changed
returns-in_ok-changed c =
    let last : c.min-end.result ≡ c.args.n + 1 = omega arith in
    rw last at (columns_more _ _ _ c.min-end.result (omega arith) c.loop-t.invariant c.in_ok-changed.ensures refl)
