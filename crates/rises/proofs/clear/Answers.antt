-- `rises::clear` meets its contract: as many zeros are one empty mask for each prefix length. Assumes nothing.
use Prim.Native.Nat.{◌+◌}
use native.Mathlib.Omega.{arith}
use Rattle.std.proofs.lemmas.List.{length-take-le}
use Rattle.filling.proofs.FillLaws.{list_of_const}
use Rattle.rises.proofs.clear.Goals as goal

pub returns : goal.returns
returns c = rw (c.fill.ensures, list_of_const (c.args.n + 1) 0, length-take-le (c.args.n + 1) c.args.rises.now (omega arith))
