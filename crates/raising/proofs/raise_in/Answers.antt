-- `raising::raise_in` meets its contract: the part that was lent to `raise` came back into its place (`lent`, `over_lent`). Assumes nothing.
use Prim.Native.Nat.{◌+◌}
use native.Mathlib.Omega.{arith}
use Rattle.segments_model.specs.Raise.{Raisable}
use Rattle.segments_model.proofs.PartLaws.{part_mid}
use borrow.Author.Rules.{rules}
use Rattle.raising.proofs.raise_in.Goals as goal

pub raise-requires : goal.raise-requires
raise-requires c =
    let pre = c.requires in
    let args = c.args in
    let raisable = part_mid args.base args.n (λ l. Raisable (args.n + 1) args.slot args.tag args.note l) args.cells.now pre.3 in
    (omega (arith, pre.0), search rules, omega (arith, pre.2), raisable)
