-- `state_stores::open_slot` meets its contract: the sum that it stores is that of `domains::with`, and it fits a word (`put_lt`). Assumes nothing.
use mathlib.Core.Path.{ap}
use Prim.Native.Nat.{ℕ, ◌%◌}
use native.Mathlib.Omega.{arith}
use lib.ListN.{get_or, set}
use Rattle.domains.proofs.MaskLaws.{put_lt}
use Rattle.filter_model.specs.Open.{word_at}
use Rattle.state_stores.proofs.open_slot.Goals as goal

pub with-requires : goal.with-requires
with-requires c = (omega arith, c.requires.3)

pub overflow_cast-cells-2 : goal.overflow_cast-cells-2
overflow_cast-cells-2 c =
    let word = get_or c.args.cells.now (word_at c.args.n c.args.k c.args.slot) 0 in
    omega (arith, c.with.ensures, put_lt 16 word (c.args.slot % 16) (omega arith) (omega arith) c.requires.3)

pub returns : goal.returns
returns c = ap (λ (m : ℕ). set c.args.cells.now (word_at c.args.n c.args.k c.args.slot) m) c.with.ensures
