-- `state_stores::close_slot` meets its contract: what `domains::less` leaves of the slot's word is stored. Assumes nothing.
use mathlib.Core.Path.{ap}
use Prim.Native.Nat.{ℕ, ◌%◌}
use native.Mathlib.Omega.{arith}
use lib.ListN.{get_or, set}
use Rattle.domains.proofs.MaskLaws.{clear_bit_le}
use Rattle.filter_model.specs.Open.{word_at}
use Rattle.state_stores.proofs.close_slot.Goals as goal

pub less-requires : goal.less-requires
less-requires c = (omega arith, c.requires.3)

pub overflow_cast-cells-2 : goal.overflow_cast-cells-2
overflow_cast-cells-2 c = omega (arith, c.less.ensures, clear_bit_le (get_or c.args.cells.now (word_at c.args.n c.args.k c.args.slot) 0) (c.args.slot % 16))

pub returns : goal.returns
returns c = ap (λ (m : ℕ). set c.args.cells.now (word_at c.args.n c.args.k c.args.slot) m) c.less.ensures
