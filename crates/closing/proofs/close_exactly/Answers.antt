-- `closing::close_exactly` meets its contract: the starting table goes to `close_table`, whose answer is the model's (`wrote_live`,
-- `wrote_dead`). Assumes nothing.
use mathlib.Core.Path.{◌≡◌, ap, ◌∙◌}
use Prim.Native.Nat.{ℕ}
use native.Mathlib.Omega.{arith}
use lib.ListN.{length, replicate}
use Rattle.closing_model.specs.Start.{entries}
use Rattle.closing.proofs.CloseLaws.{wrote_live, wrote_dead}
use Rattle.closing.proofs.close_exactly.Goals as goal

pub close_table-requires : goal.close_table-requires
close_table-requires c =
    record {
      prefixes = c.slots.ensures.1;
      values = omega (arith, c.values.ensures.1);
      lowers = rw (c.slots.ensures.0, c.values.ensures.0) (c.start_table.auto.lowers ∙ c.requires.lowers);
      uppers = rw (c.slots.ensures.0, c.values.ensures.0) (c.start_table.auto.uppers ∙ c.requires.uppers);
    }

pub returns-then-close_table : goal.returns-then-close_table
returns-then-close_table c =
    wrote_live c.args.book.now _ _ _ _ c.slots.ensures.0 c.values.ensures.0 c.start_table.ensures.lowers_after c.start_table.ensures.uppers_after _ _
    (rw c.if-close_table.true at c.close_table.ensures)

pub returns : goal.returns
returns c =
    let lowers_long : length c.close_table.new.lowers ≡ entries c.args.book.now =
    c.close_table.auto.lowers ∙ c.start_table.auto.lowers ∙ c.requires.lowers in
    let uppers_long : length c.close_table.new.uppers ≡ entries c.args.book.now =
    c.close_table.auto.uppers ∙ c.start_table.auto.uppers ∙ c.requires.uppers in
    wrote_dead c.args.book.now _ _ _ _ c.slots.ensures.0 c.values.ensures.0 c.start_table.ensures.lowers_after c.start_table.ensures.uppers_after
    (rw c.if-close_table.false at c.close_table.ensures)
    (c.fill_zeros.ensures ∙ ap (λ (m : ℕ). replicate m 0) lowers_long)
    (c.fill_zeros-2.ensures ∙ ap (λ (m : ℕ). replicate m 0) uppers_long)
