-- `kept::open_in::open_exactly` meets its contract: the arrays have room for every book (`ready_openable`), and the answer is that of the opening
-- (`opened_shut`, `opened_live`). Assumes nothing.
use mathlib.Core.List.{[]}
use Rattle.acts.proofs.RepresentsLaws.{represents_idle}
use Rattle.kept_model.proofs.EntriesLaws.{opened_shut, opened_live}
use Rattle.kept.proofs.open_in.open_exactly.Goals as goal

pub write_numbers-requires : goal.write_numbers-requires
write_numbers-requires c =
    let after = c.open_session-fresh.ensures.represents [] in
    (c.requires.numbers_sized, after.top_fits, represents_idle after)

pub returns-then-is_shut : goal.returns-then-is_shut
returns-then-is_shut c =
    opened_shut c.open_session-fresh.result c.is_shut.result c.is_shut.ensures c.open_session-fresh.ensures
    (rw (c.slots.ensures.0, c.values.ensures.0) at c.write_numbers.ensures) c.if-is_shut.true

pub returns : goal.returns
returns c =
    opened_live c.open_session-fresh.result c.is_shut.result c.is_shut.ensures c.open_session-fresh.ensures
    (rw (c.slots.ensures.0, c.values.ensures.0) at c.write_numbers.ensures) c.if-is_shut.false
