-- `kept::numbers::write_numbers` meets its contract: seven stores (`numbers_stored`). Assumes nothing.
use Rattle.kept_model.proofs.MemoryLaws.{numbers_stored}
use Rattle.kept.proofs.numbers.write_numbers.Goals as goal

pub returns : goal.returns
returns c =
    rw (c.top_and_idle.ensures, c.standing_number.ensures, c.dead_call.ensures)
    (numbers_stored c.args.numbers.now c.args.n c.args.k c.args.made _ _ c.args.session.marks _ c.requires.0)
