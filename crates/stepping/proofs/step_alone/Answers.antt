-- `stepping::step_alone` meets its contract: what an arm's call needs follows, since no number refuses it (`steps_performing`), and a call of no known
-- kind is refused (`unknown_refused`). Assumes nothing.
use mathlib.Core.Bool.{true, false}
use mathlib.Core.Path.{ap}
use Rattle.calls.specs.Given.{call_given}
use Rattle.performing.proofs.PerformLaws.{decide_deciding, mark_marking, back_backing, show_inside, walls_counting, unknown_refused}
use Rattle.stepping.proofs.StepLaws.{steps_performing}
use Rattle.stepping.proofs.step_alone.Goals as goal

pub decide-requires : goal.decide-requires
decide-requires c =
    decide_deciding true _ _ (ap call_given c.in-Assign.is) (steps_performing c.is_dead-dead.ensures c.in_default.ensures c.requires)

pub decide-requires-in-Remove : goal.decide-requires-in-Remove
decide-requires-in-Remove c =
    decide_deciding false _ _ (ap call_given c.in-Remove.is) (steps_performing c.is_dead-dead.ensures c.in_default.ensures c.requires)

pub mark-requires : goal.mark-requires
mark-requires c = mark_marking (ap call_given c.in-Mark.is) (steps_performing c.is_dead-dead.ensures c.in_default.ensures c.requires)

pub back-requires : goal.back-requires
back-requires c = back_backing (ap call_given c.in-Back.is) (steps_performing c.is_dead-dead.ensures c.in_default.ensures c.requires)

pub show-requires : goal.show-requires
show-requires c = show_inside _ (ap call_given c.in-Show.is) (steps_performing c.is_dead-dead.ensures c.in_default.ensures c.requires)

pub walls-requires : goal.walls-requires
walls-requires c =
    walls_counting false _ (ap call_given c.in-UpperWalls.is) (steps_performing c.is_dead-dead.ensures c.in_default.ensures c.requires)

pub walls-requires-in-LowerWalls : goal.walls-requires-in-LowerWalls
walls-requires-in-LowerWalls c =
    walls_counting true _ (ap call_given c.in-LowerWalls.is) (steps_performing c.is_dead-dead.ensures c.in_default.ensures c.requires)

pub unreachable-requires : goal.unreachable-requires
unreachable-requires c = unknown_refused (ap call_given c.in-Unknown.is) (steps_performing c.is_dead-dead.ensures c.in_default.ensures c.requires)
