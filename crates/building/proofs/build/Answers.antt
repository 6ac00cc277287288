-- `building::build` meets its contract: what `blank` left, `count_all` counted and `insert` put in at n + 1 is what `fill` asks for (`done_first`), and
-- the list is as long as it was. Assumes nothing.
use mathlib.Core.Path.{refl, ◌∙◌}
use mathlib.Core.Bool.{true}
use native.Mathlib.Omega.{arith}
use Rattle.segments_model.proofs.CountsLaws.{choice_bound}
use Rattle.building.proofs.BuiltLaws.{done_first}
use Rattle.building.proofs.build.Goals as goal

pub reserve-slack-requires : goal.reserve-slack-requires
reserve-slack-requires c = (c.requires.3, choice_bound c.count_all-total.ensures true)

pub fill-requires : goal.fill-requires
fill-requires c =
    let blanked = c.blank.ensures in
    let start = c.requires in
    let counts = c.count_all-total.ensures in
    let inserted = c.insert-first.ensures in (
      omega (arith, blanked.0, inserted.size, start.0),
      start.1,
      start.2,
      start.3,
      start.4,
      counts,
      done_first counts c.reserve-slack.ensures.0 _ _ _ _ refl (omega (arith, blanked.0, start.0)) blanked.1 blanked.2 inserted,
    )

pub returns : goal.returns
returns c =
    let filled = c.fill.ensures in
    record { size = filled.size ∙ c.insert-first.ensures.size ∙ c.blank.ensures.0; answer = filled.answer }
