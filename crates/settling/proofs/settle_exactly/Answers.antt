-- `settling::settle_exactly` meets its contract: what `settles` answers is the outcome of the book (`wrote_live`, `wrote_dead`), and where it is
-- dead the masks are cleared. Assumes nothing.
use mathlib.Core.Path.{ap, ◌∙◌}
use Prim.Native.Nat.{ℕ}
use lib.ListN.{replicate}
use Rattle.settle_fault.proofs.SettleLaws.{wrote_live, wrote_dead}
use Rattle.settling.proofs.settle_exactly.Goals as goal

pub returns-then-settles : goal.returns-then-settles
returns-then-settles c =
    let settled = c.settles in
    wrote_live _ settled.new.masks _ settled.ensures c.if-settles.true

pub returns : goal.returns
returns c =
    let settled = c.settles in
    wrote_dead _ settled.new.masks _ _ settled.ensures c.if-settles.false
    (c.clear_masks.ensures ∙ ap (λ (m : ℕ). replicate m 0) (settled.auto.masks ∙ c.requires.masks))
