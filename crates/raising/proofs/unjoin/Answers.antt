-- `raising::unjoin` meets its contract: the cell at p is no link (`parted_end`), it leads past n (`parted_past`), or the right end that it leads to is parted
-- (`parted_some`). Assumes nothing.
use mathlib.Core.Path.{refl, sym, ◌∙◌}
use native.Mathlib.Omega.{arith}
use Rattle.segments_model.proofs.RaiseLaws.{parted_end, parted_past, parted_some}
use Rattle.raising.proofs.unjoin.Goals as goal

pub returns-then-c-lt1024 : goal.returns-then-c-lt1024
returns-then-c-lt1024 c = sym (parted_end _ _ _ refl c.if-c-lt1024.true)

pub returns-then-n-t : goal.returns-then-n-t
returns-then-n-t c = sym (parted_past _ _ _ refl (omega arith) (omega arith))

pub returns : goal.returns
returns c =
    let args = c.args in
    c.split.ensures ∙ sym (parted_some args.n args.p args.cells.now refl (omega arith) (omega arith) (omega arith))
