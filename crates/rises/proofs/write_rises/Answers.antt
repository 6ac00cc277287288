-- `rises::write_rises` meets its contract. The loop's invariant: the front of the list has the masks of the values below v. The law that does the work
-- is `rises_over`: of masks written over masks only the later ones are seen. Assumes nothing.
use mathlib.Core.Path.{◌≡◌, refl, sym, ◌∙◌}
use native.Mathlib.Omega.{arith}
use Rattle.rises.specs.Rises.{over_rises}
use Rattle.rises.proofs.RisesLaws.{over_rises_none, rises_over, holds_fewer, over_rises_marks}
use Rattle.rises.proofs.write_rises.Goals as goal

pub loop-v-init : goal.loop-v-init
loop-v-init c =
    let a = c.args in
    let cleared : c.clear.new.rises ≡ over_rises a.n 0 a.table.now a.rises.now = c.clear.ensures ∙ over_rises_none a.n a.table.now a.rises.now in
    cleared ∙ sym (rises_over a.n 0 0 a.table.now a.rises.now cleared refl)

pub note_value-requires : goal.note_value-requires
note_value-requires c = (holds_fewer _ _ _ _ (omega arith) c.requires.0, over_rises_marks _ _ _ _ c.loop-v.invariant (omega arith))
