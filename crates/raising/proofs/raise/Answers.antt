-- `raising::raise` meets its contract: each of its three returns is a tag of `risen`, by the laws of segments_model's RaiseLaws. Assumes nothing.
use mathlib.Core.Path.{refl, sym, ◌∙◌}
use native.Mathlib.Omega.{arith}
use Rattle.segments_model.proofs.RaiseLaws.{risen_lowered, risen_joined, risen_spent}
use Rattle.raising.proofs.raise.Goals as goal

pub overflow_add-note : goal.overflow_add-note
overflow_add-note c = omega (arith, c.requires.2, c.requires.3.inside c.if-tag-lt2.true)

pub lift-requires : goal.lift-requires
lift-requires c = (omega (arith, c.requires.1, c.requires.3.inside c.if-tag-lt2.true), c.requires.3.fits c.if-tag-lt2.true)

pub returns-then-tag-lt2 : goal.returns-then-tag-lt2
returns-then-tag-lt2 c = c.lift.ensures ∙ sym (risen_lowered _ _ _ c.if-tag-lt2.true)

pub unjoin-requires : goal.unjoin-requires
unjoin-requires c = (omega (arith, c.requires.0, c.requires.3.low c.if-tag-lt2.false), c.requires.1, c.requires.2)

pub returns-then-tag-eq2 : goal.returns-then-tag-eq2
returns-then-tag-eq2 c = c.unjoin.ensures ∙ sym (risen_joined _ _ _ c.if-tag-eq2.true)

pub unspend-requires : goal.unspend-requires
unspend-requires c = omega (arith, c.requires.0, c.requires.1, c.requires.2, c.requires.3.low c.if-tag-lt2.false, c.requires.3.spent)

pub returns : goal.returns
returns c = c.unspend.ensures ∙ sym (risen_spent _ _ _ c.if-tag-lt2.false c.if-tag-eq2.false refl)
