-- `elements::write` meets its contract: a turn is `written_more`, of the numbers that the elements are. Assumes nothing.
use mathlib.Core.Path.{◌≡◌, sym, ap, ◌∙◌}
use mathlib.Core.List.{map}
use Prim.Native.Nat.{ℕ, ◌*◌}
use lib.ListN.{get_or}
use lib.Seq.{sets}
use Rattle.std.proofs.lemmas.List.{length-map, get_or-map}
use Rattle.elements.specs.Elements.{digits}
use Rattle.elements.proofs.ElementsLaws.{written_none, written_more}
use Rattle.elements.proofs.write.Goals as goal

pub loop-i-init : goal.loop-i-init
loop-i-init g c = written_none g.row.W (map g.Number.Element.value c.args.xs.now) c.args.out.now

pub loop-i-preserved : goal.loop-i-preserved
loop-i-preserved g c =
    let value : g.row.Number.Denot → ℕ = g.Number.Element.value in
    let xs = c.args.xs.now in
    let i : ℕ = c.loop-i.i in
    let number : value c.index-xs-i.result ≡ get_or (map value xs) i 0 =
    ap value c.index-xs-i.is ∙ sym (get_or-map value xs i c.index-xs-i.result 0 c.loop-i-test.true)
    in
    written_more g.row.W i (rw length-map c.loop-i-test.true) (rw length-map c.requires) c.loop-i.invariant
    (c.put.ensures ∙ ap (λ (x : ℕ). sets c.loop-i.out (g.row.W * i) (digits g.row.W x)) number)
