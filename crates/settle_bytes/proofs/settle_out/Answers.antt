-- `settle_bytes::settle_out` meets its contract: what `settle_exactly` leaves in words is written out as bytes (`settles_wrote`).
-- Assumes nothing.
use mathlib.Core.Path.{sym, ap, ◌∙◌}
use mathlib.Core.List.{◌++◌}
use Prim.Native.Nat.{ℕ}
use lib.ListN.{drop}
use Rattle.elements.specs.Elements.{bytes_of}
use Rattle.elements.proofs.ElementsLaws.{length_bytes_of}
use Rattle.settle_fault.proofs.SettleLaws.{settles_wrote}
use Rattle.settle_bytes.proofs.settle_out.Goals as goal

pub returns : goal.returns
returns c =
    let settled = c.settle_exactly-verdict in
    let words = settled.new.masks in
    let front = ap (λ (j : ℕ). bytes_of 4 words ++ drop j c.args.masks.now) (sym (length_bytes_of 4 words)) in
    settles_wrote (bytes_of 4) _ settled.result settled.ensures (c.write32.ensures ∙ front)
