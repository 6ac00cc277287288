-- `domains::is_wide` meets its contract: m has more than two values just where more than one is left without its lowest (`ones_clear_bit`).
-- Assumes nothing.
use mathlib.Core.Path.{◌≡◌, sym, ap, ◌∙◌}
use mathlib.Core.Logic.{dite}
use Prim.Native.Nat.{◌+◌}
use native.Mathlib.Decide.{dec_le}
use native.Mathlib.Omega.{arith}
use borrow.Author.Tests.{lt-ltb, le-ltb}
use lib.Count.{ones}
use Rattle.domains.proofs.MaskLaws.{ones_none, ones_clear_bit}
use Rattle.domains.proofs.is_wide.Goals as goal

pub returns-then-m-eq0 : goal.returns-then-m-eq0
returns-then-m-eq0 c = sym (le-ltb 2 (ones c.before.args.m) (omega (arith, ap ones c.if-m-eq0.true, ones_none)))

pub returns : goal.returns
returns c =
    let m = c.before.before.before.before.args.m in
    let w = c.before.before.lowest.result in
    let x = c.count.result in
    let more : ones m ≡ x + 1 =
    omega (arith, c.count.ensures, ap ones c.before.less.ensures, ones_clear_bit m w, c.before.before.lowest.ensures.1.has) in
    dite (dec_le x 1) (λ few. le-ltb 1 x few ∙ sym (le-ltb 2 (ones m) (omega (arith, few, more))))
    (λ many. lt-ltb 1 x (omega (arith, many)) ∙ sym (lt-ltb 2 (ones m) (omega (arith, many, more))))
