-- `filling::fill` meets its contract. The loop's invariant: the places below the index hold x, and the rest is as lent. `fill_more` is the turn.
-- Assumes nothing.
use mathlib.Core.Path.{◌≡◌, sym, ap, ◌∙◌}
use mathlib.Core.List.{List, ◌++◌}
use Prim.Native.Nat.{ℕ, suc, ◌+◌, ◌<◌}
use native.Mathlib.Numerals.{add-one}
use lib.ListN.{length, get_or, set, drop, replicate, length-replicate}
use lib.Seq.{set_at, drop-cons, append_snoc}
use Rattle.std.proofs.lemmas.List.{replicate_more}
use Rattle.filling.proofs.fill.Goals as goal

fill_more : {X : Type 0} (l : List X) (p : ℕ) (x : X) → p < length l → set (replicate p x ++ drop p l) p x ≡ replicate (p + 1) x ++ drop (p + 1) l
fill_more {X} l p x inside =
    rw (add-one, drop-cons l p x)
    (set_at (replicate p x) (get_or l p x) (drop (suc p) l) x p (length-replicate p x) ∙ sym (append_snoc (replicate p x) x (drop (suc p) l))
    ∙ ap (λ (front : List X). front ++ drop (suc p) l) (replicate_more p x ∙ ap (λ (j : ℕ). replicate j x) (add-one p)))

pub loop-place-preserved : goal.loop-place-preserved
loop-place-preserved g c = rw c.loop-place.invariant (fill_more c.args.s.now c.loop-place.place-index c.args.x c.loop-place-test.true)
