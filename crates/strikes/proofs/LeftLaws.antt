-- What a strike leaves at its slot: what was there without the value (`removed_left`). No contract cites this file. Assumes nothing.
use mathlib.Core.Path.{◌≡◌, sym, ap, ◌∙◌}
use mathlib.Core.Logic.{dite}
use mathlib.Core.List.{List}
use Prim.Native.Nat.{ℕ, ◌+◌, ◌-◌, ◌^◌, ◌<◌}
use native.Mathlib.Decide.{ℕ_discrete}
use native.Mathlib.Omega.{arith}
use lib.ListN.{length, get_or}
use lib.Seq.{get_or-set_same, get_or-set_other}
use Rattle.domains.specs.Mask.{test_bit, clear_bit}
use Rattle.domains.specs.Masks.{HasAt}
use Rattle.domains.proofs.MaskLaws.{test_bit_put_other, clear_bit_put}
use Rattle.filter_model.specs.State.{Removed}
use Rattle.filter_model.specs.Trail.{put_in, Restores}
use Rattle.filter_model.proofs.TrailLaws.{restores_done, restores_next}

put_left : (M M' : List ℕ) (s u slot v : ℕ) → M ≡ put_in M' s u → s < length M' → test_bit (get_or M' s 0) u ≡ 0 → HasAt M slot v
    → test_bit (get_or M' slot 0) v ≡ 0
    → get_or M' slot 0 ≡ clear_bit (get_or M slot 0) v
put_left M M' s u slot v put inside lacks has gone =
    let has' : HasAt (put_in M' s u) slot v = rw put at has in
    rw put
    (dite (ℕ_discrete slot s)
    (λ same.
    let at_s : get_or (put_in M' s u) slot 0 ≡ get_or M' s 0 + 2 ^ u = rw same (get_or-set_same M' s (get_or M' s 0 + 2 ^ u) 0 inside) in
    let gone' : test_bit (get_or M' s 0) v ≡ 0 = rw same at gone in
    dite (ℕ_discrete v u) (λ v≡u. rw (at_s, v≡u, same) (sym (clear_bit_put (get_or M' s 0) u lacks)))
    (λ v≢u.
    absurd (omega (arith, has', ap (λ (x : ℕ). test_bit x v) at_s, test_bit_put_other (get_or M' s 0) u v lacks v≢u, gone'))))
    (λ other.
    absurd (omega (arith, has', ap (λ (x : ℕ). test_bit x v) (get_or-set_other M' s slot (get_or M' s 0 + 2 ^ u) 0 other), gone))))

pub removed_left : {n k : ℕ} {masks cells trail : List ℕ} {top : ℕ} {masks' cells' trail' : List ℕ} {slot v x a y b w : ℕ}
    → Removed n k masks cells trail top masks' cells' trail' slot v x a y b w → HasAt masks slot v
    → get_or masks' slot 0 ≡ clear_bit (get_or masks slot 0) v
removed_left {n} {k} {masks} {cells} {trail} {top} {masks'} {cells'} {trail'} {slot} {v} removed has =
    let one : top + 1 - top ≡ 1 = omega arith in
    let back : Restores n k trail' top 1 masks' cells' masks cells = rw one at removed.moved.trailed.back in
    let next = restores_next n k trail' top 0 masks' cells' masks cells back in
    let same = (restores_done n k trail' top next.masks next.cells masks cells next.rest).0 in
    put_left masks masks' _ _ slot v (sym same ∙ next.taken.masks_are) next.taken.inside next.taken.lacks has removed.cut.lacks
