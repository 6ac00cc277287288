-- `undoing::take_back` meets its contract: what `TakenBack` says of what the three bytes of a strike tell; in the common case `strike_lift` and
-- `strike_lifted`, else `strike_upper` or `strike_several`, then `strike_row` and `strike_undone`. Assumes nothing.
use mathlib.Core.Path.{◌≡◌, refl, ◌∙◌}
use mathlib.Core.List.{List}
use Prim.Native.Nat.{ℕ, ◌+◌, ◌*◌, ◌<◌}
use native.Mathlib.Omega.{arith}
use lib.ListN.{length, get_or}
use Rattle.undoing.specs.Undone.{UpperUndone, StrikeUndoing}
use Rattle.undoing.proofs.UndoneLaws.{strike_upper, strike_several, strike_row, strike_put, strike_undone, strike_lift, strike_lifted}
use Rattle.undoing.proofs.UndoneLaws.{short_value, short_tag, short_several, short_end}
use Rattle.undoing.proofs.take_back.Goals as goal
use Rattle.undoing.proofs.take_back.Goals.{Joined-both-ge128, then-both-ge128, else-both-ge128}

-- where the second byte is below 32: the right end that the strike lowered
short_place : {masks cells trail : List ℕ} {n k i : ℕ} → StrikeUndoing masks cells trail n k i → get_or trail (2 * n + 3 * i + 1) 0 < 32
    → (get_or trail (2 * n + 3 * i + 1) 0 * (n + 2) + get_or trail (2 * n + 3 * i + 2) 0 + 2 < length cells)
    × (get_or cells (get_or trail (2 * n + 3 * i + 1) 0 * (n + 2) + get_or trail (2 * n + 3 * i + 2) 0 + 2) 0 < 1024)
short_place {masks} {cells} {trail} {n} {k} {i} undoing short =
    let both = get_or trail (2 * n + 3 * i + 1) 0 in
    strike_lift undoing refl (short_value refl short) (short_several refl short) (short_tag refl short) (short_end refl short (both * (n + 2)) refl)

-- the cells, once the upper fall is taken back or there was none
upper_back : (c : Joined-both-ge128) → (length c.if-both-ge128.cells ≡ length c.args.cells.now)
    × UpperUndone c.args.masks.now c.args.cells.now c.args.trail.now c.args.n c.args.k
    (get_or c.args.trail.now (2 * c.args.n + 3 * c.args.i) 0) c.if-both-ge128.cells
upper_back c =
    elim c.if-both-ge128.branch [
      | then-both-ge128 w ↦ rw w.cells-is (w.raise_fixed.auto.cells, w.raise_fixed.ensures)
      | else-both-ge128 w ↦ rw w.cells-is (refl, strike_several c.requires refl refl (omega (arith, w.if-both-ge128.false)))
    ]

pub lift_cell-requires : goal.lift_cell-requires
lift_cell-requires c = short_place c.requires c.if-both-lt32.true

pub put_in-requires : goal.put_in-requires
put_in-requires c = strike_put c.requires refl (short_value refl c.if-both-lt32.true)

pub returns-then-both-lt32 : goal.returns-then-both-lt32
returns-then-both-lt32 c =
    let short = c.if-both-lt32.true in
    strike_lifted c.requires refl (short_value refl short) (short_several refl short) (short_tag refl short) (short_end refl short _ refl)
    c.lift_cell.ensures c.put_in.ensures

pub raise_fixed-requires : goal.raise_fixed-requires
raise_fixed-requires c = strike_upper c.requires refl refl (omega (arith, c.if-both-ge128.true))

pub raise_row-requires : goal.raise_row-requires
raise_row-requires c =
    let upper = upper_back (goal.at.raise_row-requires c).Joined-both-ge128 in
    strike_row c.requires refl refl upper.0 upper.1 refl refl

pub put_in-requires-2 : goal.put_in-requires-2
put_in-requires-2 c = strike_put c.requires refl refl

pub shape_of-cells : goal.shape_of-cells
shape_of-cells c = c.raise_row.auto.cells ∙ (upper_back (goal.at.shape_of-cells c).Joined-both-ge128).0

pub returns : goal.returns
returns c =
    let upper = upper_back (goal.at.returns c).Joined-both-ge128 in
    strike_undone c.requires refl refl upper.0 upper.1 refl refl c.raise_row.ensures c.put_in-2.ensures
