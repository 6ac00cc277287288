-- The trail, a list of bytes: first two for each of the n slots, the note (byte s) and the tag (byte n + s) of the upper fall that was made when the
-- slot got its only value; then three for each value that was struck, the latest on top: the slot, the value with 32 times the strike's tag, and
-- the note of the lower fall. A strike's tag is that of the lower fall, and 4 more just where the strike left the slot one value. What a fall's tag
-- and note tell is in segments_model's `specs/Raise.antt`.
--   slot_at, value_at, tag_at, note_at   what the three bytes of the strike i tell
--   written n trail i ..       the trail with the strike i written: its tag g and note x
--   noted n trail slot g x     the trail with the slot's own tag g and note x
--   put_in M slot v             M with v put into the slot
--   RowRaised n row slot g x ..  the row's fall after the slot is taken back by the tag g and the note x
--   UpperRaised n k trail ..   where the slot is fixed in M', it is put into the set of open slots, and the fall of its value's upper row is taken
--                              back
--   TakenBack n k trail ..     a strike of v at the slot, with the tag g and the note x, is taken back, from M' and cells' to M and cells: such an
--                              upper fall, then the fall of v's lower row, and v is put in
--   StrikeBack n k trail i     the strike i is taken back
--   Restores n k trail from j  the j strikes from `from` on, taken back the latest first, lead from M' and cells' to M and cells
--   Kept n M trail h trail'    the strikes below h are the same, and the notes and tags of the slots that have one value, or none, in M
--   Trailed n k M cells trail top ..   from M and cells at height top to M' and cells' at height h: the strikes from top on, taken back, lead to
--                                      M and cells, and what those below need is kept
-- No other definition looks into the trail; `trailed_trans` is its law of transitivity.
-- Assumes nothing.
use Rattle.std.specs.Prelude.{◌≡◌, List, ℕ, zero, suc, ◌+◌, ◌-◌, ◌*◌, ◌/◌, ◌%◌, ◌^◌, ◌≤◌, ◌<◌, length, get_or, set}
use Rattle.std.specs.Int.Count.{ones}
use Rattle.domains.specs.Masks.{FixedAt}
use Rattle.settling_model.specs.Settled.{LacksAt}
use Rattle.segments_model.specs.Part.{part, over}
use Rattle.segments_model.specs.Raise.{risen, Raisable}
use Rattle.filter_model.specs.Open.{open_bit, open_slot}

abbrev pub slot_at : ℕ → List ℕ → ℕ → ℕ
slot_at n trail i = get_or trail (2 * n + 3 * i) 0

abbrev pub value_at : ℕ → List ℕ → ℕ → ℕ
value_at n trail i = get_or trail (2 * n + 3 * i + 1) 0 % 32

abbrev pub tag_at : ℕ → List ℕ → ℕ → ℕ
tag_at n trail i = get_or trail (2 * n + 3 * i + 1) 0 / 32

abbrev pub note_at : ℕ → List ℕ → ℕ → ℕ
note_at n trail i = get_or trail (2 * n + 3 * i + 2) 0

abbrev pub written : ℕ → List ℕ → ℕ → ℕ → ℕ → ℕ → ℕ → List ℕ
written n trail i slot v g x = set (set (set trail (2 * n + 3 * i) slot) (2 * n + 3 * i + 1) (v + 32 * g)) (2 * n + 3 * i + 2) x

abbrev pub noted : ℕ → List ℕ → ℕ → ℕ → ℕ → List ℕ
noted n trail slot g x = set (set trail slot x) (n + slot) g

abbrev pub put_in : List ℕ → ℕ → ℕ → List ℕ
put_in M slot v = set M slot (get_or M slot 0 + 2 ^ v)

pub record RowRaised (n row slot g x : ℕ) (cells' cells : List ℕ) : Type 0 where
  pub raisable : Raisable (n + 1) slot g x (part (row * (n + 2)) (n + 2) cells')
  pub is : cells ≡ over (row * (n + 2)) (n + 2) (risen (n + 1) g x) cells'

pub record UpperRaised (n k : ℕ) (trail M' : List ℕ) (slot : ℕ) (cells' cells : List ℕ) : Type 0 where
  pub fixed : (w : ℕ) → FixedAt M' slot w → (w < k) × (open_bit n k cells' slot ≡ 0)
      × RowRaised n (k + w) slot (get_or trail (n + slot) 0) (get_or trail slot 0) (open_slot n k slot cells') cells
  pub free : ((w : ℕ) → FixedAt M' slot w → ⊥) → cells ≡ cells'

pub record TakenBack (n k : ℕ) (trail : List ℕ) (slot v g x : ℕ) (M' cells' M cells : List ℕ) : Type 0 where
  pub slot_in : slot < n
  pub inside : slot < length M'
  pub value_in : v < k
  pub lacks : LacksAt M' slot v
  pub masks_are : M ≡ put_in M' slot v
  -- the tag tells whether one value is left
  pub single : 4 ≤ g → ones (get_or M' slot 0) ≡ 1
  pub several : g < 4 → ones (get_or M' slot 0) ≡ 1 → ⊥
  -- the cells between the two
  pub between : List ℕ
  pub upper : UpperRaised n k trail M' slot cells' between
  pub lower : RowRaised n v slot (g % 4) x between cells

abbrev pub StrikeBack : ℕ → ℕ → List ℕ → ℕ → List ℕ → List ℕ → List ℕ → List ℕ → Type 0
StrikeBack n k trail i M' cells' M cells = TakenBack n k trail (slot_at n trail i) (value_at n trail i) (tag_at n trail i) (note_at n trail i) M' cells' M cells

unfoldable pub Restores : ℕ → ℕ → List ℕ → ℕ → ℕ → List ℕ → List ℕ → List ℕ → List ℕ → Type 0
Restores n k trail from zero M' cells' M cells = (M' ≡ M) × (cells' ≡ cells)
Restores n k trail from (suc j) M' cells' M cells =
    (M₁ : List ℕ) × (cells₁ : List ℕ)
    × StrikeBack n k trail (from + j) M' cells' M₁ cells₁ × Restores n k trail from j M₁ cells₁ M cells

pub record Kept (n : ℕ) (M trail : List ℕ) (h : ℕ) (trail' : List ℕ) : Type 0 where
  pub below : (i : ℕ) → 2 * n ≤ i → i < 2 * n + 3 * h → get_or trail' i 0 ≡ get_or trail i 0
  pub notes : (s : ℕ) → s < n → ones (get_or M s 0) ≤ 1 → get_or trail' s 0 ≡ get_or trail s 0
  pub tags : (s : ℕ) → s < n → ones (get_or M s 0) ≤ 1 → get_or trail' (n + s) 0 ≡ get_or trail (n + s) 0

pub record Trailed (n k : ℕ) (M cells trail : List ℕ) (top : ℕ) (M' cells' trail' : List ℕ) (h : ℕ) : Type 0 where
  pub size : length trail' ≡ length trail
  pub up : top ≤ h
  pub kept : Kept n M trail top trail'
  pub back : Restores n k trail' top (h - top) M' cells' M cells
