-- The laws of `specs/Undone.antt`: one strike (`upper_undone`, `strike_undone`; `strike_lifted`, the common one), the strikes one by one
-- (`putting_start`, `putting_next`, `putting_step`, `putting_end`), and what a session cites: after any call of the filter, Live or Dead, its strikes may be taken back
-- (`moved_undoable`), and that gives the masks and the cells at its entry (`moved_undone`). No contract cites this file. Assumes nothing.
use mathlib.Core.Path.{◌≡◌, refl, sym, ap, ◌∙◌}
use mathlib.Core.List.{List}
use Prim.Native.Nat.{ℕ, suc, ◌+◌, ◌-◌, ◌*◌, ◌/◌, ◌%◌, ◌^◌, ◌≤◌, ◌<◌}
use native.Mathlib.Nat.{le_refl}
use native.Mathlib.Omega.{arith}
use lib.Count.{ones}
use lib.ListN.{length, get_or, set, take, drop, length-set}
use lib.Seq.{get_or-set_other, take-set-lt, drop-set-add, get_or-take, get_or-drop}
use Rattle.domains.specs.Mask.{Fixed}
use Rattle.settling_model.specs.Settled.{LacksAt}
use Rattle.segments_model.specs.Part.{part, over}
use Rattle.segments_model.specs.Raise.{end_of, lifted, risen}
use Rattle.segments_model.proofs.PartLaws.{over_lent}
use Rattle.segments_model.proofs.RaiseLaws.{risen_lowered}
use Rattle.filter_model.specs.Open.{word_at, open_bit, open_slot}
use Rattle.filter_model.specs.State.{World, Moved}
use Rattle.filter_model.specs.Trail.{slot_at, value_at, tag_at, note_at, put_in, RowRaised, TakenBack, Restores}
use Rattle.filter_model.proofs.OpenLaws.{word_inside}
use Rattle.filter_model.proofs.RowLaws.{row_inside}
use Rattle.filter_model.proofs.StateLaws.{world_moved}
use Rattle.filter_model.proofs.StoreLaws.{many_free}
use Rattle.filter_model.proofs.TrailLaws.{Next, restores_next, restores_done}
use Rattle.undoing.specs.Undone.{Sizes, RowUndoing, UpperUndoing, UpperUndone, StrikeUndoing, StrikeUndone, Undoable, Undone}

-- ---- one row
row_at_lem : (n row : ℕ) (cells : List ℕ) (i : ℕ) → i < n + 2 → get_or (part (row * (n + 2)) (n + 2) cells) i 0 ≡ get_or cells (row * (n + 2) + i) 0
row_at_lem n row cells i inside = get_or-take (n + 2) (drop (row * (n + 2)) cells) i 0 inside ∙ get_or-drop (row * (n + 2)) cells i 0

row_undoing : {masks cells cells₁ cells₂ : List ℕ} {n k slot g x : ℕ} (row : ℕ) → Sizes masks cells n k → slot < n → row < k + k
    → length cells₁ ≡ length cells → RowRaised n row slot g x cells₁ cells₂ → RowUndoing cells₁ row n slot g x
row_undoing {n = n} {k = k} row sizes slot<n row_in size raised =
    record {
      slot_in = omega arith;
      row_in = omega (arith, row_inside n (k + k) row row_in, sizes.rows, size);
      slots_fit = omega (arith, sizes.slots_fit);
      raisable = raised.raisable;
    }

-- a right end is raised in its place among all cells
row_lifted : (n row g x : ℕ) (cells : List ℕ) → row * (n + 2) + n + 1 < length cells → g < 2 → end_of g x ≤ n + 1
    → lifted (row * (n + 2) + end_of g x) cells ≡ over (row * (n + 2)) (n + 2) (risen (n + 1) g x) cells
row_lifted n row g x cells row_in lowered inside =
    let base = row * (n + 2) in
    let end = end_of g x in
    let at = base + end in
    let more = get_or cells at 0 + 1 in
    let here : get_or (part base (n + 2) cells) end 0 ≡ get_or cells at 0 = row_at_lem n row cells end (omega arith) in
    over_lent base (n + 2) (risen (n + 1) g x) {l = cells} (omega arith)
    (record {
      does =
          ap (take (n + 2)) (drop-set-add base cells end more) ∙ take-set-lt (n + 2) (drop base cells) end more (omega arith)
          ∙ sym (risen_lowered (n + 1) x (part base (n + 2) cells) lowered ∙ ap (λ (y : ℕ). set (part base (n + 2) cells) end (y + 1)) here);
      size = length-set cells at more;
      before = λ i before. get_or-set_other cells at i more 0 (λ e. absurd (omega arith));
      after = λ i after. get_or-set_other cells at i more 0 (λ e. absurd (omega arith));
    })

-- ---- the upper fall
module _ {masks cells trail : List ℕ} {n k slot m : ℕ} (m_is : m ≡ get_or masks slot 0) where
  pub upper_undone_free : (ones m ≡ 1 → ⊥) → UpperUndone masks cells trail n k slot cells
  upper_undone_free many =
      record { restored = λ before raised. sym (raised.free (λ w fixed. many_free m many w (m_is ∙ fixed))) }

  module _ (w : ℕ) (single : Fixed m w) where
    pub upper_value : UpperUndoing masks cells trail n k slot → w < k
    upper_value undoing = (undoing.raised.fixed w (sym m_is ∙ single)).0

    -- the slot's bit in its word
    pub upper_bit : UpperUndoing masks cells trail n k slot → (word_at n k slot < length cells) × (n ≤ 256) × (k ≤ 32) × (open_bit n k cells slot ≡ 0)
    upper_bit undoing =
        let sizes = undoing.sizes in (
          word_inside n k slot cells (omega (arith, undoing.slot_in, sizes.slots_fit)) sizes.rows,
          sizes.slots_fit,
          sizes.values_fit,
          (undoing.raised.fixed w (sym m_is ∙ single)).1,
        )

    module _ {cells₁ : List ℕ} (opens : cells₁ ≡ open_slot n k slot cells) where
      pub upper_row : (g x : ℕ) → g ≡ get_or trail (n + slot) 0 → x ≡ get_or trail slot 0 → UpperUndoing masks cells trail n k slot
          → RowUndoing cells₁ (k + w) n slot g x
      upper_row g x g_is x_is undoing =
          let raised = undoing.raised.fixed w (sym m_is ∙ single) in
          rw (opens, g_is, x_is)
          (row_undoing (k + w) undoing.sizes undoing.slot_in (omega (arith, raised.0))
          (length-set cells (word_at n k slot) (get_or cells (word_at n k slot) 0 + 2 ^ (slot % 16))) raised.2)

      pub upper_undone : {g x : ℕ} {cells' : List ℕ} → g ≡ get_or trail (n + slot) 0 → x ≡ get_or trail slot 0
          → cells' ≡ over ((k + w) * (n + 2)) (n + 2) (risen (n + 1) g x) cells₁ → UpperUndone masks cells trail n k slot cells'
      upper_undone g_is x_is cells_are =
          record {
            restored = λ before raised. cells_are ∙ rw (opens, g_is, x_is) (sym (raised.fixed w (sym m_is ∙ single)).2.is);
          }

-- ---- a second byte below 32: a value, with the tag 0
module _ {both b : ℕ} (both_is : both ≡ b) (short : both < 32) where
  pub short_value : both ≡ b % 32
  short_value = omega arith

  pub short_several : b / 32 < 4
  short_several = omega arith

  pub short_tag : b / 32 % 4 < 2
  short_tag = omega arith

  pub short_end : (base : ℕ) {note x : ℕ} → note ≡ x → base + note + 2 ≡ base + end_of (b / 32 % 4) x
  short_end base note_is = omega arith

-- ---- one strike; slot, v, the tag g and the note x are what its three bytes tell
module _ {masks cells trail : List ℕ} {n k i : ℕ} (undoing : StrikeUndoing masks cells trail n k i) {slot v : ℕ}
    (slot_is : slot ≡ slot_at n trail i) (v_is : v ≡ value_at n trail i) where
  taken : TakenBack n k trail slot v (tag_at n trail i) (note_at n trail i) masks cells undoing.old undoing.old_cells
  taken = rw (slot_is, v_is) undoing.taken

  -- the strike left the slot one value, or several
  pub strike_upper : 4 ≤ tag_at n trail i → UpperUndoing masks cells trail n k slot
  strike_upper four =
      record {
        sizes = undoing.sizes;
        slot_in = taken.slot_in;
        notes_in = omega (arith, undoing.strike_in);
        single = taken.single four;
        before = taken.between;
        raised = taken.upper;
      }

  pub strike_several : tag_at n trail i < 4 → UpperUndone masks cells trail n k slot cells
  strike_several below = upper_undone_free refl (taken.several below)

  module _ {cells₁ : List ℕ} (size : length cells₁ ≡ length cells) (upper : UpperUndone masks cells trail n k slot cells₁) where
    pub strike_row : {g x : ℕ} → g ≡ tag_at n trail i % 4 → x ≡ note_at n trail i → RowUndoing cells₁ v n slot g x
    strike_row g_is x_is =
        rw (g_is, x_is, upper.restored taken.between taken.upper)
        (row_undoing v undoing.sizes taken.slot_in (omega (arith, taken.value_in)) (rw (upper.restored taken.between taken.upper) at size)
        taken.lower)

    pub strike_undone : {g x : ℕ} {cells₂ masks' : List ℕ} → g ≡ tag_at n trail i % 4 → x ≡ note_at n trail i
        → cells₂ ≡ over (v * (n + 2)) (n + 2) (risen (n + 1) g x) cells₁ → masks' ≡ put_in masks slot v
        → StrikeUndone masks cells trail n k i masks' cells₂
    strike_undone g_is x_is cells_are masks_are =
        record {
          restored = λ old old_cells back.
              let same : TakenBack n k trail slot v (tag_at n trail i) (note_at n trail i) masks cells old old_cells = rw (slot_is, v_is) back in (
                masks_are ∙ sym same.masks_are,
                cells_are ∙ rw (g_is, x_is, upper.restored same.between same.upper) (sym same.lower.is),
              );
        }

  -- several values are left, and a right end was lowered
  module _ (below : tag_at n trail i < 4) (lowered : tag_at n trail i % 4 < 2) {at : ℕ}
      (at_is : at ≡ v * (n + 2) + end_of (tag_at n trail i % 4) (note_at n trail i)) where
    low_row : RowUndoing cells v n slot (tag_at n trail i % 4) (note_at n trail i)
    low_row = strike_row refl (strike_several below) refl refl

    pub strike_lift : (at < length cells) × (get_or cells at 0 < 1024)
    strike_lift =
        let inside = low_row.raisable.inside lowered in (
          omega (arith, inside, at_is, low_row.row_in),
          rw (at_is, ← row_at_lem n v cells (end_of (tag_at n trail i % 4) (note_at n trail i)) (omega (arith, inside))) (low_row.raisable.fits lowered),
        )

    pub strike_lifted : {cells₂ masks' : List ℕ} → cells₂ ≡ lifted at cells → masks' ≡ put_in masks slot v
        → StrikeUndone masks cells trail n k i masks' cells₂
    strike_lifted cells_are masks_are =
        strike_undone refl (strike_several below) refl refl
        (cells_are ∙ rw at_is (row_lifted n v _ _ cells low_row.row_in lowered (low_row.raisable.inside lowered))) masks_are

  pub strike_value : v < 32
  strike_value = omega (arith, taken.value_in, undoing.sizes.values_fit)

  pub strike_put : (slot < length masks) × (v < 32) × LacksAt masks slot v
  strike_put = (taken.inside, strike_value, taken.lacks)

-- ---- the loop: what is left to take back when it has come down to i
pub record Putting (masks₀ cells₀ trail : List ℕ) (n k from to : ℕ) (masks cells : List ℕ) (i : ℕ) : Type 0 where
  pub low : from ≤ i
  pub high : i ≤ to
  pub masks_size : length masks ≡ length masks₀
  pub cells_length : length cells ≡ length cells₀
  pub rest : (old c : List ℕ) → Restores n k trail from (to - from) masks₀ cells₀ old c → Restores n k trail from (i - from) masks cells old c

pub putting_start : (masks cells trail : List ℕ) (n k from to : ℕ) → from ≤ to → Putting masks cells trail n k from to masks cells to
putting_start masks cells trail n k from to from≤to =
    record { low = from≤to; high = le_refl to; masks_size = refl; cells_length = refl; rest = λ old c restores. restores }

module _ {masks₀ cells₀ trail masks cells : List ℕ} {n k from to i : ℕ} (putting : Putting masks₀ cells₀ trail n k from to masks cells i) where
  module _ (from<i : from < i) where
    putting_next : (old c : List ℕ) → Restores n k trail from (to - from) masks₀ cells₀ old c
        → Next n k trail from (i - 1 - from) (slot_at n trail (i - 1)) (value_at n trail (i - 1)) (tag_at n trail (i - 1)) (note_at n trail (i - 1))
        masks cells old c
    putting_next old c restores =
        let steps : i - from ≡ suc (i - 1 - from) = omega arith in
        let place : from + (i - 1 - from) ≡ i - 1 = omega arith in
        rw place at (restores_next n k trail from (i - 1 - from) masks cells old c (rw steps at (putting.rest old c restores)))

    pub putting_undoing : Undoable masks₀ cells₀ trail n k from to → StrikeUndoing masks cells trail n k (i - 1)
    putting_undoing undoable =
        let next = putting_next undoable.old undoable.old_cells undoable.restores in
        let sizes = undoable.sizes in
        record {
          sizes = record {
            slots = omega (arith, sizes.slots, putting.masks_size);
            rows = omega (arith, sizes.rows, putting.cells_length);
            slots_fit = sizes.slots_fit;
            values_fit = sizes.values_fit;
          };
          strike_in = omega (arith, undoable.upto, putting.high);
          old = next.masks;
          old_cells = next.cells;
          taken = next.taken;
        }

    pub putting_step : {masks' cells' : List ℕ} → length masks' ≡ length masks → length cells' ≡ length cells
        → StrikeUndone masks cells trail n k (i - 1) masks' cells' → Putting masks₀ cells₀ trail n k from to masks' cells' (i - 1)
    putting_step masks_size cells_length undone =
        record {
          low = omega arith;
          high = omega (arith, putting.high);
          masks_size = masks_size ∙ putting.masks_size;
          cells_length = cells_length ∙ putting.cells_length;
          rest = λ old c restores.
              let next = putting_next old c restores in
              let back = undone.restored next.masks next.cells next.taken in
              rw (back.0, back.1) next.rest;
        }

  pub putting_end : i ≤ from → Undone masks₀ cells₀ trail n k from to masks cells
  putting_end i≤from =
      let none : i - from ≡ 0 = omega arith in
      record {
        cells_length = putting.cells_length;
        restored = λ old c restores. restores_done n k trail from masks cells old c (rw none at (putting.rest old c restores));
      }

-- ---- after a call of the filter, from m to m'
module _ {n k : ℕ} {m c t m' c' t' : List ℕ} {top h : ℕ} (moved : Moved n k m c t top m' c' t' h) where
  pub moved_undoable : World m c t n k top → Undoable m' c' t' n k top h
  moved_undoable world =
      let after = world_moved world moved in
      record {
        sizes = record { slots = after.slots; rows = after.rows; slots_fit = after.slots_fit; values_fit = after.values_fit };
        order = moved.trailed.up;
        upto = omega (arith, after.room);
        old = m;
        old_cells = c;
        restores = moved.trailed.back;
      }

  pub moved_undone : {m'' c'' : List ℕ} → Undone m' c' t' n k top h m'' c'' → (m'' ≡ m) × (c'' ≡ c)
  moved_undone undone = undone.restored m c moved.trailed.back
