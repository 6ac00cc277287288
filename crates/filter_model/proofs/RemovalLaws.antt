-- `Removed` of `specs/State.antt`, from what the parts of a strike did: the store, the falls of one row (`removed_plain`) or of two
-- (`removed_single`), and what was written on the trail, by which it is taken back (`taken_plain`, `taken_single`). m is what is left at the slot.
-- No contract cites this file. Assumes nothing.
use mathlib.Core.Path.{◌≡◌, refl, sym, ap, ◌∙◌}
use mathlib.Core.Bool.{Bool, true, false}
use mathlib.Core.List.{List}
use Prim.Native.Nat.{ℕ, ◌+◌, ◌*◌, ◌%◌, ◌≤◌, ◌<◌, zero-le}
use native.Mathlib.Nat.{le_of_eq}
use native.Mathlib.Omega.{arith}
use lib.Count.{ones}
use lib.ListN.{length, get_or, set, length-set}
use lib.Seq.{get_or-set_same}
use Rattle.domains.specs.Mask.{Fixed, clear_bit}
use Rattle.domains.specs.Masks.{HasAt}
use Rattle.domains.proofs.MaskLaws.{test_bit_clear_bit_same, ones_empty, ones_clear_bit, fixed_single}
use Rattle.segments_model.specs.Part.{part, Lent}
use Rattle.segments_model.specs.Raise.{risen}
use Rattle.segments_model.proofs.PartLaws.{over_back}
use Rattle.filter_model.specs.Mirror.{row, cells_of}
use Rattle.filter_model.specs.Open.{word_at, open_bit, close_slot, open_slot, OpenSlots}
use Rattle.filter_model.specs.State.{Ready, Moved, Removed}
use Rattle.filter_model.specs.Strike.{Dropped}
use Rattle.filter_model.specs.Trail.{written, noted, RowRaised, TakenBack, Trailed}
use Rattle.filter_model.proofs.ContradictionLaws.{left_in}
use Rattle.filter_model.proofs.OpenLaws.{word_inside, open_lent, closed_same, close_slot_back, open_strike, open_single}
use Rattle.filter_model.proofs.RowLaws.{row_inside, row_first, lent_row}
use Rattle.filter_model.proofs.StateLaws.{moved_strike, ready_slot, ready_byte, ready_value, ready_room}
use Rattle.filter_model.proofs.StoreLaws.{many_free, fixed_unique, strike_lacks}
use Rattle.filter_model.proofs.StruckLaws.{struck_plain, struck_single}
use Rattle.filter_model.proofs.TrailLaws.{written_size, noted_note, noted_tag, put_in_strike, trailed_plain, trailed_single}

-- a row's fall is taken back by its tag and its note
row_raised : {n row slot a g x : ℕ} {cells cells' : List ℕ} (rows : ℕ) → Lent (row * (n + 2)) (n + 2) (λ l l'. Dropped n slot l l' a g x) cells cells'
    → row < rows → rows * (n + 2) ≤ length cells → get_or (part (row * (n + 2)) (n + 2) cells) 0 0 ≤ slot → RowRaised n row slot g x cells' cells
row_raised {n} {row} {slot} {g = g} {x = x} rows lent row_in fits free =
    record {
      raisable = (lent.does.back free).raisable;
      is =
          sym
          (over_back (row * (n + 2)) (n + 2) (risen (n + 1) g x) (omega (arith, row_inside n rows row row_in))
          (record { does = (lent.does.back free).back; size = lent.size; before = lent.before; after = lent.after }));
    }

module _ {masks cells trail : List ℕ} {n k top slot v : ℕ} (ready : Ready masks cells trail n k top slot v) (has : HasAt masks slot v)
    (m : ℕ) (m_is : m ≡ clear_bit (get_or masks slot 0) v) (some : m ≡ 0 → ⊥) where
  -- a slot not before the spent corner z of a row
  free : (kind : Bool) (x z : ℕ) → z ≡ get_or cells (row kind k x * (n + 2)) 0 → z ≤ slot → get_or (cells_of kind n k x cells) 0 0 ≤ slot
  free kind x z z_is z≤slot = omega (arith, z_is, z≤slot, row_first n (row kind k x) cells)

  abbrev after : List ℕ
  after = set masks slot (clear_bit (get_or masks slot 0) v)

  left_at : get_or after slot 0 ≡ clear_bit (get_or masks slot 0) v
  left_at = get_or-set_same masks slot (clear_bit (get_or masks slot 0) v) 0 (ready_slot ready)

  moved : {cells' trail' : List ℕ} → length cells' ≡ length cells → (OpenSlots n k masks cells → OpenSlots n k after cells')
      → Trailed n k masks cells trail top after cells' trail' (top + 1)
      → Moved n k masks cells trail top after cells' trail' (top + 1)
  moved size opens trailed = moved_strike v (ready_slot ready) has (λ none. some (m_is ∙ none)) size opens trailed

  -- the slot had more than one value
  many_before : 1 < ones (get_or masks slot 0)
  many_before =
      let left : (ones (clear_bit (get_or masks slot 0) v) ≡ 0 → ⊥) = λ none. some (m_is ∙ ones_empty (clear_bit (get_or masks slot 0) v) none) in
      omega (arith, left, ones_clear_bit (get_or masks slot 0) v, has)

  module _ {cells₁ : List ℕ} {z a g x : ℕ} (z_is : z ≡ get_or cells (v * (n + 2)) 0) (z≤slot : z ≤ slot)
      (lent₁ : Lent (v * (n + 2)) (n + 2) (λ l l'. Dropped n slot l l' a g x) cells cells₁) where
    low_raised : RowRaised n v slot g x cells₁ cells
    low_raised = row_raised (k + k) lent₁ (omega (arith, ready.value_in)) (omega (arith, ready.world.rows)) (free true v z z_is z≤slot)

    -- the note fits a byte, and the tag what a value leaves of one
    pub low_note : x < 256
    low_note = lent₁.does.byte (ready_byte ready)

    pub low_tag : g ≤ 3
    low_tag = low_raised.raisable.known

    -- the strike's tag h is that of the fall, and 4 more or not
    low_back : (h : ℕ) → h % 4 ≡ g → RowRaised n v slot (h % 4) x cells₁ cells
    low_back h h_is = rw h_is low_raised

    left_ones : ones (get_or after slot 0) ≡ ones m
    left_ones = ap ones (left_at ∙ sym m_is)

    module _ {masks' : List ℕ} (masks_are : masks' ≡ set masks slot m) where
      cut_masks : masks' ≡ after
      cut_masks = masks_are ∙ ap (λ (y : ℕ). set masks slot y) m_is

      module _ {trail' : List ℕ} (trail_is : trail' ≡ written n trail top slot v g x) where
        -- ---- other values are left
        taken_plain : (ones m ≡ 1 → ⊥) → TakenBack n k trail' slot v g x after cells₁ masks cells
        taken_plain many =
            record {
              slot_in = ready.slot_in;
              inside = omega (arith, length-set masks slot (clear_bit (get_or masks slot 0) v), ready_slot ready);
              value_in = ready.value_in;
              lacks = rw left_at (test_bit_clear_bit_same (get_or masks slot 0) v);
              masks_are = sym (put_in_strike masks slot v (ready_slot ready) has);
              single = λ four. absurd (omega (arith, low_tag));
              several = λ below one. many (sym left_ones ∙ one);
              between = cells₁;
              upper = record { fixed = λ w fixed. absurd (many_free m many w (m_is ∙ sym left_at ∙ fixed)); free = λ none. refl };
              lower = low_back g (omega (arith, low_tag));
            }

        pub removed_plain : (ones m ≡ 1 → ⊥) → Removed n k masks cells trail top masks' cells₁ trail' slot v x a 0 0 0
        removed_plain many =
            rw (cut_masks, trail_is)
            (record {
              moved =
                  moved lent₁.size (open_strike slot v (ready_slot ready) (open_lent n k v lent₁ (omega (arith, ready.value_in))))
                  (trailed_plain (ready_room ready has) (ready_value ready) (rw trail_is at (taken_plain many)));
              cut = strike_lacks masks slot v (ready_slot ready);
              low_in = lent₁.does.inside;
              high_in = zero-le;
              value_in = omega (arith, ready.value_in);
              tables = λ T mirror.
                  struck_plain mirror slot v (ready_slot ready) ready.value_in has ready.slot_in cells₁ a ready.world.rows (λ none. some (m_is ∙ none)) lent₁
                  (free true v z z_is z≤slot) (λ w fixed. many_free m many w (m_is ∙ fixed));
            })

      -- ---- w is the only value that is left
      module _ {trail' : List ℕ} (trail_is : trail' ≡ written n trail top slot v (g + 4) x) where
        module _ {cells₂ : List ℕ} (w : ℕ) {u b f y : ℕ} (single : Fixed m w) (u_is : u ≡ get_or cells ((k + w) * (n + 2)) 0) (u≤slot : u ≤ slot)
            (lent₂ : Lent ((k + w) * (n + 2)) (n + 2) (λ l l'. Dropped n slot l l' b f y) cells₁ cells₂) where
          w<k : w < k
          w<k = left_in slot v w ready.world (sym m_is ∙ single)

          high_raised : RowRaised n (k + w) slot f y cells₂ cells₁
          high_raised =
              let same = lent_row n (k + k) v (k + w) lent₁ (omega (arith, ready.world.rows)) (omega (arith, w<k)) (λ e. absurd (omega (arith, ready.value_in))) in
              row_raised (k + k) lent₂ (omega (arith, w<k)) (omega (arith, lent₁.size, ready.world.rows)) (rw same (free false w u u_is u≤slot))

          pub high_note : y < 256
          high_note = lent₂.does.byte (ready_byte ready)

          pub high_tag : f ≤ 3
          high_tag = high_raised.raisable.known

          -- the slot is in the set of open ones, and its word among the cells
          pub word_in : word_at n k slot < length cells₂
          word_in = word_inside n k slot cells₂ (ready_byte ready) (omega (arith, lent₁.size, lent₂.size, ready.world.rows))

          pub was_open : open_bit n k cells₂ slot ≡ 1
          was_open =
              open_lent n k (k + w) lent₂ (omega (arith, w<k)) slot ∙ open_lent n k v lent₁ (omega (arith, ready.value_in)) slot
              ∙ ready.opens.each slot ready.slot_in many_before

          module _ {cells₃ : List ℕ} (cells_are : cells₃ ≡ close_slot n k slot cells₂) {trail'' : List ℕ} (note_is : trail'' ≡ noted n trail' slot f y) where
            closed_raised : (open_bit n k (close_slot n k slot cells₂) slot ≡ 0)
                × RowRaised n (k + w) slot f y (open_slot n k slot (close_slot n k slot cells₂)) cells₁
            closed_raised = (closed_same n k slot cells₂ word_in, rw (close_slot_back n k slot cells₂ word_in was_open) high_raised)

            taken_single : TakenBack n k (noted n (written n trail top slot v (g + 4) x) slot f y) slot v (g + 4) x after (close_slot n k slot cells₂) masks cells
            taken_single =
                let on = written n trail top slot v (g + 4) x in
                let long : 2 * n ≤ length on = omega (arith, written_size n trail top slot v (g + 4) x, ready_room ready has) in
                record {
                  slot_in = ready.slot_in;
                  inside = omega (arith, length-set masks slot (clear_bit (get_or masks slot 0) v), ready_slot ready);
                  value_in = ready.value_in;
                  lacks = rw left_at (test_bit_clear_bit_same (get_or masks slot 0) v);
                  masks_are = sym (put_in_strike masks slot v (ready_slot ready) has);
                  single = λ four. left_ones ∙ fixed_single m w single;
                  several = λ below. absurd (omega arith);
                  between = cells₁;
                  upper = record {
                    fixed = λ q fixed.
                        let same : q ≡ w = fixed_unique m q w (m_is ∙ sym left_at ∙ fixed) single in
                        rw (same, noted_note n on slot f y ready.slot_in long, noted_tag n on slot f y ready.slot_in long) (w<k, closed_raised.0, closed_raised.1);
                    free = λ none. absurd (none w (left_at ∙ sym m_is ∙ single));
                  };
                  lower = low_back (g + 4) (omega (arith, low_tag));
                }

            pub removed_single : Removed n k masks cells trail top masks' cells₃ trail'' slot v x a y b w
            removed_single =
                rw (cut_masks, cells_are, note_is, trail_is)
                (record {
                  moved =
                      moved (length-set cells₂ (word_at n k slot) (clear_bit (get_or cells₂ (word_at n k slot) 0) (slot % 16)) ∙ lent₂.size ∙ lent₁.size)
                      (open_single slot v v (k + w) (ready_slot ready) (ready_byte ready) ready.world.rows lent₁ (omega (arith, ready.value_in)) lent₂
                      (omega (arith, w<k)) (le_of_eq (fixed_single (clear_bit (get_or masks slot 0) v) w (sym m_is ∙ single))))
                      (trailed_single (ready_room ready has) (ready_value ready) f y ready.slot_in many_before taken_single);
                  cut = strike_lacks masks slot v (ready_slot ready);
                  low_in = lent₁.does.inside;
                  high_in = lent₂.does.inside;
                  value_in = w<k;
                  tables = λ T mirror.
                      struck_single mirror slot v (ready_slot ready) ready.value_in has ready.slot_in cells₁ a ready.world.rows (λ none. some (m_is ∙ none))
                      lent₁ (free true v z z_is z≤slot) cells₂ w b w<k (sym m_is ∙ single) lent₂ (free false w u u_is u≤slot)
                      (ready_byte ready);
                })
