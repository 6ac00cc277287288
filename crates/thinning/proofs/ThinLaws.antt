-- `thin` from its parts: the fall cannot be (`thin_barred`), or it is made, with the store and what is written on the trail (`thin_made`); its tag
-- and note fit a byte (`thin_tag`, `thin_note`). No contract cites this file. Assumes nothing.
use mathlib.Core.Path.{◌≡◌, refl, ap, ◌∙◌}
use mathlib.Core.Bool.{Bool, true, false}
use mathlib.Core.List.{List}
use Prim.Native.Nat.{ℕ, ◌+◌, ◌*◌, ◌≤◌, ◌<◌}
use native.Mathlib.Omega.{arith}
use lib.Count.{ones}
use lib.ListN.{get_or, set}
use Rattle.domains.specs.Mask.{clear_bit}
use Rattle.domains.specs.Masks.{HasAt}
use Rattle.domains.proofs.MaskLaws.{test_bit_lt, ones_none, ones_clear_bit}
use Rattle.segments_model.specs.Part.{Lent}
use Rattle.filter_model.specs.State.{Ready}
use Rattle.filter_model.specs.Strike.{Dropped}
use Rattle.filter_model.specs.Trail.{written}
use Rattle.filter_model.proofs.ContradictionLaws.{contradicted_low}
use Rattle.filter_model.proofs.RemovalLaws.{low_note, low_tag, removed_plain}
use Rattle.descents.specs.Told.{Told}
use Rattle.descents.proofs.ToldLaws.{told_clash, told_free}
use Rattle.thinning.specs.Thinned.{Thinned}

-- ---- a mask of more than two values, one of them taken out
module _ (m v : ℕ) (wide : 2 < ones m) where
  wide_left : 1 < ones (clear_bit m v)
  wide_left = omega (arith, ones_clear_bit m v, test_bit_lt m v)

  wide_some : clear_bit m v ≡ 0 → ⊥
  wide_some none = omega (arith, wide_left, ap ones none, ones_none)

  wide_many : ones (clear_bit m v) ≡ 1 → ⊥
  wide_many one = omega (arith, wide_left)

-- ---- thin
module _ {masks cells trail : List ℕ} {n k top slot v : ℕ} (ready : Ready masks cells trail n k top slot v) (has : HasAt masks slot v)
    (cells' : List ℕ) {clash : Bool} (told : Told slot (get_or cells (v * (n + 2)) 0) cells cells' clash) where
  pub thin_barred : (x a : ℕ) → clash ≡ true → Thinned n k masks cells trail top masks cells' trail slot v x a clash
  thin_barred x a is =
      let barred = told_clash slot (get_or cells (v * (n + 2)) 0) cells cells' told is in
      rw (is, barred.1) (contradicted_low ready has (get_or cells (v * (n + 2)) 0) refl barred.0)

  module _ (wide : 2 < ones (get_or masks slot 0)) (is : clash ≡ false) {a g x : ℕ}
      (lent : Lent (v * (n + 2)) (n + 2) (λ l l'. Dropped n slot l l' a g x) cells cells') where
    abbrev left : ℕ
    left = clear_bit (get_or masks slot 0) v

    spent_free : get_or cells (v * (n + 2)) 0 ≤ slot
    spent_free = told_free slot (get_or cells (v * (n + 2)) 0) cells cells' told is

    pub thin_tag : g ≤ 3
    thin_tag = low_tag ready has left refl (wide_some (get_or masks slot 0) v wide) refl spent_free lent

    pub thin_note : x < 256
    thin_note = low_note ready has left refl (wide_some (get_or masks slot 0) v wide) refl spent_free lent

    pub thin_made : {masks' trail' : List ℕ} {m : ℕ} → masks' ≡ set masks slot m → m ≡ left → trail' ≡ written n trail top slot v g x
        → Thinned n k masks cells trail top masks' cells' trail' slot v x a clash
    thin_made masks_are m_is trail_is =
        rw is
        (removed_plain ready has left refl (wide_some (get_or masks slot 0) v wide) refl spent_free lent
        (masks_are ∙ ap (λ (y : ℕ). set masks slot y) m_is) trail_is (wide_many (get_or masks slot 0) v wide))
