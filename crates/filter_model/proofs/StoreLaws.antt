-- One mask stored in a list of masks: which lists lie within the result (`within_store`, `store_within`), and what is left of a mask when a
-- value is taken out. No contract cites this file. Assumes nothing.
use mathlib.Core.Path.{◌≡◌, sym, ap, ◌∙◌}
use mathlib.Core.Logic.{dite}
use mathlib.Core.List.{List}
use Prim.Native.Nat.{ℕ, ◌≤◌, ◌<◌, zero-le}
use native.Mathlib.Decide.{ℕ_discrete}
use native.Mathlib.Omega.{arith}
use lib.Count.{ones}
use lib.ListN.{length, get_or, set, length-set}
use lib.Seq.{get_or-set_same, get_or-set_other}
use Rattle.domains.specs.Mask.{test_bit, Has, Fixed, clear_bit}
use Rattle.domains.specs.Masks.{Alive, Subset}
use Rattle.domains.proofs.MaskLaws.{test_bit_clear_bit_same, test_bit_clear_bit_other, ones_empty, ones_clear_bit, fixed_single, words_fixed}
use Rattle.domains.proofs.MaskLaws.{test_bit_fixed_same, test_bit_fixed_other, single_alone}
use Rattle.filter_model.specs.Cuts.{StrikeCut}

-- ---- a mask stored
module _ (M : List ℕ) (slot m : ℕ) (inside : slot < length M) where
  pub within_store : {N : List ℕ} → Subset N M → ((x : ℕ) → test_bit (get_or N slot 0) x ≤ test_bit m x) → Subset N (set M slot m)
  within_store N⊆M less =
      record {
        len = N⊆M.len ∙ sym (length-set M slot m);
        bits = λ s x.
            dite (ℕ_discrete s slot) (λ here. rw (here, get_or-set_same M slot m 0 inside) (less x))
            (λ other. rw (get_or-set_other M slot s m 0 other) (N⊆M.bits s x));
      }

  pub store_at : {N : List ℕ} → Subset N (set M slot m) → (x : ℕ) → test_bit (get_or N slot 0) x ≤ test_bit m x
  store_at N⊆ x = rw (get_or-set_same M slot m 0 inside) at (N⊆.bits slot x)

  pub store_within : {N : List ℕ} → ((x : ℕ) → test_bit m x ≤ test_bit (get_or M slot 0) x) → Subset N (set M slot m) → Subset N M
  store_within {N} less N⊆ =
      record {
        len = N⊆.len ∙ length-set M slot m;
        bits = λ s x.
            dite (ℕ_discrete s slot) (λ here. rw here (omega (arith, store_at N⊆ x, less x)))
            (λ other. rw (get_or-set_other M slot s m 0 other) at (N⊆.bits s x));
      }

  pub alive_store : (m ≡ 0 → ⊥) → Alive M → Alive (set M slot m)
  alive_store some alive =
      record {
        each = λ s s<len empty.
            dite (ℕ_discrete s slot)
            (λ here. some (sym (get_or-set_same M slot m 0 inside) ∙ ap (λ (i : ℕ). get_or (set M slot m) i 0) (sym here) ∙ empty))
            (λ other. alive.each s (omega (arith, length-set M slot m)) (sym (get_or-set_other M slot s m 0 other) ∙ empty));
      }

-- ---- a value taken out of a slot
module _ (M : List ℕ) (slot v : ℕ) (inside : slot < length M) where
  -- a list without the value there lies within what is left
  pub strike_bits : {N : List ℕ} → Subset N M → StrikeCut slot v N → (x : ℕ) → test_bit (get_or N slot 0) x ≤ test_bit (clear_bit (get_or M slot 0) v) x
  strike_bits N⊆M cut x =
      dite (ℕ_discrete x v) (λ same. rw (same, cut.lacks) zero-le)
      (λ other. rw (test_bit_clear_bit_other (get_or M slot 0) v x other) (N⊆M.bits slot x))

  pub strike_within : {N : List ℕ} → Subset N M → StrikeCut slot v N → Subset N (set M slot (clear_bit (get_or M slot 0) v))
  strike_within N⊆M cut = within_store M slot (clear_bit (get_or M slot 0) v) inside N⊆M (strike_bits N⊆M cut)

  pub strike_lacks : StrikeCut slot v (set M slot (clear_bit (get_or M slot 0) v))
  strike_lacks = record { lacks = rw (get_or-set_same M slot (clear_bit (get_or M slot 0) v) 0 inside) (test_bit_clear_bit_same (get_or M slot 0) v) }

-- ---- one mask
-- a mask that has something left when a value is taken out had more than that value
pub was_free : (m v x : ℕ) → Has m v → (clear_bit m v ≡ 0 → ⊥) → Fixed m x → ⊥
was_free m v x has some fixed = some (ones_empty (clear_bit m v) (omega (arith, ones_clear_bit m v, fixed_single m x fixed)))

pub single_has_fixed : (m v : ℕ) → ones m ≡ 1 → Has m v → Fixed m v
single_has_fixed m v one has = words_fixed m v has (λ w w≢v. single_alone m v w one has w≢v)

pub many_free : (m : ℕ) → (ones m ≡ 1 → ⊥) → (x : ℕ) → Fixed m x → ⊥
many_free m many x fixed = many (fixed_single m x fixed)

pub fixed_unique : (m v w : ℕ) → Fixed m v → Fixed m w → v ≡ w
fixed_unique m v w fixed_v fixed_w =
    dite (ℕ_discrete v w) (λ same. same)
    (λ other. absurd (omega (arith, test_bit_fixed_same v, ap (λ (x : ℕ). test_bit x v) (sym fixed_v ∙ fixed_w), test_bit_fixed_other w v other)))
