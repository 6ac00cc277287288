-- The laws of `specs/Trail.antt`, in its order. No contract cites this file. The ones that matter most: `restores_add` (two stretches of the
-- trail, one after the other), `restores_next` (the strike that is taken back first), `restores_same` (another trail that keeps it),
-- `restores_larger`, `trailed_trans`, `trailed_plain` and `trailed_single` (one value struck). Assumes nothing.
use mathlib.Core.Path.{◌≡◌, refl, sym, ap, ◌∙◌}
use mathlib.Core.Logic.{dite}
use mathlib.Core.List.{List}
use Prim.Native.Nat.{ℕ, zero, suc, ◌+◌, ◌-◌, ◌*◌, ◌/◌, ◌%◌, ◌^◌, ◌≤◌, ◌<◌, zero-le}
use native.Mathlib.Nat.{le_refl, le_trans, le_of_eq, add-zero, add-suc, add_assoc, sub_self}
use native.Mathlib.Decide.{ℕ_discrete}
use native.Mathlib.Omega.{arith}
use lib.Count.{ones}
use lib.ListN.{length, get_or, set, length-set}
use lib.Seq.{get_or-set_same, get_or-set_other, set-get_or, set-set}
use Rattle.domains.specs.Mask.{clear_bit}
use Rattle.domains.specs.Masks.{HasAt, FixedAt, Subset}
use Rattle.domains.proofs.MaskLaws.{clear_bit_has, test_bit_put_other, ones_subset, fixed_single}
use Rattle.domains.proofs.MasksLaws.{subset_refl, subset_trans}
use Rattle.settling_model.specs.Settled.{LacksAt}
use Rattle.filter_model.specs.Trail.{slot_at, value_at, tag_at, note_at, written, noted, put_in, TakenBack, Restores, Kept, Trailed}

-- ---- written
module _ (n : ℕ) (trail : List ℕ) (i slot v g x : ℕ) where
  pub written_size : length (written n trail i slot v g x) ≡ length trail
  written_size = simp length-set

  written_other : (p : ℕ) → (p < 2 * n + 3 * i) → get_or (written n trail i slot v g x) p 0 ≡ get_or trail p 0
  written_other p below =
      get_or-set_other (set (set trail (2 * n + 3 * i) slot) (2 * n + 3 * i + 1) (v + 32 * g)) (2 * n + 3 * i + 2) p x 0 (λ e. absurd (omega arith))
      ∙ get_or-set_other (set trail (2 * n + 3 * i) slot) (2 * n + 3 * i + 1) p (v + 32 * g) 0 (λ e. absurd (omega arith))
      ∙ get_or-set_other trail (2 * n + 3 * i) p slot 0 (λ e. absurd (omega arith))

  module _ (room : 2 * n + 3 * i + 2 < length trail) where
    written_slot : slot_at n (written n trail i slot v g x) i ≡ slot
    written_slot =
        get_or-set_other (set (set trail (2 * n + 3 * i) slot) (2 * n + 3 * i + 1) (v + 32 * g)) (2 * n + 3 * i + 2) (2 * n + 3 * i) x 0
        (λ e. absurd (omega arith))
        ∙ get_or-set_other (set trail (2 * n + 3 * i) slot) (2 * n + 3 * i + 1) (2 * n + 3 * i) (v + 32 * g) 0 (λ e. absurd (omega arith))
        ∙ get_or-set_same trail (2 * n + 3 * i) slot 0 (omega arith)

    -- the value and the tag, in one byte
    written_both : get_or (written n trail i slot v g x) (2 * n + 3 * i + 1) 0 ≡ v + 32 * g
    written_both =
        get_or-set_other (set (set trail (2 * n + 3 * i) slot) (2 * n + 3 * i + 1) (v + 32 * g)) (2 * n + 3 * i + 2) (2 * n + 3 * i + 1) x 0
        (λ e. absurd (omega arith))
        ∙ get_or-set_same (set trail (2 * n + 3 * i) slot) (2 * n + 3 * i + 1) (v + 32 * g) 0 (omega (arith, length-set trail (2 * n + 3 * i) slot))

    written_note : note_at n (written n trail i slot v g x) i ≡ x
    written_note =
        get_or-set_same (set (set trail (2 * n + 3 * i) slot) (2 * n + 3 * i + 1) (v + 32 * g)) (2 * n + 3 * i + 2) x 0
        (omega (arith, length-set trail (2 * n + 3 * i) slot, length-set (set trail (2 * n + 3 * i) slot) (2 * n + 3 * i + 1) (v + 32 * g)))

both_value : (b v g : ℕ) → b ≡ v + 32 * g → v < 32 → b % 32 ≡ v
both_value b v g is v<32 = omega arith

both_tag : (b v g : ℕ) → b ≡ v + 32 * g → v < 32 → b / 32 ≡ g
both_tag b v g is v<32 = omega arith

-- ---- noted
module _ (n : ℕ) (trail : List ℕ) (slot g x : ℕ) where
  pub noted_size : length (noted n trail slot g x) ≡ length trail
  noted_size = simp length-set

  noted_other : (p : ℕ) → (p ≡ slot → ⊥) → (p ≡ n + slot → ⊥) → get_or (noted n trail slot g x) p 0 ≡ get_or trail p 0
  noted_other p not_note not_tag = get_or-set_other (set trail slot x) (n + slot) p g 0 not_tag ∙ get_or-set_other trail slot p x 0 not_note

  module _ (slot<n : slot < n) (room : 2 * n ≤ length trail) where
    pub noted_note : get_or (noted n trail slot g x) slot 0 ≡ x
    noted_note =
        get_or-set_other (set trail slot x) (n + slot) slot g 0 (λ e. absurd (omega arith)) ∙ get_or-set_same trail slot x 0 (omega arith)

    pub noted_tag : get_or (noted n trail slot g x) (n + slot) 0 ≡ g
    noted_tag = get_or-set_same (set trail slot x) (n + slot) g 0 (omega (arith, length-set trail slot x))

-- ---- put_in
-- what a strike takes out is put back
pub put_in_strike : (M : List ℕ) (slot v : ℕ) → slot < length M → HasAt M slot v → put_in (set M slot (clear_bit (get_or M slot 0) v)) slot v ≡ M
put_in_strike M slot v inside has =
    rw (get_or-set_same M slot (clear_bit (get_or M slot 0) v) 0 inside, clear_bit_has (get_or M slot 0) v has, set-set) (set-get_or M slot 0)

put_in_larger : (M : List ℕ) (slot v : ℕ) → slot < length M → LacksAt M slot v → Subset M (put_in M slot v)
put_in_larger M slot v inside lacks =
    let m = get_or M slot 0 in
    record {
      len = sym (length-set M slot (m + 2 ^ v));
      bits = λ s x.
          dite (ℕ_discrete s slot)
          (λ here.
          rw (here, get_or-set_same M slot (m + 2 ^ v) 0 inside)
          (dite (ℕ_discrete x v) (λ same. rw (same, lacks) zero-le) (λ other. le_of_eq (sym (test_bit_put_other m v x lacks other)))))
          (λ other. rw (get_or-set_other M slot s (m + 2 ^ v) 0 other) (le_refl _));
    }

-- ---- TakenBack
module _ {n k : ℕ} {trail : List ℕ} {slot v g x : ℕ} {M' c' M c : List ℕ} (taken : TakenBack n k trail slot v g x M' c' M c) where
  pub taken_larger : Subset M' M
  taken_larger = rw taken.masks_are (put_in_larger M' slot v taken.inside taken.lacks)

  -- another trail with the slot's note and tag, where it is fixed
  taken_same : (trail' : List ℕ)
      → ((w : ℕ) → FixedAt M' slot w → (get_or trail' slot 0 ≡ get_or trail slot 0) × (get_or trail' (n + slot) 0 ≡ get_or trail (n + slot) 0))
      → TakenBack n k trail' slot v g x M' c' M c
  taken_same trail' same =
      record {
        slot_in = taken.slot_in;
        inside = taken.inside;
        value_in = taken.value_in;
        lacks = taken.lacks;
        masks_are = taken.masks_are;
        single = taken.single;
        several = taken.several;
        between = taken.between;
        upper = record { fixed = λ w fixed. rw ((same w fixed).0, (same w fixed).1) (taken.upper.fixed w fixed); free = taken.upper.free };
        lower = taken.lower;
      }

-- ---- Restores
pub restores_none : (n k : ℕ) (trail : List ℕ) (from : ℕ) (M c : List ℕ) → Restores n k trail from 0 M c M c
unfolding Restores
restores_none n k trail from M c = (refl, refl)

-- nothing left to take back
pub restores_done : (n k : ℕ) (trail : List ℕ) (from : ℕ) (M' c' M c : List ℕ) → Restores n k trail from 0 M' c' M c → (M' ≡ M) × (c' ≡ c)
unfolding Restores
restores_done n k trail from M' c' M c restores = restores

-- the latest strike is taken back first
pub record Next (n k : ℕ) (trail : List ℕ) (from j slot v g x : ℕ) (M' c' M c : List ℕ) : Type 0 where
  pub masks : List ℕ
  pub cells : List ℕ
  pub taken : TakenBack n k trail slot v g x M' c' masks cells
  pub rest : Restores n k trail from j masks cells M c

pub restores_next : (n k : ℕ) (trail : List ℕ) (from j : ℕ) (M' c' M c : List ℕ) → Restores n k trail from (suc j) M' c' M c
    → Next n k trail from j (slot_at n trail (from + j)) (value_at n trail (from + j)) (tag_at n trail (from + j)) (note_at n trail (from + j)) M' c' M c
unfolding Restores
restores_next n k trail from j M' c' M c restores =
    record { masks = restores.0; cells = restores.1; taken = restores.2; rest = restores.3 }

next_restores : (n k : ℕ) (trail : List ℕ) (from j : ℕ) (M' c' M c : List ℕ)
    → Next n k trail from j (slot_at n trail (from + j)) (value_at n trail (from + j)) (tag_at n trail (from + j)) (note_at n trail (from + j)) M' c' M c
    → Restores n k trail from (suc j) M' c' M c
unfolding Restores
next_restores n k trail from j M' c' M c next = (next.masks, next.cells, next.taken, next.rest)

-- the masks that are restored are larger
pub restores_larger : (n k : ℕ) (trail : List ℕ) (from j : ℕ) (M' c' M c : List ℕ) → Restores n k trail from j M' c' M c → Subset M' M
restores_larger n k trail from zero M' c' M c restores = rw (restores_done n k trail from M' c' M c restores).0 (subset_refl M)
restores_larger n k trail from (suc j) M' c' M c restores =
    let next = restores_next n k trail from j M' c' M c restores in
    subset_trans (taken_larger next.taken) (restores_larger n k trail from j next.masks next.cells M c next.rest)

-- ---- Kept
pub kept_refl : (n : ℕ) (M trail : List ℕ) (h : ℕ) → Kept n M trail h trail
kept_refl n M trail h = record { below = λ i n≤i i<. refl; notes = λ s s<n few. refl; tags = λ s s<n few. refl }

pub kept_trans : {n : ℕ} {M t₀ t₁ t₂ : List ℕ} {h : ℕ} → Kept n M t₀ h t₁ → Kept n M t₁ h t₂ → Kept n M t₀ h t₂
kept_trans first second =
    record {
      below = λ i n≤i i<. second.below i n≤i i< ∙ first.below i n≤i i<;
      notes = λ s s<n few. second.notes s s<n few ∙ first.notes s s<n few;
      tags = λ s s<n few. second.tags s s<n few ∙ first.tags s s<n few;
    }

-- larger masks, and a lower height
pub kept_less : {n : ℕ} {M' M trail trail' : List ℕ} {h g : ℕ} → Subset M' M → g ≤ h → Kept n M' trail h trail' → Kept n M trail g trail'
kept_less {M' = M'} {M = M} M'⊆M g≤h kept =
    let still : (s : ℕ) → ones (get_or M s 0) ≤ 1 → ones (get_or M' s 0) ≤ 1 =
    λ s few. le_trans (ones_subset (get_or M' s 0) (get_or M s 0) (λ v. M'⊆M.bits s v)) few in
    record {
      below = λ i n≤i i<. kept.below i n≤i (omega arith);
      notes = λ s s<n few. kept.notes s s<n (still s few);
      tags = λ s s<n few. kept.tags s s<n (still s few);
    }

-- the strikes are restored as well by a trail that keeps them
pub restores_same : (n k : ℕ) (trail trail' : List ℕ) (from j : ℕ) (M' c' M c : List ℕ) → Kept n M' trail (from + j) trail'
    → Restores n k trail from j M' c' M c → Restores n k trail' from j M' c' M c
unfolding Restores
restores_same n k trail trail' from zero M' c' M c kept restores = restores
restores_same n k trail trail' from (suc j) M' c' M c kept restores =
    let taken = restores.2 in
    rw (
      kept.below (2 * n + 3 * (from + j)) (omega arith) (omega arith),
      kept.below (2 * n + 3 * (from + j) + 1) (omega arith) (omega arith),
      kept.below (2 * n + 3 * (from + j) + 2) (omega arith) (omega arith),
    ) (
      restores.0,
      restores.1,
      taken_same taken trail'
          (λ w fixed.
          let few = le_of_eq (fixed_single _ w fixed) in
          let slot = slot_at n trail (from + j) in
          (kept.notes slot taken.slot_in few, kept.tags slot taken.slot_in few)),
      restores_same n k trail trail' from j restores.0 restores.1 M c (kept_less (taken_larger taken) (omega arith) kept) restores.3,
    )

-- two stretches, the upper one first
pub restores_add : (n k : ℕ) (trail : List ℕ) (from a b : ℕ) (M₂ c₂ M₁ c₁ M c : List ℕ) → Restores n k trail (from + a) b M₂ c₂ M₁ c₁
    → Restores n k trail from a M₁ c₁ M c → Restores n k trail from (a + b) M₂ c₂ M c
unfolding Restores
restores_add n k trail from a zero M₂ c₂ M₁ c₁ M c upper lower = rw (add-zero, upper.0, upper.1) lower
restores_add n k trail from a (suc b) M₂ c₂ M₁ c₁ M c upper lower =
    rw (add-suc, ← add_assoc)
    (upper.0, upper.1, upper.2, restores_add n k trail from a b upper.0 upper.1 M₁ c₁ M c upper.3 lower)

-- ---- Trailed
pub trailed_refl : (n k : ℕ) (M c trail : List ℕ) (h : ℕ) → Trailed n k M c trail h M c trail h
trailed_refl n k M c trail h =
    record { size = refl; up = le_refl h; kept = kept_refl n M trail h; back = rw sub_self (restores_none n k trail h M c) }

pub trailed_trans : {n k : ℕ} {M₀ c₀ t₀ M₁ c₁ t₁ M₂ c₂ t₂ : List ℕ} {h₀ h₁ h₂ : ℕ} → Trailed n k M₀ c₀ t₀ h₀ M₁ c₁ t₁ h₁
    → Trailed n k M₁ c₁ t₁ h₁ M₂ c₂ t₂ h₂ → Trailed n k M₀ c₀ t₀ h₀ M₂ c₂ t₂ h₂
trailed_trans {n} {k} {M₀} {c₀} {t₀} {M₁} {c₁} {t₁} {M₂} {c₂} {t₂} {h₀} {h₁} {h₂} first second =
    let steps : h₂ - h₀ ≡ h₁ - h₀ + (h₂ - h₁) = omega (arith, first.up, second.up) in
    let start : h₁ ≡ h₀ + (h₁ - h₀) = omega (arith, first.up) in
    let upper : Restores n k t₂ (h₀ + (h₁ - h₀)) (h₂ - h₁) M₂ c₂ M₁ c₁ = rw (← start) second.back in
    let kept : Kept n M₁ t₁ (h₀ + (h₁ - h₀)) t₂ = rw (← start) second.kept in
    let lower = restores_same n k t₁ t₂ h₀ (h₁ - h₀) M₁ c₁ M₀ c₀ kept first.back in
    record {
      size = second.size ∙ first.size;
      up = le_trans first.up second.up;
      kept =
          kept_trans first.kept
          (kept_less (restores_larger n k t₁ h₀ (h₁ - h₀) M₁ c₁ M₀ c₀ first.back) first.up second.kept);
      back = rw steps (restores_add n k t₂ h₀ (h₁ - h₀) (h₂ - h₁) M₂ c₂ M₁ c₁ M₀ c₀ upper lower);
    }

-- one value struck: its three bytes are on a trail that keeps the rest
module _ {n k : ℕ} {M c trail M' c' trail' : List ℕ} {top slot v g x : ℕ} (size : length trail' ≡ length trail) (kept : Kept n M trail top trail')
    (slot_is : slot_at n trail' top ≡ slot) (both_are : get_or trail' (2 * n + 3 * top + 1) 0 ≡ v + 32 * g) (v<32 : v < 32)
    (note_is : note_at n trail' top ≡ x) (taken : TakenBack n k trail' slot v g x M' c' M c) where
  trailed_one : Trailed n k M c trail top M' c' trail' (top + 1)
  trailed_one =
      let one : top + 1 - top ≡ 1 = omega arith in
      let same : top + 0 ≡ top = omega arith in
      let b = get_or trail' (2 * n + 3 * top + 1) 0 in
      record {
        size = size;
        up = omega arith;
        kept = kept;
        back =
            rw one
            (next_restores n k trail' top 0 M' c' M c
            (rw (same, slot_is, both_value b v g both_are v<32, both_tag b v g both_are v<32, note_is)
            (record { masks = M; cells = c; taken = taken; rest = restores_none n k trail' top M c })));
      }

module _ {n k : ℕ} {M c trail M' c' : List ℕ} {top slot v g x : ℕ} (room : 2 * n + 3 * top + 2 < length trail) (v<32 : v < 32) where
  -- the slot is not fixed
  pub trailed_plain : TakenBack n k (written n trail top slot v g x) slot v g x M' c' M c
      → Trailed n k M c trail top M' c' (written n trail top slot v g x) (top + 1)
  trailed_plain taken =
      trailed_one (written_size n trail top slot v g x)
      (record {
        below = λ i n≤i i<. written_other n trail top slot v g x i i<;
        notes = λ s s<n few. written_other n trail top slot v g x s (omega arith);
        tags = λ s s<n few. written_other n trail top slot v g x (n + s) (omega arith);
      })
      (written_slot n trail top slot v g x room) (written_both n trail top slot v g x room) v<32 (written_note n trail top slot v g x room) taken

  -- the slot gets its only value, the tag f and the note y
  pub trailed_single : (f y : ℕ) → slot < n → 1 < ones (get_or M slot 0)
      → TakenBack n k (noted n (written n trail top slot v g x) slot f y) slot v g x M' c' M c
      → Trailed n k M c trail top M' c' (noted n (written n trail top slot v g x) slot f y) (top + 1)
  trailed_single f y slot<n many taken =
      let w = written n trail top slot v g x in
      let above : (p : ℕ) → 2 * n ≤ p → get_or (noted n w slot f y) p 0 ≡ get_or w p 0 =
      λ p n≤p. noted_other n w slot f y p (λ e. absurd (omega arith)) (λ e. absurd (omega arith)) in
      let other : (s : ℕ) → ones (get_or M s 0) ≤ 1 → s ≡ slot → ⊥ =
      λ s few same. omega (arith, ap (λ (i : ℕ). ones (get_or M i 0)) same) in
      trailed_one (noted_size n w slot f y ∙ written_size n trail top slot v g x)
      (record {
        below = λ i n≤i i<. above i n≤i ∙ written_other n trail top slot v g x i i<;
        notes = λ s s<n few.
            noted_other n w slot f y s (other s few) (λ e. absurd (omega arith)) ∙ written_other n trail top slot v g x s (omega arith);
        tags = λ s s<n few.
            noted_other n w slot f y (n + s) (λ e. absurd (omega arith)) (λ e. other s few (omega arith))
            ∙ written_other n trail top slot v g x (n + s) (omega arith);
      })
      (above (2 * n + 3 * top) (omega arith) ∙ written_slot n trail top slot v g x room)
      (above (2 * n + 3 * top + 1) (omega arith) ∙ written_both n trail top slot v g x room) v<32
      (above (2 * n + 3 * top + 2) (omega arith) ∙ written_note n trail top slot v g x room) taken
