-- The laws of `specs/Settled.antt`, in its order. No contract cites this file. The ones that matter most: `settled_words` and `words_settled`
-- (document 01's words where B = upper).
-- Assumes nothing.
use mathlib.Core.Logic.{dite}
use mathlib.Core.List.{List}
use Prim.Native.Nat.{ℕ, suc, ◌^◌, ◌<◌}
use native.Mathlib.Decide.{ℕ_discrete}
use native.Mathlib.Omega.{arith}
use lib.ListN.{get_or}
use Rattle.domains.specs.Masks.{HasAt, FixedAt}
use Rattle.domains.proofs.MaskLaws.{test_bit_lt}
use Rattle.settling_model.specs.Settled.{LacksAt, Settled}

-- ---- LacksAt
module _ (M : List ℕ) (s v : ℕ) where
  -- a slot lacks what it does not have; both directions
  pub lacks_not_has : LacksAt M s v → HasAt M s v → ⊥
  lacks_not_has lacks has = omega arith

  pub not_has_lacks : (HasAt M s v → ⊥) → LacksAt M s v
  not_has_lacks not_has = omega (arith, test_bit_lt (get_or M s 0) v)

-- ---- Settled
module _ (M : List ℕ) (v t : ℕ) where
  -- in document 01's words where B = upper; both directions
  pub settled_words : Settled M v t → (s : ℕ) → s < t → (FixedAt M s v → ⊥) → LacksAt M s v
  settled_words settled s s<t free = not_has_lacks M s v (λ has. free (settled.each s s<t has))

  pub words_settled : ((s : ℕ) → s < t → (FixedAt M s v → ⊥) → LacksAt M s v) → Settled M v t
  words_settled lacks =
      record {
        each = λ s s<t has.
            dite (ℕ_discrete (get_or M s 0) (2 ^ v)) (λ fixed. fixed) (λ free. absurd (lacks_not_has M s v (lacks s s<t free) has));
      }

-- no slot, one slot less, one slot more
pub settled_none : (M : List ℕ) (v : ℕ) → Settled M v 0
settled_none M v = record { each = λ s s<0. absurd (omega arith) }

pub settled_less : {M : List ℕ} {v t : ℕ} → Settled M v (suc t) → Settled M v t
settled_less settled = record { each = λ s s<t. settled.each s (omega arith) }

pub settled_more : {M : List ℕ} {v t : ℕ} → (HasAt M t v → FixedAt M t v) → Settled M v t → Settled M v (suc t)
settled_more {M} {v} {t} last settled =
    record { each = λ s s≤t. dite (ℕ_discrete s t) (λ e. rw e last) (λ ne. settled.each s (omega arith)) }
