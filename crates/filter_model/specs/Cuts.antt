-- What is asked of a list of masks N when a value is struck or a slot fixed, and where a bound of the masks M is met. A kind is a Bool: true
-- for the lower bounds.
--   StrikeCut slot v N      N lacks v at the slot
--   FixCut slot v N         N is fixed to v at the slot
--   SlotCut kind slot v N   the cut that a met bound of the kind asks at a slot: fixed to v (lower), lacking v (upper)
--   Concerned kind M s v    where it asks that: the slot has v (lower), the slot is not fixed to v (upper)
--   BoundCut kind M v t N   N is cut so at each slot before t
-- Every stable list within M meets the last one where the kind's bound of v is met at t (`bound_cut`).
-- Assumes nothing.
use Rattle.std.specs.Prelude.{Bool, true, false, List, ℕ, ◌<◌}
use Rattle.domains.specs.Masks.{HasAt, FixedAt}
use Rattle.settling_model.specs.Settled.{LacksAt}

pub record StrikeCut (slot v : ℕ) (N : List ℕ) : Type 0 where
  pub lacks : LacksAt N slot v

pub record FixCut (slot v : ℕ) (N : List ℕ) : Type 0 where
  pub fixed : FixedAt N slot v

abbrev pub SlotCut : Bool → ℕ → ℕ → List ℕ → Type 0
SlotCut true slot v N = FixCut slot v N
SlotCut false slot v N = StrikeCut slot v N

abbrev pub Concerned : Bool → List ℕ → ℕ → ℕ → Type 0
Concerned true M s v = HasAt M s v
Concerned false M s v = FixedAt M s v → ⊥

pub record BoundCut (kind : Bool) (M : List ℕ) (v t : ℕ) (N : List ℕ) : Type 0 where
  pub each : (s : ℕ) → s < t → Concerned kind M s v → SlotCut kind s v N
