-- The laws of `specs/Lanes.antt`, and of a run of stores (`sets`). No contract cites this file. `each`: from eight to every one; `total_none`: where
-- the total is 0, so is each; `parts_none`: the same of a sum; `sets_before`, `sets_here`, `sets_behind`: an entry after a run of stores.
-- Assumes nothing.
use mathlib.Core.Path.{◌≡◌, refl, ◌∙◌}
use mathlib.Core.List.{List, [], ◌∷◌}
use Prim.Native.Nat.{ℕ, zero, suc, ◌+◌, ◌≤◌, ◌<◌, min}
use native.Mathlib.Nat.{add-zero}
use native.Mathlib.Omega.{arith}
use lib.ListN.{length, get_or, set, length-set}
use lib.Seq.{sets, get_or-set_same, get_or-set_other}
use Rattle.lanes.specs.declared.Eight.{Eight}
use Rattle.lanes.specs.Lanes.{lane, Eightfold, total}

pub each : (P : ℕ → Type 0) → Eightfold P → (i : ℕ) → i < 8 → P i
each P all zero i<8 = all.0
each P all (suc zero) i<8 = all.1
each P all (suc (suc zero)) i<8 = all.2
each P all (suc (suc (suc zero))) i<8 = all.3
each P all (suc (suc (suc (suc zero)))) i<8 = all.4
each P all (suc (suc (suc (suc (suc zero))))) i<8 = all.5
each P all (suc (suc (suc (suc (suc (suc zero)))))) i<8 = all.6
each P all (suc (suc (suc (suc (suc (suc (suc zero))))))) i<8 = all.7
each P all (suc (suc (suc (suc (suc (suc (suc (suc i)))))))) i<8 = absurd (omega arith)

pub total_none : (e : Eight) → total e ≡ 0 → (i : ℕ) → i < 8 → lane e i ≡ 0
total_none e none = each (λ i. lane e i ≡ 0) (omega arith, omega arith, omega arith, omega arith, omega arith, omega arith, omega arith, omega arith)

pub total_all : (e : Eight) → ((i : ℕ) → i < 8 → lane e i ≡ 0) → total e ≡ 0
total_all e all =
    omega (
      arith,
      all 0 (omega arith),
      all 1 (omega arith),
      all 2 (omega arith),
      all 3 (omega arith),
      all 4 (omega arith),
      all 5 (omega arith),
      all 6 (omega arith),
      all 7 (omega arith),
    )

-- where two numbers come to 0, each is 0
part_none : (x y z : ℕ) → z ≡ min 65535 (x + y) → z ≡ 0 → (x ≡ 0) × (y ≡ 0)
part_none x y z z_is none = (omega arith, omega arith)

pub parts_none : (a b c : Eight) → Eightfold (λ i. lane c i ≡ min 65535 (lane a i + lane b i)) → (i : ℕ) → i < 8 → lane c i ≡ 0
    → (lane a i ≡ 0) × (lane b i ≡ 0)
parts_none a b c summed i i<8 = part_none (lane a i) (lane b i) (lane c i) (each (λ j. lane c j ≡ min 65535 (lane a j + lane b j)) summed i i<8)

-- ---- sets
pub sets_before : (vs l : List ℕ) (p q : ℕ) → q < p → get_or (sets l p vs) q 0 ≡ get_or l q 0
sets_before [] l p q q<p = refl
sets_before (x ∷ vs) l p q q<p = sets_before vs (set l p x) (suc p) q (omega arith) ∙ get_or-set_other l p q x 0 (λ e. omega arith)

pub sets_behind : (vs l : List ℕ) (p q : ℕ) → p + length vs ≤ q → get_or (sets l p vs) q 0 ≡ get_or l q 0
sets_behind [] l p q behind = refl
sets_behind (x ∷ vs) l p q behind = sets_behind vs (set l p x) (suc p) q (omega arith) ∙ get_or-set_other l p q x 0 (λ e. omega arith)

pub sets_here : (vs l : List ℕ) (p i : ℕ) → i < length vs → p + length vs ≤ length l → get_or (sets l p vs) (p + i) 0 ≡ get_or vs i 0
sets_here [] l p i i<0 room = absurd (omega arith)
sets_here (x ∷ vs) l p zero i<m room = rw (add-zero p) (sets_before vs (set l p x) (suc p) p (omega arith) ∙ get_or-set_same l p x 0 (omega arith))
sets_here (x ∷ vs) l p (suc i) i<m room =
    let next : p + suc i ≡ suc p + i = omega arith in
    rw next (sets_here vs (set l p x) (suc p) i (omega arith) (omega (arith, length-set l p x)))
