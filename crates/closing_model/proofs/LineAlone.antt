-- Whatever improves one line of a table (`Did` with `Line` of `specs/Sweep.antt`, as `lines::line` promises) leaves every entry outside of that line
-- as it was: `line_alone`. No contract cites this file.
-- Assumes nothing.
use mathlib.Core.Path.{◌≡◌, refl}
use mathlib.Core.Bool.{Bool, cond}
use mathlib.Core.List.{List, [], ◌∷◌}
use mathlib.Core.Logic.{◌⊎◌, ⊎_elim, dite}
use Prim.Native.Nat.{ℕ, zero, suc, ◌+◌, ◌≤◌, ◌<◌, zero-le}
use native.Mathlib.Nat.{le_antisymm}
use native.Mathlib.Decide.{ℕ_discrete}
use native.Mathlib.Omega.{arith}
use lib.Dec.{eqb}
use lib.ListN.{get_or}
use borrow.Author.Tests.{eq-eqb, ne_eqb}
use Rattle.closing_model.specs.Table.{Table, view, Within}
use Rattle.closing_model.specs.Sweep.{Line, weigh, Did}

-- an entry is at most what all of them come to
entry_below : (l : List ℕ) (q : ℕ) → get_or l q 0 ≤ weigh (λ x. x) l
unfolding weigh
entry_below [] q = zero-le
entry_below (x ∷ xs) zero = omega arith
entry_below (x ∷ xs) (suc q) = omega (arith, entry_below xs q)

-- a line whose entries are all the same keeps its rules
flat_line : (T : Table) (base n x : ℕ) → ((q : ℕ) → base ≤ q → q ≤ base + n → (T.lower q ≡ x) × (T.upper q ≡ 0)) → Line base n T
flat_line T base n x flat =
    let pair : (t : ℕ) → t < n → (T.lower (base + t) ≡ T.lower (base + t + 1)) × (T.upper (base + t) ≡ T.upper (base + t + 1)) = λ t t<n.
    let here = flat (base + t) (omega arith) (omega arith) in
    let next = flat (base + t + 1) (omega arith) (omega arith) in
    (omega (arith, here.0, next.0), omega (arith, here.1, next.1)) in
    record {
      fwd = λ t t<n. record { lower = omega (arith, (pair t t<n).0); upper = omega (arith, (pair t t<n).1) };
      bwd = λ t 0≤t t<n. record { lower = omega (arith, (pair t t<n).0); upper = omega (arith, (pair t t<n).1) };
    }

module _ (L U : List ℕ) (p : ℕ) where
  -- the table that has L's and U's entry at place p, and elsewhere a lower that no entry of L is above, and the upper 0
  only : Table
  only = record { lower = λ q. cond (eqb q p) (get_or L p 0) (weigh (λ x. x) L); upper = λ q. cond (eqb q p) (get_or U p 0) 0 }

  only_here : (only.lower p ≡ get_or L p 0) × (only.upper p ≡ get_or U p 0)
  unfolding only
  only_here = (rw (eq-eqb p p refl) refl, rw (eq-eqb p p refl) refl)

  only_there : (q : ℕ) → (q ≡ p → ⊥) → (only.lower q ≡ weigh (λ x. x) L) × (only.upper q ≡ 0)
  unfolding only
  only_there q other = (rw (ne_eqb q p other) refl, rw (ne_eqb q p other) refl)

  only_within : (m : ℕ) → Within m (view L U) only
  only_within m = record { lowers = λ q q<m. (at q).0; uppers = λ q q<m. (at q).1 }
    where
      at : (q : ℕ) → (get_or L q 0 ≤ only.lower q) × (only.upper q ≤ get_or U q 0)
      at q =
          dite (ℕ_discrete q p) (λ same. rw same (omega (arith, only_here.0), omega (arith, only_here.1)))
          (λ other. (omega (arith, (only_there q other).0, entry_below L q), omega (arith, (only_there q other).1)))

-- the line has the places from base to base + n
pub line_alone : {base n : ℕ} {L U L' U' : List ℕ} {r : Bool} → Did (base + n + 1) (Line base n) L U L' U' r → (p : ℕ)
    → ((p < base) ⊎ (base + n < p)) → (get_or L' p 0 ≡ get_or L p 0) × (get_or U' p 0 ≡ get_or U p 0)
line_alone {base} {n} {L} {U} did p outside =
    let other : (q : ℕ) → base ≤ q → q ≤ base + n → q ≡ p → ⊥ = λ q from upto same. ⊎_elim (λ before. omega arith) (λ behind. omega arith) outside in
    let line = flat_line (only L U p) base n (weigh (λ x. x) L) (λ q from upto. only_there L U p q (other q from upto)) in
    let narrows = (did.swept (base + n + 1 + p + 1) (omega arith)).narrows in
    let kept = narrows.keeps (only L U p) line (only_within L U p _) in (
      le_antisymm (omega (arith, kept.lowers p (omega arith), (only_here L U p).0)) (narrows.within.lowers p (omega arith)),
      le_antisymm (narrows.within.uppers p (omega arith)) (omega (arith, kept.uppers p (omega arith), (only_here L U p).1)),
    )
