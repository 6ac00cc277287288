-- The laws of `specs/Cross.antt`. No contract cites this file. `CrossInv`: the invariant of the loop that looks for a crossed entry, `cross_start`,
-- `cross_more` and `cross_done` its start, turn and end; `cross_some`, `cross_none`: what the arms know where it found one and where it found none.
-- Assumes nothing.
use mathlib.Core.Path.{◌≡◌, subst}
use mathlib.Core.Bool.{Bool, true, false}
use mathlib.Core.Logic.{dite}
use Prim.Native.Nat.{ℕ, ◌+◌, ◌-◌, ◌≤◌, ◌<◌}
use native.Mathlib.Decide.{ℕ_discrete}
use native.Mathlib.Omega.{arith}
use borrow.Author.Count.{below_more}
use borrow.Author.Tests.{lt-ltb, le-ltb}
use lib.Bits.{bit_or}
use lib.Dec.{ltb}
use Rattle.closing_model.specs.Table.{Table}
use Rattle.closing_model.proofs.EitherLaws.{either_gathers}
use Rattle.line_tests.specs.Cross.{CrossedIn, CrossAnswer}

-- ---- CrossAnswer
-- the invariant of the loop over the entries: no upper of the first t lacks more than gap to its lower
pub record CrossInv (p m gap t : ℕ) (T : Table) : Type 0 where
  pub upto : t ≤ m
  pub near : (i : ℕ) → i < t → T.lower (p + i) ≤ T.upper (p + i) + gap
  pub found : 0 < gap → CrossedIn p m T

pub cross_start : (p m : ℕ) (T : Table) → CrossInv p m 0 0 T
cross_start p m T = record { upto = omega arith; near = λ i i<0. absurd (omega arith); found = λ 0<0. absurd (omega arith) }

pub cross_more : (T : Table) {p m gap t a b d gap' : ℕ} → CrossInv p m gap t T → t < m → a ≡ T.lower (p + t) → b ≡ T.upper (p + t)
    → d ≡ a - b → gap' ≡ bit_or gap d → CrossInv p m gap' (t + 1) T
cross_more T {p} {gap = gap} {t = t} {d = d} {gap' = gap'} inv t<m a_is b_is d_is gap_is =
    let gathers = either_gathers gap d gap_is in
    record {
      upto = omega arith;
      near = below_more (λ i. T.lower (p + i) ≤ T.upper (p + i) + gap') t (λ i i<t. omega (arith, inv.near i i<t, gathers)) (omega (arith, gathers));
      found = λ 0<gap'.
          dite (ℕ_discrete gap 0) (λ none. record { offset = t; inside = t<m; crossed = omega (arith, gathers) }) (λ some. inv.found (omega arith));
    }

pub cross_done : (p m gap t : ℕ) (T : Table) → m ≤ t → CrossInv p m gap t T → CrossAnswer p m T (ltb 0 gap)
cross_done p m gap t T m≤t inv =
    dite (ℕ_discrete gap 0) (λ none. rw (le-ltb 0 gap (omega arith)) (λ i i<m. omega (arith, inv.near i (omega arith))))
    (λ some. rw (lt-ltb 0 gap (omega arith)) (inv.found (omega arith)))

pub cross_some : (p m : ℕ) (T : Table) {r : Bool} → CrossAnswer p m T r → r ≡ true → CrossedIn p m T
cross_some p m T answer e = subst (λ (b : Bool). CrossAnswer p m T b) e answer

pub cross_none : (p m : ℕ) (T : Table) {r : Bool} → CrossAnswer p m T r → r ≡ false → (i : ℕ) → i < m → T.lower (p + i) ≤ T.upper (p + i)
cross_none p m T answer e = subst (λ (b : Bool). CrossAnswer p m T b) e answer
