-- Staircases and their corners, over bare functions of the end; no masks here. `corners_suffice`: a count that is within an upper staircase
-- at its corners is so at every end, and what holds where it meets the staircase at a corner holds where it meets it anywhere. t less a
-- lower staircase is an upper one with its corners at the lower corners (`co_staircase`, `co_corner`), so one law serves both kinds.
-- No contract cites this file. Assumes nothing.
use mathlib.Core.Path.{◌≡◌, refl, ap, ◌∙◌}
use mathlib.Core.Logic.{dite}
use Prim.Native.Nat.{ℕ, zero, suc, ◌+◌, ◌-◌, ◌≤◌, ◌<◌}
use native.Mathlib.Numerals.{add-one}
use native.Mathlib.Decide.{ℕ_discrete}
use native.Mathlib.Omega.{arith}
use Rattle.domains.specs.Counts.{count}
use Rattle.closing_model.specs.Corners.{UpperCorner, LowerCorner, Staircase}
use Rattle.settling_model.specs.Corners.{Meets}

-- ---- Staircase
pub staircase_le : (n : ℕ) (u : ℕ → ℕ) → Staircase n u → (t : ℕ) → t ≤ n → u t ≤ t
staircase_le n u stairs zero t≤n = omega (arith, stairs.start)
staircase_le n u stairs (suc t) t≤n = omega (arith, staircase_le n u stairs t (omega arith), stairs.slowly t t≤n)

pub count_staircase : (n : ℕ) (f : ℕ → ℕ) → ((s : ℕ) → f s < 2) → Staircase n (count f)
unfolding count
count_staircase n f small = record { start = refl; grows = λ t t<n. omega arith; slowly = λ t t<n. omega (arith, small t) }

-- ---- t less a staircase
abbrev pub co : (ℕ → ℕ) → ℕ → ℕ
co l t = t - l t

module _ (n : ℕ) (l : ℕ → ℕ) (stairs : Staircase n l) where
  pub co_staircase : Staircase n (co l)
  co_staircase =
      record {
        start = omega arith;
        grows = λ t t<n. omega (arith, stairs.slowly t t<n);
        slowly = λ t t<n. omega (arith, stairs.grows t t<n);
      }

  pub co_corner : (t : ℕ) → UpperCorner n (co l) t → LowerCorner n l t
  co_corner t corner =
      let here = staircase_le n l stairs t corner.upto in
      record {
        from = corner.from;
        upto = corner.upto;
        rises = omega (arith, corner.from, corner.upto, corner.flat, here, staircase_le n l stairs (t - 1) (omega (arith, corner.upto)));
        flat = λ t<n. omega (arith, corner.rises t<n, here, staircase_le n l stairs (t + 1) (omega arith));
      }

-- ---- corners suffice
-- a staircase u, a count c, and S, which holds at 0, is kept as t falls, and as t grows where the count grows
module _ (n : ℕ) (u c : ℕ → ℕ) (S : ℕ → Type 0) (stairs : Staircase n u) (counts : Staircase n c) (start : S 0)
    (back : (t : ℕ) → t < n → S (suc t) → S t) (on : (t : ℕ) → t < n → c (suc t) ≡ c t + 1 → S t → S (suc t))
    (corners : (t : ℕ) → UpperCorner n u t → Meets u c S t) where
  -- flat into t + 1: the flat run ends in a corner, d steps on at most
  flat_meets : (d t : ℕ) → suc t + d ≡ n → u (suc t) ≡ u t → Meets u c S (suc t)
  flat_meets zero t far flat =
      corners (suc t)
      (record { from = omega arith; upto = omega arith; flat = flat ∙ ap u (omega arith); rises = λ more. absurd (omega arith) })
  flat_meets (suc d) t far flat =
      dite (ℕ_discrete (u (suc (suc t))) (u (suc t))) (λ flat'. longer flat' (flat_meets d (suc t) (omega arith) flat')) turns
    where
      longer : u (suc (suc t)) ≡ u (suc t) → Meets u c S (suc (suc t)) → Meets u c S (suc t)
      longer flat' next =
          let grows = counts.grows (suc t) (omega arith) in
          record { within = omega (arith, next.within); tight = λ met. back (suc t) (omega arith) (next.tight (omega (arith, next.within))) }

      turns : (u (suc (suc t)) ≡ u (suc t) → ⊥) → Meets u c S (suc t)
      turns not_flat =
          let up : u (suc (suc t)) ≡ u (suc t) + 1 = omega (arith, stairs.grows (suc t) (omega arith), stairs.slowly (suc t) (omega arith)) in
          corners (suc t)
          (record { from = omega arith; upto = omega arith; flat = flat ∙ ap u (omega arith); rises = λ more. ap u (add-one (suc t)) ∙ up })

  -- rising into t + 1: the count rose no faster
  pub corners_suffice : (t : ℕ) → t ≤ n → Meets u c S t
  corners_suffice zero t≤n = record { within = omega (arith, counts.start); tight = λ met. start }
  corners_suffice (suc t) t≤n =
      dite (ℕ_discrete (u (suc t)) (u t)) (flat_meets (n - suc t) t (omega arith)) (rising (corners_suffice t (omega arith)))
    where
      rising : Meets u c S t → (u (suc t) ≡ u t → ⊥) → Meets u c S (suc t)
      rising last not_flat =
          let up : u (suc t) ≡ u t + 1 = omega (arith, stairs.grows t t≤n, stairs.slowly t t≤n) in
          let slowly = counts.slowly t t≤n in
          record {
            within = omega (arith, last.within);
            tight = λ met. on t t≤n (omega (arith, last.within)) (last.tight (omega (arith, last.within)));
          }
