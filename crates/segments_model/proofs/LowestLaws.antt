-- Of the corners from a prefix on, the last of those with the least slack (`lowest`): there is one, or there is no corner. It is a right end
-- where its slack is above 0, which is what `covers_of_cells` needs. By induction on the prefixes from n down.
-- No contract cites this file. Assumes nothing.
use mathlib.Core.Path.{◌≡◌, refl, sym, ap, ◌∙◌}
use mathlib.Core.Bool.{Bool, true, false, true≢false}
use mathlib.Core.Logic.{◌⊎◌, inl, inr, dite}
use Prim.Native.Nat.{ℕ, zero, suc, ◌+◌, ◌≤◌, ◌<◌}
use native.Mathlib.Nat.{le_refl}
use native.Mathlib.Decide.{ℕ_discrete, dec_lt}
use native.Mathlib.Omega.{arith}

-- the last corner with the least slack of those from j on
pub record Lowest (n : ℕ) (C : ℕ → Bool) (f : ℕ → ℕ) (j w : ℕ) : Type 0 where
  pub from : j ≤ w
  pub inside : w ≤ n
  pub corner : C w ≡ true
  pub least : (u : ℕ) → j ≤ u → u ≤ n → C u ≡ true → f w ≤ f u
  pub last : (u : ℕ) → w < u → u ≤ n → C u ≡ true → f w < f u

module _ (n : ℕ) (C : ℕ → Bool) (f : ℕ → ℕ) where
  abbrev pub Found : ℕ → Type 0
  Found j = ((u : ℕ) → j ≤ u → u ≤ n → C u ≡ true → ⊥) ⊎ ((w : ℕ) × Lowest n C f j w)

  -- from j on, where the lowest from j + 1 on has no more slack than j, if j is a corner
  lowest_same : (j w : ℕ) → Lowest n C f (suc j) w → (C j ≡ true → f w ≤ f j) → Found j
  lowest_same j w lo here =
      inr (
        w,
        record {
          from = omega (arith, lo.from);
          inside = lo.inside;
          corner = lo.corner;
          least = λ u j≤u u≤n corner.
              dite (ℕ_discrete u j) (λ e. rw e (here (sym (ap C e) ∙ corner))) (λ ne. lo.least u (omega arith) u≤n corner);
          last = lo.last;
        },
      )

  -- j is the lowest
  lowest_here : (j : ℕ) → j ≤ n → C j ≡ true → ((u : ℕ) → j < u → u ≤ n → C u ≡ true → f j < f u) → Found j
  lowest_here j j≤n corner more =
      inr (
        j,
        record {
          from = le_refl _;
          inside = j≤n;
          corner = corner;
          least = λ u j≤u u≤n corner_u. dite (ℕ_discrete u j) (λ e. rw e (le_refl _)) (λ ne. omega (arith, more u (omega arith) u≤n corner_u));
          last = more;
        },
      )

  lowest_skip : (j : ℕ) → C j ≡ false → Found (suc j) → Found j
  lowest_skip j flat (inl none) =
      inl
      (λ u j≤u u≤n corner.
      dite (ℕ_discrete u j) (λ e. true≢false (sym corner ∙ ap C e ∙ flat)) (λ ne. none u (omega arith) u≤n corner))
  lowest_skip j flat (inr (w, lo)) = lowest_same j w lo (λ corner. absurd (true≢false (sym corner ∙ flat)))

  lowest_take : (j : ℕ) → j ≤ n → C j ≡ true → Found (suc j) → Found j
  lowest_take j j≤n corner (inl none) = lowest_here j j≤n corner (λ u j<u u≤n corner_u. absurd (none u (omega arith) u≤n corner_u))
  lowest_take j j≤n corner (inr (w, lo)) =
      dite (dec_lt (f j) (f w)) (λ less. lowest_here j j≤n corner (λ u j<u u≤n corner_u. omega (arith, lo.least u (omega arith) u≤n corner_u)))
      (λ more. lowest_same j w lo (λ _. omega arith))

  lowest_step : (j : ℕ) → j ≤ n → (b : Bool) → C j ≡ b → Found (suc j) → Found j
  lowest_step j j≤n true e rest = lowest_take j j≤n e rest
  lowest_step j j≤n false e rest = lowest_skip j e rest

  pub lowest : (k j : ℕ) → j + k ≡ n + 1 → Found j
  lowest zero j e = inl (λ u j≤u u≤n corner. omega arith)
  lowest (suc k) j e = lowest_step j (omega arith) (C j) refl (lowest k (suc j) (omega arith))
