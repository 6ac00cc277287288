-- Filling (document 02, request six: "filling means closing's first two rules only"): the rules along each type's line, and none across. A kind is a Bool:
-- true for the lower bounds, false for the upper ones.
--   Stepwise n f             f grows by 0 or 1 at each step up to n: what the two rules say of a line, of lowers as of uppers
--   Inside kind x a          x keeps the bound a: no smaller than a lower bound, no larger than an upper one
--   LineFilled kind n a u    u is the loosest such line inside the bounds a
--   LineRules n k T          the first two rules hold of the table T, for every type below k
--   LooselyFilled n k A B    B is the loosest table within A of which they hold (document 02: A fills, type by type, to B)
-- A filled table may be crossed. `filled` of `specs/Filling.antt` computes it: `filled_loosely` and `loosely_filled`. Assumes nothing.
use Rattle.std.specs.Prelude.{Bool, true, false, ℕ, suc, ◌+◌, ◌≤◌, ◌<◌}
use Rattle.closing_model.specs.Table.{Table, size, place, Within}

-- ---- a line
pub record Stepwise (n : ℕ) (f : ℕ → ℕ) : Type 0 where
  pub grows : (t : ℕ) → t < n → f t ≤ f (suc t)
  pub slowly : (t : ℕ) → t < n → f (suc t) ≤ f t + 1

abbrev pub Inside : Bool → ℕ → ℕ → Type 0
Inside true x a = a ≤ x
Inside false x a = x ≤ a

pub record LineFilled (kind : Bool) (n : ℕ) (a u : ℕ → ℕ) : Type 0 where
  pub steps : Stepwise n u
  pub within : (t : ℕ) → t ≤ n → Inside kind (u t) (a t)
  pub loosest : (w : ℕ → ℕ) → Stepwise n w → ((t : ℕ) → t ≤ n → Inside kind (w t) (a t)) → (t : ℕ) → t ≤ n → Inside kind (w t) (u t)

-- ---- a table
-- the first four of the rules of `Closed`
pub record LineRules (n k : ℕ) (T : Table) : Type 0 where
  -- lower(t) is at least lower(t-1), and at least lower(t+1) - 1
  pub lower_before : (v t : ℕ) → v < k → t < n → T.lower (place n v t) ≤ T.lower (place n v (t + 1))
  pub lower_after : (v t : ℕ) → v < k → t < n → T.lower (place n v (t + 1)) ≤ T.lower (place n v t) + 1
  -- upper(t) is at most upper(t-1) + 1, and at most upper(t+1)
  pub upper_before : (v t : ℕ) → v < k → t < n → T.upper (place n v (t + 1)) ≤ T.upper (place n v t) + 1
  pub upper_after : (v t : ℕ) → v < k → t < n → T.upper (place n v t) ≤ T.upper (place n v (t + 1))

pub record LooselyFilled (n k : ℕ) (A B : Table) : Type 0 where
  pub rules : LineRules n k B
  pub within : Within (size n k) A B
  pub loosest : (T : Table) → LineRules n k T → Within (size n k) A T → Within (size n k) B T
