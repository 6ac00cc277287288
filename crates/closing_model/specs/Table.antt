-- Tables of bounds and what it is to be closed (document 01, 'Closing'). Values (document 01: types) count from 0 to k - 1, prefixes
-- (document 01: ends) have lengths from 0 to n. A table is two functions of a place: entry (v, t) stands at place v * (n + 1) + t.
--   Table, view L U      lowers and uppers by place; the table that two lists hold
--   size n k, place n v t   how many places there are, and where entry (v, t) stands
--   others n k f v t     the sum of f over the values other than v, at prefix t
--   Closed n k T         document 01's five rules hold
--   Within m A B         B lies within A at the first m places: lowers no smaller, uppers no larger
--   Loosest n k A B      B is the closed table within A with the smallest lowers and the largest uppers
--   NoneClosed n k A     no closed table lies within A (document 01: dead)
-- Assumes nothing.
use Rattle.std.specs.Prelude.{cond, List, ℕ, zero, suc, ◌+◌, ◌*◌, ◌≤◌, ◌<◌, eqb, get_or}

pub record Table : Type 0 where
  pub lower : ℕ → ℕ
  pub upper : ℕ → ℕ

abbrev pub view : List ℕ → List ℕ → Table
view L U = record { lower = λ p. get_or L p 0; upper = λ p. get_or U p 0 }

abbrev pub size : ℕ → ℕ → ℕ
size n k = k * (n + 1)

abbrev pub place : ℕ → ℕ → ℕ → ℕ
place n v t = v * (n + 1) + t

unfoldable pub others : ℕ → ℕ → (ℕ → ℕ) → ℕ → ℕ → ℕ
others n zero f v t = 0
others n (suc w) f v t = others n w f v t + cond (eqb w v) 0 (f (place n w t))

-- Each rule in document 01's order. A rule that names t - 1 is said of t and t + 1, wherever both are prefixes. A difference stands as a
-- sum on the other side: "lower is at least t minus the others' uppers" is t ≤ lower + others, and "upper is at most t minus the others'
-- lowers" is upper + others ≤ t. So a difference below 0 asks nothing of a lower, and no upper meets it.
pub record Closed (n k : ℕ) (T : Table) : Type 0 where
  -- lower(t) is at least lower(t-1), and at least lower(t+1) - 1
  pub lower_before : (v t : ℕ) → v < k → t < n → T.lower (place n v t) ≤ T.lower (place n v (t + 1))
  pub lower_after : (v t : ℕ) → v < k → t < n → T.lower (place n v (t + 1)) ≤ T.lower (place n v t) + 1
  -- upper(t) is at most upper(t-1) + 1, and at most upper(t+1)
  pub upper_before : (v t : ℕ) → v < k → t < n → T.upper (place n v (t + 1)) ≤ T.upper (place n v t) + 1
  pub upper_after : (v t : ℕ) → v < k → t < n → T.upper (place n v t) ≤ T.upper (place n v (t + 1))
  -- lower(t) is at least t minus the sum of the other types' uppers at t
  pub lower_across : (v t : ℕ) → v < k → t ≤ n → t ≤ T.lower (place n v t) + others n k T.upper v t
  -- upper(t) is at most t minus the sum of the other types' lowers at t
  pub upper_across : (v t : ℕ) → v < k → t ≤ n → T.upper (place n v t) + others n k T.lower v t ≤ t
  -- lower(t) is at most upper(t)
  pub uncrossed : (v t : ℕ) → v < k → t ≤ n → T.lower (place n v t) ≤ T.upper (place n v t)

pub record Within (m : ℕ) (A B : Table) : Type 0 where
  pub lowers : (p : ℕ) → p < m → A.lower p ≤ B.lower p
  pub uppers : (p : ℕ) → p < m → B.upper p ≤ A.upper p

pub record Loosest (n k : ℕ) (A B : Table) : Type 0 where
  pub closed : Closed n k B
  pub within : Within (size n k) A B
  pub loosest : (T : Table) → Closed n k T → Within (size n k) A T → Within (size n k) B T

abbrev pub NoneClosed : ℕ → ℕ → Table → Type 0
NoneClosed n k A = (T : Table) → Closed n k T → Within (size n k) A T → ⊥
