-- What the steps of a sweep do to two lists that hold a table: the relations that the contracts of `stores`, `lines` and `columns` cite.
--   column_sum n k f t    the sum of f over the first k values, at prefix t
--   widest n k T t       the widest gap from a lower to its upper over the first k values, at prefix t
--   SumsAre              what the uppers and the lowers of all values sum up to, at prefix t
--   Fwd p, Bwd p         the rules from place p to the next of its line, and from that one back to p
--   Fwds, Bwds, Line     the same along a line that starts at place base: its first n pairs, its pairs from t to n, both
--   Steps f p, Stairs    f is the same or one more at the next place; so at each of the n pairs from base on
--   Decides P r          r says whether P holds
--   Crosswise, Across    the rules across the values, with the whole sum: at one value, at every value
--   Columns n k e        the same at every prefix below e
--   ClosedBySums n k     all rules in this form (`closed_by_sums`, `by_sums_closed`: it is `Closed`)
--   Narrows m P A B      B lies within A, and every table with P within A lies within B
--   raised, lowered      a list with one entry raised, or lowered, to a number
--   Stored               both lists after the lower at a place was raised and the upper there lowered
--   weigh, slack         what is left to fall: each store of a rule makes it less (document 01's slack of a corner is another thing)
--   Swept, Ran, Did      what a run of rules did to the lists; r says whether it stored
--   Passed               the same where no one is told whether it stored
-- Assumes nothing.
use Rattle.std.specs.Prelude.{◌≡◌, Bool, true, false, cond, ◌||◌, List, [], ◌∷◌, ℕ, zero, suc, ◌+◌, ◌-◌, ◌*◌, ◌≤◌, ◌<◌, max, ltb, length, get_or, set}
use Rattle.closing_model.specs.Table.{Table, view, place, Within}

unfoldable pub column_sum : ℕ → ℕ → (ℕ → ℕ) → ℕ → ℕ
column_sum n zero f t = 0
column_sum n (suc v) f t = column_sum n v f t + f (place n v t)

unfoldable pub widest : ℕ → ℕ → Table → ℕ → ℕ
widest n zero T t = 0
widest n (suc v) T t = max (widest n v T t) (T.upper (place n v t) - T.lower (place n v t))

pub record SumsAre (n k t su sl : ℕ) (T : Table) : Type 0 where
  pub uppers : column_sum n k T.upper t ≡ su
  pub lowers : column_sum n k T.lower t ≡ sl

-- ---- the rules along a line
pub record Fwd (p : ℕ) (T : Table) : Type 0 where
  pub lower : T.lower p ≤ T.lower (p + 1)
  pub upper : T.upper (p + 1) ≤ T.upper p + 1

pub record Bwd (p : ℕ) (T : Table) : Type 0 where
  pub lower : T.lower (p + 1) ≤ T.lower p + 1
  pub upper : T.upper p ≤ T.upper (p + 1)

abbrev pub Fwds : ℕ → ℕ → Table → Type 0
Fwds base n T = (t : ℕ) → t < n → Fwd (base + t) T

abbrev pub Bwds : ℕ → ℕ → ℕ → Table → Type 0
Bwds base t n T = (i : ℕ) → t ≤ i → i < n → Bwd (base + i) T

pub record Line (base n : ℕ) (T : Table) : Type 0 where
  pub fwd : Fwds base n T
  pub bwd : Bwds base 0 n T

-- of lowers as of uppers, the rules both ways say this
pub record Steps (f : ℕ → ℕ) (p : ℕ) : Type 0 where
  pub grows : f p ≤ f (p + 1)
  pub slowly : f (p + 1) ≤ f p + 1

abbrev pub Stairs : (ℕ → ℕ) → ℕ → ℕ → Type 0
Stairs f base n = (t : ℕ) → t < n → Steps f (base + t)

abbrev pub Decides : Type 0 → Bool → Type 0
Decides P true = P
Decides P false = P → ⊥

-- ---- the rules across the values
pub record Crosswise (n k t v : ℕ) (T : Table) : Type 0 where
  pub lower : t + T.upper (place n v t) ≤ T.lower (place n v t) + column_sum n k T.upper t
  pub upper : T.upper (place n v t) + column_sum n k T.lower t ≤ t + T.lower (place n v t)

abbrev pub Across : ℕ → ℕ → ℕ → Table → Type 0
Across n k t T = (v : ℕ) → v < k → Crosswise n k t v T

abbrev pub Columns : ℕ → ℕ → ℕ → Table → Type 0
Columns n k e T = (t : ℕ) → t < e → Across n k t T

pub record ClosedBySums (n k : ℕ) (T : Table) : Type 0 where
  pub along : (v : ℕ) → v < k → Line (v * (n + 1)) n T
  pub across : (t : ℕ) → t ≤ n → Across n k t T
  pub uncrossed : (v t : ℕ) → v < k → t ≤ n → T.lower (place n v t) ≤ T.upper (place n v t)

-- ---- what a store does
pub record Narrows (m : ℕ) (P : Table → Type 0) (A B : Table) : Type 0 where
  pub within : Within m A B
  pub keeps : (T : Table) → P T → Within m A T → Within m B T

abbrev pub raised : List ℕ → ℕ → ℕ → List ℕ
raised l p x = cond (ltb (get_or l p 0) x) (set l p x) l

abbrev pub lowered : List ℕ → ℕ → ℕ → List ℕ
lowered l p x = cond (ltb x (get_or l p 0)) (set l p x) l

-- what two stores at one place do
pub record Stored (L U L' U' : List ℕ) (p x y : ℕ) (r : Bool) : Type 0 where
  pub lowers : L' ≡ raised L p x
  pub uppers : U' ≡ lowered U p y
  pub flag : r ≡ (ltb (get_or L p 0) x || ltb y (get_or U p 0))

unfoldable pub weigh : (ℕ → ℕ) → List ℕ → ℕ
weigh f [] = 0
weigh f (x ∷ xs) = f x + weigh f xs

-- entries are numbers of 16 bits
abbrev pub slack : List ℕ → List ℕ → ℕ
slack L U = weigh (λ x. 65536 - x) L + weigh (λ x. x) U

-- ---- what a run of rules does
pub record Swept (m : ℕ) (P : Table → Type 0) (L U L' U' : List ℕ) (r : Bool) : Type 0 where
  pub narrows : Narrows m P (view L U) (view L' U')
  pub size_l : length L' ≡ length L
  pub size_u : length U' ≡ length U
  pub less : slack L' U' ≤ slack L U
  pub moved : r ≡ true → slack L' U' < slack L U
  pub still : r ≡ false → (L' ≡ L) × (U' ≡ U)

-- a run of the rules P, whose places lie below edge; where it stored nothing, Q holds
pub record Ran (edge : ℕ) (P Q : Table → Type 0) (L U L' U' : List ℕ) (r : Bool) : Type 0 where
  pub swept : (m : ℕ) → edge ≤ m → Swept m P L U L' U' r
  pub size_l : length L' ≡ length L
  pub size_u : length U' ≡ length U
  pub rules : r ≡ false → Q (view L' U')

-- the same where it is the rules themselves that hold
abbrev pub Did : ℕ → (Table → Type 0) → List ℕ → List ℕ → List ℕ → List ℕ → Bool → Type 0
Did edge P = Ran edge P P

pub record Passed (edge : ℕ) (P : Table → Type 0) (L U L' U' : List ℕ) : Type 0 where
  pub stored : Bool
  pub did : Did edge P L U L' U' stored
