-- The laws of `specs/Order.antt`: the canonical rows stand by type, then end, each place once (`canonical_ordered`). So rows that have one at the place of each
-- of them are no fewer (`ordered_fewest`), and so are rows that fill, type by type, to the table (`canonical_fewest`): a shortest book. No contract cites this
-- file. Assumes nothing.
use mathlib.Core.Path.{◌≡◌, refl, sym, ap, ◌∙◌}
use mathlib.Core.Bool.{Bool, true, false, cond}
use mathlib.Core.Logic.{inl, inr}
use mathlib.Core.List.{List, [], ◌∷◌, ◌++◌}
use Prim.Native.Nat.{ℕ, zero, suc, ◌≤◌, ◌<◌, zero-le}
use native.Mathlib.Omega.{arith}
use lib.ListN.{length}
use Rattle.book.specs.declared.Row.{Row}
use Rattle.book.specs.Lists.{All, Any}
use Rattle.closing_model.specs.Table.{Table}
use Rattle.settling_model.proofs.StableLaws.{all_map, all_zip, all_append}
use Rattle.filled_model.specs.Filled.{LooselyFilled}
use Rattle.filled_model.specs.Given.{start_of, Placed, Gives}
use Rattle.canonical_model.specs.CornerRows.{corner_row, has_corner, corner_rows, line_rows, canonical_rows}
use Rattle.canonical_model.specs.Order.{Before, Ordered}
use Rattle.canonical_model.proofs.CornerRowsLaws.{canonical_all, rows_needed}

-- ---- Before
type_before : (r q : Row) → r.value < q.value → Before r q
type_before r q less = inl less

end_before : (r q : Row) → r.value ≡ q.value → r.end < q.end → Before r q
end_before r q same less = inr (same, less)

before_apart : (c q r : Row) → Before c q → Placed (λ x. Unit {0}) c.value c.end r → Placed (λ x. Unit {0}) q.value q.end r → ⊥
before_apart c q r (inl less) here there = omega (arith, here.value, there.value)
before_apart c q r (inr later) here there = omega (arith, here.end, there.end, later.1)

-- ---- Ordered
ordered_append : (rs qs : List Row) → Ordered rs → Ordered qs → All (λ r. All (Before r) qs) rs → Ordered (rs ++ qs)
ordered_append [] qs one other across = other
ordered_append (r ∷ rs) qs one other across =
    (all_append (Before r) rs qs one.0 across.0, ordered_append rs qs one.1 other across.1)

module _ (n : ℕ) (T : Table) where
  -- where the rows of a corner, of a line, and all of them stand
  corner_at : (v t : ℕ) → All (λ r. (r.value ≡ v) × (r.end ≡ t)) (corner_rows n T v t)
  unfolding corner_rows
  corner_at v t = go (has_corner n T v t)
    where
      go : (has : Bool) → All (λ r. (r.value ≡ v) × (r.end ≡ t)) (cond has (corner_row n T v t ∷ []) [])
      go true = ((refl, refl), tt)
      go false = tt

  line_at : (v e : ℕ) → All (λ r. (r.value ≡ v) × (r.end ≤ e)) (line_rows n T v e)
  unfolding line_rows
  line_at v zero = tt
  line_at v (suc e) =
      all_append (λ r. (r.value ≡ v) × (r.end ≤ suc e)) (line_rows n T v e) (corner_rows n T v (suc e))
      (all_map (λ r. (r.value ≡ v) × (r.end ≤ e)) (λ r. (r.value ≡ v) × (r.end ≤ suc e)) (line_rows n T v e) (λ r at. (at.0, omega (arith, at.1)))
      (line_at v e))
      (all_map (λ r. (r.value ≡ v) × (r.end ≡ suc e)) (λ r. (r.value ≡ v) × (r.end ≤ suc e)) (corner_rows n T v (suc e))
      (λ r at. (at.0, omega (arith, at.1))) (corner_at v (suc e)))

  rows_below : (k : ℕ) → All (λ r. r.value < k) (canonical_rows n k T)
  rows_below k = canonical_all n T (λ r. r.value < k) k (λ v t v<k 0<t t≤n corner. v<k)

  corner_ordered : (v t : ℕ) → Ordered (corner_rows n T v t)
  unfolding corner_rows
  corner_ordered v t = go (has_corner n T v t)
    where
      go : (has : Bool) → Ordered (cond has (corner_row n T v t ∷ []) [])
      go true = (tt, tt)
      go false = tt

  line_ordered : (v e : ℕ) → Ordered (line_rows n T v e)
  unfolding line_rows
  line_ordered v zero = tt
  line_ordered v (suc e) =
      ordered_append (line_rows n T v e) (corner_rows n T v (suc e)) (line_ordered v e) (corner_ordered v (suc e))
      (all_map (λ r. (r.value ≡ v) × (r.end ≤ e)) (λ r. All (Before r) (corner_rows n T v (suc e))) (line_rows n T v e)
      (λ r here.
      all_map (λ q. (q.value ≡ v) × (q.end ≡ suc e)) (Before r) (corner_rows n T v (suc e))
      (λ q there. end_before r q (here.0 ∙ sym there.0) (omega (arith, here.1, there.1))) (corner_at v (suc e)))
      (line_at v e))

  -- document 02: "by type then end"
  pub canonical_ordered : (k : ℕ) → Ordered (canonical_rows n k T)
  unfolding canonical_rows
  canonical_ordered zero = tt
  canonical_ordered (suc k) =
      ordered_append (canonical_rows n k T) (line_rows n T k n) (canonical_ordered k) (line_ordered k n)
      (all_map (λ r. r.value < k) (λ r. All (Before r) (line_rows n T k n)) (canonical_rows n k T)
      (λ r here.
      all_map (λ q. (q.value ≡ k) × (q.end ≤ n)) (Before r) (line_rows n T k n) (λ q there. type_before r q (omega (arith, here, there.0))) (line_at k n))
      (rows_below k))

-- ---- a row less
module _ (D : Row → Type 0) where
  -- the rows but one that has D
  rest : (rs : List Row) → Any D rs → List Row
  rest [] any = absurd any
  rest (r ∷ rs) (inl here) = rs
  rest (r ∷ rs) (inr later) = r ∷ rest rs later

  rest_length : (rs : List Row) (any : Any D rs) → suc (length (rest rs any)) ≡ length rs
  unfolding rest
  rest_length [] any = absurd any
  rest_length (r ∷ rs) (inl here) = refl
  rest_length (r ∷ rs) (inr later) = ap suc (rest_length rs later)

  -- a row with E is still there where none has both
  rest_any : (E : Row → Type 0) → ((r : Row) → D r → E r → ⊥) → (rs : List Row) (any : Any D rs) → Any E rs → Any E (rest rs any)
  unfolding rest
  rest_any E apart [] any other = absurd any
  rest_any E apart (r ∷ rs) (inl here) (inl there) = absurd (apart r here there)
  rest_any E apart (r ∷ rs) (inl here) (inr there) = there
  rest_any E apart (r ∷ rs) (inr later) (inl there) = inl there
  rest_any E apart (r ∷ rs) (inr later) (inr there) = inr (rest_any E apart rs later there)

abbrev At : Row → Row → Type 0
At c = Placed (λ r. Unit {0}) c.value c.end

-- ---- rows with one at the place of each of these
pub ordered_fewest : (cs rs : List Row) → Ordered cs → All (λ c. Gives (λ r. Unit {0}) rs c.value c.end) cs → length cs ≤ length rs
ordered_fewest [] rs ordered given = zero-le
ordered_fewest (c ∷ cs) rs ordered given =
    let fewer = rest (At c) rs given.0 in
    let still : All (λ q. Gives (λ r. Unit {0}) fewer q.value q.end) cs =
    all_zip (Before c) (λ q. Gives (λ r. Unit {0}) rs q.value q.end) (λ q. Gives (λ r. Unit {0}) fewer q.value q.end) cs
    (λ q before there. rest_any (At c) (At q) (λ r. before_apart c q r before) rs given.0 there) ordered.0 given.1
    in
    omega (arith, ordered_fewest cs fewer ordered.1 still, rest_length (At c) rs given.0)

pub canonical_fewest : (n k : ℕ) (rs : List Row) (T : Table) → LooselyFilled n k (start_of n k rs) T → length (canonical_rows n k T) ≤ length rs
canonical_fewest n k rs T loosely = ordered_fewest (canonical_rows n k T) rs (canonical_ordered n T k) (rows_needed n k rs T loosely)
