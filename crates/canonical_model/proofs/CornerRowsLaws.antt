-- The laws of `specs/CornerRows.antt`. What holds of each corner's row holds of all canonical rows (`canonical_all`), and each corner's row is one of them
-- (`canonical_any`). So the canonical rows of a closed table fill to it (`canonical_filled`), and close to it (`canonical_loosest`); and rows that fill to it
-- have one at each corner, with the bound itself (`corner_needed`), so one at each place of a canonical row (`rows_needed`). No contract cites this file.
-- Assumes nothing.
use mathlib.Core.Path.{◌≡◌, refl, sym, ap, ap₂, ◌∙◌}
use mathlib.Core.Bool.{Bool, true, false, cond, ◌||◌, true≢false}
use mathlib.Core.Logic.{inl, dite}
use mathlib.Core.List.{List, [], ◌∷◌}
use Prim.Native.Nat.{ℕ, zero, suc, ◌-◌, ◌≤◌, ◌<◌}
use native.Mathlib.Nat.{le_refl}
use native.Mathlib.Decide.{ℕ_discrete}
use native.Mathlib.Omega.{arith}
use Rattle.book.specs.declared.Row.{Row}
use Rattle.book.specs.Lists.{All, Any}
use Rattle.closing_model.specs.Table.{Table, Closed, Loosest}
use Rattle.closing_model.specs.Corners.{Staircase, bound_line}
use Rattle.closing_model.specs.Start.{speaks}
use Rattle.closing_model.proofs.TableLaws.{closed_upper_staircase, closed_lower_staircase}
use Rattle.settling_model.proofs.StableLaws.{all_append}
use Rattle.settling_model.proofs.StaircaseLaws.{staircase_le}
use Rattle.settling_model.proofs.CrossedRowLaws.{upper_upto}
use Rattle.segments_model.specs.Lines.{corner_of}
use Rattle.segments_model.proofs.LinesLaws.{corner_steps}
use Rattle.filled_model.specs.Filled.{Stepwise, Inside, LineFilled, LooselyFilled}
use Rattle.filled_model.specs.Given.{side_of, unbound, given_by, start_of, Placed, Gives}
use Rattle.filled_model.proofs.CornersLaws.{corner_given, corners_filled}
use Rattle.filled_model.proofs.FilledLaws.{closed_rules, rules_steps, lines_filled, filled_line_lem, filled_loosest}
use Rattle.filled_model.proofs.FillingLaws.{inside_both, inside_same, inside_of}
use Rattle.filled_model.proofs.GivenLaws.{any_left, any_right, gives_map, at_speaks, inside_rows, row_given, given_source, start_given}
use Rattle.canonical_model.specs.CornerRows.{no_bound, corner_side, corner_row, has_corner, corner_rows, line_rows, canonical_rows}

-- ---- corner_side
-- a side without a corner has no bound, and one with a corner has its bound
module _ (kind : Bool) (n : ℕ) (T : Table) (v t : ℕ) where
  pub side_free : corner_of kind n (bound_line kind n T v) t ≡ false → corner_side kind n T v t ≡ no_bound kind
  side_free free = ap (λ (is : Bool). cond is (bound_line kind n T v t) (no_bound kind)) free

  pub side_corner : corner_of kind n (bound_line kind n T v) t ≡ true → corner_side kind n T v t ≡ bound_line kind n T v t
  side_corner corner = ap (λ (is : Bool). cond is (bound_line kind n T v t) (no_bound kind)) corner

-- ---- has_corner
pub corner_has : (kind : Bool) (n : ℕ) (T : Table) (v t : ℕ) → corner_of kind n (bound_line kind n T v) t ≡ true → has_corner n T v t ≡ true
corner_has true n T v t corner = rw corner
corner_has false n T v t corner = go (corner_of true n (bound_line true n T v) t)
  where
    go : (low : Bool) → (low || corner_of false n (bound_line false n T v) t) ≡ true
    go true = refl
    go false = corner

-- ---- canonical_rows
module _ (n : ℕ) (T : Table) (C : Row → Type 0) where
  corner_all : (v t : ℕ) → (has_corner n T v t ≡ true → C (corner_row n T v t)) → All C (corner_rows n T v t)
  unfolding corner_rows
  corner_all v t each = go (has_corner n T v t) each
    where
      go : (has : Bool) → (has ≡ true → C (corner_row n T v t)) → All C (cond has (corner_row n T v t ∷ []) [])
      go true each = (each refl, tt)
      go false each = tt

  line_all : (v e : ℕ) → e ≤ n → ((t : ℕ) → 0 < t → t ≤ n → has_corner n T v t ≡ true → C (corner_row n T v t)) → All C (line_rows n T v e)
  unfolding line_rows
  line_all v zero e≤n each = tt
  line_all v (suc e) e≤n each =
      all_append C (line_rows n T v e) (corner_rows n T v (suc e)) (line_all v e (omega arith) each) (corner_all v (suc e) (each (suc e) (omega arith) e≤n))

  pub canonical_all : (k : ℕ) → ((v t : ℕ) → v < k → 0 < t → t ≤ n → has_corner n T v t ≡ true → C (corner_row n T v t)) → All C (canonical_rows n k T)
  unfolding canonical_rows
  canonical_all zero each = tt
  canonical_all (suc k) each =
      all_append C (canonical_rows n k T) (line_rows n T k n) (canonical_all k (λ v t v<k. each v t (omega arith)))
      (line_all k n (le_refl n) (λ t. each k t (omega arith)))

  corner_any : (v t : ℕ) → has_corner n T v t ≡ true → C (corner_row n T v t) → Any C (corner_rows n T v t)
  unfolding corner_rows
  corner_any v t corner has = go (has_corner n T v t) corner
    where
      go : (b : Bool) → b ≡ true → Any C (cond b (corner_row n T v t ∷ []) [])
      go true e = inl has
      go false e = absurd (true≢false (sym e))

  line_any : (v t : ℕ) → Any C (corner_rows n T v t) → (e : ℕ) → 0 < t → t ≤ e → Any C (line_rows n T v e)
  unfolding line_rows
  line_any v t any zero 0<t t≤e = absurd (omega arith)
  line_any v t any (suc e) 0<t t≤e =
      dite (ℕ_discrete t (suc e)) (λ last. any_right C (line_rows n T v e) (corner_rows n T v (suc e)) (rw last at any))
      (λ before. any_left C (line_rows n T v e) (corner_rows n T v (suc e)) (line_any v t any e 0<t (omega arith)))

  pub canonical_any : (k v t : ℕ) → v < k → 0 < t → t ≤ n → has_corner n T v t ≡ true → C (corner_row n T v t) → Any C (canonical_rows n k T)
  unfolding canonical_rows
  canonical_any zero v t v<k 0<t t≤n corner has = absurd (omega arith)
  canonical_any (suc k) v t v<k 0<t t≤n corner has =
      dite (ℕ_discrete v k)
      (λ last. any_right C (canonical_rows n k T) (line_rows n T k n) (rw last at (line_any v t (corner_any v t corner has) n 0<t t≤n)))
      (λ before. any_left C (canonical_rows n k T) (line_rows n T k n) (canonical_any k v t (omega arith) 0<t t≤n corner has))

-- ---- the canonical rows fill to their table
side_of_lem : (kind : Bool) (n : ℕ) (T : Table) (v t : ℕ) → side_of kind (corner_row n T v t) ≡ corner_side kind n T v t
side_of_lem true n T v t = refl
side_of_lem false n T v t = refl

module _ (n k : ℕ) (T : Table) (closed : Closed n k T) where
  stairs : (kind : Bool) (v : ℕ) → v < k → Staircase n (bound_line kind n T v)
  stairs true v v<k = closed_lower_staircase n k T closed v v<k
  stairs false v v<k = closed_upper_staircase n k T closed v v<k

  steps : (kind : Bool) (v : ℕ) → v < k → Stepwise n (bound_line kind n T v)
  steps kind v v<k = rules_steps kind (closed_rules closed) v v<k

  -- what asks nothing: of a row, where no end is above 65535, and of the starting table
  none_inside : (kind : Bool) (v t : ℕ) → n ≤ 65535 → v < k → t ≤ n → Inside kind (bound_line kind n T v t) (no_bound kind)
  none_inside true v t short v<k t≤n = omega arith
  none_inside false v t short v<k t≤n = omega (arith, staircase_le n (bound_line false n T v) (stairs false v v<k) t t≤n)

  unbound_inside : (kind : Bool) (v t : ℕ) → v < k → t ≤ n → Inside kind (bound_line kind n T v t) (unbound kind t)
  unbound_inside true v t v<k t≤n = omega arith
  unbound_inside false v t v<k t≤n = staircase_le n (bound_line false n T v) (stairs false v v<k) t t≤n

  module _ (short : n ≤ 65535) where
    abbrev rs : List Row
    rs = canonical_rows n k T

    -- the line is inside the row's side
    side_inside : (kind : Bool) (v t : ℕ) → v < k → t ≤ n → Inside kind (bound_line kind n T v t) (side_of kind (corner_row n T v t))
    side_inside kind v t v<k t≤n = inside_of kind refl (sym (side_of_lem kind n T v t)) (go (corner_of kind n (bound_line kind n T v) t))
      where
        go : (corner : Bool) → Inside kind (bound_line kind n T v t) (cond corner (bound_line kind n T v t) (no_bound kind))
        go true = inside_same kind refl
        go false = none_inside kind v t short v<k t≤n

    line_inside : (kind : Bool) (v t : ℕ) → v < k → t ≤ n → Inside kind (bound_line kind n T v t) (given_by kind rs v t)
    line_inside kind v t v<k t≤n =
        inside_rows kind v t (bound_line kind n T v t) (unbound_inside kind v t v<k t≤n) rs
        (canonical_all n T (λ r. speaks r v t ≡ true → Inside kind (bound_line kind n T v t) (side_of kind r)) k
        (λ w e w<k 0<e e≤n corner says.
        let at = at_speaks (corner_row n T w e) v t says in
        inside_of kind (ap₂ (bound_line kind n T) at.0 at.1) refl (side_inside kind w e w<k e≤n)))

    corner_meets : (kind : Bool) (v t : ℕ) → v < k → 0 < t → t ≤ n → corner_of kind n (bound_line kind n T v) t ≡ true
        → given_by kind rs v t ≡ bound_line kind n T v t
    corner_meets kind v t v<k 0<t t≤n corner =
        let own : side_of kind (corner_row n T v t) ≡ bound_line kind n T v t = side_of_lem kind n T v t ∙ side_corner kind n T v t corner in
        inside_both kind
        (row_given kind v t (bound_line kind n T v t) rs
        (canonical_any n T (Placed (λ r. Inside kind (side_of kind r) (bound_line kind n T v t)) v t) k v t v<k 0<t t≤n (corner_has kind n T v t corner)
        (record { value = refl; end = refl; has = inside_same kind own })))
        (line_inside kind v t v<k t≤n)

    given_at_0 : (kind : Bool) (v : ℕ) → v < k → given_by kind rs v 0 ≡ 0
    given_at_0 true v v<k = omega (arith, line_inside true v 0 v<k (omega arith), (stairs true v v<k).start)
    given_at_0 false v v<k = omega (arith, upper_upto rs v 0)

    pub canonical_filled : LooselyFilled n k (start_of n k rs) T
    canonical_filled =
        lines_filled n k (start_of n k rs) T
        (λ kind v v<k.
        let given : (t : ℕ) → t ≤ n → bound_line kind n (start_of n k rs) v t ≡ given_by kind rs v t = λ t t≤n. start_given kind n k rs v t v<k t≤n in
        corners_filled kind (steps kind v v<k) (stairs kind v v<k).start (given 0 (omega arith) ∙ given_at_0 kind v v<k)
        (λ t t≤n. inside_of kind refl (sym (given t t≤n)) (line_inside kind v t v<k t≤n))
        (λ t 0<t t≤n corner. given t t≤n ∙ corner_meets kind v t v<k 0<t t≤n corner))

    -- so the table is the loosest closed one of the canonical rows
    pub canonical_loosest : Loosest n k (start_of n k rs) T
    canonical_loosest = filled_loosest canonical_filled closed

-- ---- rows that fill to a table have one at each of its corners
module _ (n k : ℕ) (rs : List Row) (T : Table) (loosely : LooselyFilled n k (start_of n k rs) T) where
  lines : (kind : Bool) (v : ℕ) → v < k → LineFilled kind n (bound_line kind n (start_of n k rs) v) (bound_line kind n T v)
  lines = filled_line_lem loosely

  -- a corner's bound is none that stands where no row speaks
  corner_bound : (kind : Bool) (v t : ℕ) → v < k → 0 < t → t ≤ n → corner_of kind n (bound_line kind n T v) t ≡ true → bound_line kind n T v t ≡ unbound kind t → ⊥
  corner_bound true v t v<k 0<t t≤n corner none = omega (arith, (corner_steps true n (bound_line true n T v) t corner).0)
  corner_bound false v t v<k 0<t t≤n corner none =
      let before : t - 1 ≤ n = omega arith in
      omega (
        arith,
        (corner_steps false n (bound_line false n T v) t corner).0,
        (lines false v v<k).within (t - 1) before,
        start_given false n k rs v (t - 1) v<k before,
        upper_upto rs v (t - 1),
      )

  pub corner_needed : (kind : Bool) (v t : ℕ) → v < k → 0 < t → t ≤ n → corner_of kind n (bound_line kind n T v) t ≡ true
      → Gives (λ r. side_of kind r ≡ bound_line kind n T v t) rs v t
  corner_needed kind v t v<k 0<t t≤n corner =
      let given : given_by kind rs v t ≡ bound_line kind n T v t =
      sym (start_given kind n k rs v t v<k t≤n) ∙ corner_given kind (lines kind v v<k) t 0<t t≤n corner
      in
      gives_map (λ r. side_of kind r ≡ given_by kind rs v t) (λ r. side_of kind r ≡ bound_line kind n T v t) rs v t (λ r has. has ∙ given)
      (given_source kind v t rs (λ none. corner_bound kind v t v<k 0<t t≤n corner (sym given ∙ none)))

  -- document 02: "every other set of rows that fills, type by type, to that table has a row at each of these places"
  pub rows_needed : All (λ c. Gives (λ r. Unit {0}) rs c.value c.end) (canonical_rows n k T)
  rows_needed =
      canonical_all n T _ k
      (λ v t v<k 0<t t≤n. go v t v<k 0<t t≤n (corner_of true n (bound_line true n T v) t) refl (corner_of false n (bound_line false n T v) t) refl)
    where
      there : (kind : Bool) (v t : ℕ) → v < k → 0 < t → t ≤ n → corner_of kind n (bound_line kind n T v) t ≡ true → Gives (λ r. Unit {0}) rs v t
      there kind v t v<k 0<t t≤n corner =
          gives_map (λ r. side_of kind r ≡ bound_line kind n T v t) (λ r. Unit {0}) rs v t (λ r has. tt) (corner_needed kind v t v<k 0<t t≤n corner)

      go : (v t : ℕ) → v < k → 0 < t → t ≤ n → (low : Bool) → corner_of true n (bound_line true n T v) t ≡ low → (high : Bool)
          → corner_of false n (bound_line false n T v) t ≡ high → (low || high) ≡ true → Gives (λ r. Unit {0}) rs v t
      go v t v<k 0<t t≤n true is high is' either = there true v t v<k 0<t t≤n is
      go v t v<k 0<t t≤n false is true is' either = there false v t v<k 0<t t≤n is'
      go v t v<k 0<t t≤n false is false is' either = absurd (true≢false (sym either))
