-- Rows counted and written one behind the other. `corner_count`, `part_more`, `line_part`, `rows_next`: how the rows grow, end by end and type by type.
-- `Span`: the rows of the ends from one to another, written so far; `span_part` goes on by some ends, `span_room` has the room for them, `span_all` and
-- `span_full` end it. No contract cites this file. Assumes nothing.
use mathlib.Core.Path.{◌≡◌, refl, sym, ap, ap₂, subst, ◌∙◌}
use mathlib.Core.Bool.{Bool, true, false, cond, ◌||◌}
use mathlib.Core.Logic.{◌⊎◌, inl, inr, dite}
use mathlib.Core.List.{List, [], ◌∷◌, ◌++◌, append_assoc, append-nil}
use Prim.Native.Nat.{ℕ, zero, suc, ◌+◌, ◌-◌, ◌*◌, ◌≤◌, ◌<◌}
use native.Mathlib.Numerals.{add-one}
use native.Mathlib.Decide.{dec_le}
use native.Mathlib.Omega.{arith}
use lib.ListN.{length, length-append}
use lib.Seq.{sets, length-sets}
use Rattle.elements.proofs.ElementsLaws.{sets_append}
use Rattle.book.specs.declared.Row.{Row}
use Rattle.domains.specs.Counts.{bit}
use Rattle.closing_model.specs.Table.{Table, view}
use Rattle.segments_model.specs.Lines.{corner_of}
use Rattle.book_bytes.specs.BookBytes.{order_row, row_bytes, rows_bytes}
use Rattle.book_bytes.proofs.BookBytesLaws.{rows_bytes_length}
use Rattle.canonical_model.specs.CornerRows.{has_corner, corner_row, corner_rows, line_rows, canonical_rows}
use Rattle.canonical_rows.specs.Lines.{line_in, part_rows, RowsWritten}

-- ---- RowsWritten
rows_bytes_append : (xs ys : List Row) → rows_bytes (xs ++ ys) ≡ rows_bytes xs ++ rows_bytes ys
unfolding rows_bytes
rows_bytes_append [] ys = refl
rows_bytes_append (r ∷ rs) ys =
    ap (λ (l : List ℕ). row_bytes r ++ l) (rows_bytes_append rs ys) ∙ sym (append_assoc (row_bytes r) (rows_bytes rs) (rows_bytes ys))

pub written_none : (out : List ℕ) (p : ℕ) → RowsWritten [] out p out p
unfolding rows_bytes
written_none out p = record { bytes = refl; next = omega arith }

pub written_one : (r : Row) {out out' : List ℕ} {p q : ℕ} → out' ≡ sets out p (row_bytes r) → q ≡ p + 8 → RowsWritten (r ∷ []) out p out' q
unfolding rows_bytes
written_one r {out} {p = p} stored behind = record { bytes = stored ∙ ap (sets out p) (sym (append-nil (row_bytes r))); next = behind }

pub written_append : {xs ys : List Row} {out out₁ out₂ : List ℕ} {p q r : ℕ} → RowsWritten xs out p out₁ q → RowsWritten ys out₁ q out₂ r
    → RowsWritten (xs ++ ys) out p out₂ r
written_append {xs} {ys} {out} {p = p} {q} one other =
    record {
      bytes =
          other.bytes ∙ ap (λ (l : List ℕ). sets l q (rows_bytes ys)) one.bytes
          ∙ sets_append out p (rows_bytes xs) (rows_bytes ys) q (omega (arith, rows_bytes_length xs, one.next))
          ∙ ap (sets out p) (sym (rows_bytes_append xs ys));
      next = omega (arith, one.next, other.next, length-append xs ys);
    }

pub written_long : {xs : List Row} {out out' : List ℕ} {p q : ℕ} → RowsWritten xs out p out' q → length out' ≡ length out
written_long {xs} {out} {p = p} written = ap length written.bytes ∙ length-sets out p (rows_bytes xs)

-- ---- corner_rows
pub corner_count : (n : ℕ) (T : Table) (v t : ℕ) → length (corner_rows n T v t) ≡ bit (has_corner n T v t)
unfolding corner_rows
corner_count n T v t = go (has_corner n T v t)
  where
    go : (has : Bool) → length (cond has (corner_row n T v t ∷ []) []) ≡ bit has
    go true = refl
    go false = refl

pub corner_is : (n : ℕ) (T : Table) (v t : ℕ) (has : Bool) → has_corner n T v t ≡ has → corner_rows n T v t ≡ cond has (corner_row n T v t ∷ []) []
unfolding corner_rows
corner_is n T v t has is = rw is

-- the sides of the row at a place, as they were tested
module _ (n v t : ℕ) (L U : List ℕ) {low high : Bool} (low_is : low ≡ corner_of true n (line_in L n v) t) (high_is : high ≡ corner_of false n (line_in U n v) t)
  where
    has_is : has_corner n (view L U) v t ≡ (low || high)
    has_is = sym (ap₂ (λ (a b : Bool). a || b) low_is high_is)

    abbrev sides : Row
    sides = order_row v t (cond low (line_in L n v t) 0) (cond high (line_in U n v t) 65535)

    row_is : sides ≡ corner_row n (view L U) v t
    row_is = ap₂ (λ (a b : Bool). order_row v t (cond a (line_in L n v t) 0) (cond b (line_in U n v t) 65535)) low_is high_is

    pub corner_written : (low || high) ≡ true → {out out' : List ℕ} {p q : ℕ} → out' ≡ sets out p (row_bytes sides) → q ≡ p + 8
        → RowsWritten (corner_rows n (view L U) v t) out p out' q
    corner_written some {out} {out'} {p} {q} stored behind =
        subst (λ (rs : List Row). RowsWritten rs out p out' q) (sym (corner_is n (view L U) v t true (has_is ∙ some)))
        (written_one (corner_row n (view L U) v t) (stored ∙ ap (λ (r : Row). sets out p (row_bytes r)) row_is) behind)

    pub corner_absent : (low || high) ≡ false → (out : List ℕ) (p : ℕ) → RowsWritten (corner_rows n (view L U) v t) out p out p
    corner_absent none out p =
        subst (λ (rs : List Row). RowsWritten rs out p out p) (sym (corner_is n (view L U) v t false (has_is ∙ none))) (written_none out p)

    pub corner_room : (low || high) ≡ true → (m p : ℕ) → p + 8 * length (corner_rows n (view L U) v t) ≤ m → p + 8 ≤ m
    corner_room some m p room = omega (arith, ap bit (has_is ∙ some), corner_count n (view L U) v t)

-- ---- part_rows, line_rows
module _ (n : ℕ) (T : Table) (v : ℕ) where
  pub part_none : (from : ℕ) → part_rows n T v from 0 ≡ []
  unfolding part_rows
  part_none from = refl

  part_suc : (from m : ℕ) → part_rows n T v from (suc m) ≡ part_rows n T v from m ++ corner_rows n T v (from + suc m)
  unfolding part_rows
  part_suc from m = refl

  pub part_more : (from m : ℕ) → length (part_rows n T v from (m + 1)) ≡ length (part_rows n T v from m) + bit (has_corner n T v (suc (from + m)))
  part_more from m =
      let next : from + suc m ≡ suc (from + m) = omega arith in
      ap (λ (i : ℕ). length (part_rows n T v from i)) (add-one m) ∙ ap length (part_suc from m)
      ∙ length-append (part_rows n T v from m) (corner_rows n T v (from + suc m))
      ∙ ap (λ (x : ℕ). length (part_rows n T v from m) + x) (corner_count n T v (from + suc m) ∙ ap (λ (t : ℕ). bit (has_corner n T v t)) next)

  -- one end
  pub part_one : (t : ℕ) → part_rows n T v t 1 ≡ corner_rows n T v (t + 1)
  part_one t = part_suc t 0 ∙ ap (λ (l : List Row). l ++ corner_rows n T v (t + 1)) (part_none t)

  -- some ends, and then some
  pub part_split : (from i j : ℕ) → part_rows n T v from (i + j) ≡ part_rows n T v from i ++ part_rows n T v (from + i) j
  part_split from i zero =
      ap (part_rows n T v from) (omega arith) ∙ sym (append-nil (part_rows n T v from i))
      ∙ ap (λ (l : List Row). part_rows n T v from i ++ l) (sym (part_none (from + i)))
  part_split from i (suc j) =
      let there : from + suc (i + j) ≡ from + i + suc j = omega arith in
      ap (part_rows n T v from) (omega arith) ∙ part_suc from (i + j)
      ∙ ap₂ (λ (xs ys : List Row). xs ++ ys) (part_split from i j) (ap (corner_rows n T v) there)
      ∙ append_assoc (part_rows n T v from i) (part_rows n T v (from + i) j) (corner_rows n T v (from + i + suc j))
      ∙ ap (λ (l : List Row). part_rows n T v from i ++ l) (sym (part_suc (from + i) j))

  pub line_part : (e : ℕ) → line_rows n T v e ≡ part_rows n T v 0 e
  unfolding line_rows
  line_part zero = sym (part_none 0)
  line_part (suc e) = ap₂ (λ (xs ys : List Row). xs ++ ys) (line_part e) (ap (corner_rows n T v) (omega arith)) ∙ sym (part_suc 0 e)

  -- the last end of a line
  line_last : (e : ℕ) → 0 < e → length (line_rows n T v e) ≡ length (part_rows n T v 0 (e - 1)) + bit (has_corner n T v e)
  line_last e 0<e =
      let last : e - 1 + 1 ≡ e = omega arith in
      ap length (line_part e) ∙ ap (λ (i : ℕ). length (part_rows n T v 0 i)) (sym last) ∙ part_more 0 (e - 1)
      ∙ ap (λ (t : ℕ). length (part_rows n T v 0 (e - 1)) + bit (has_corner n T v t)) (omega arith)

  -- so many rows has a line: those of the ends before the last, and of the last
  pub line_count : {e x : ℕ} {has : Bool} → 0 < e → (x ≡ length (part_rows n T v 0 (e - 1))) × (x ≤ e - 1) → has_corner n T v e ≡ has
      → (x + bit has ≡ length (line_rows n T v e)) × (x + bit has ≤ e)
  line_count {e} {x} {has} 0<e inner is =
      let last : bit (has_corner n T v e) ≡ bit has = ap bit is in
      (omega (arith, line_last e 0<e, inner.0, last), omega (arith, inner.1, bit_most has))
    where
      bit_most : (b : Bool) → bit b ≤ 1
      bit_most true = omega arith
      bit_most false = omega arith

-- the eight ends of a block
pub block_rows : (n : ℕ) (T : Table) (v from : ℕ) → part_rows n T v from (from + 8 - from) ≡ part_rows n T v from 8
block_rows n T v from = ap (part_rows n T v from) (omega arith)

-- ---- the only corner of a block, by the sum of its ends
pub record Weighed (n : ℕ) (T : Table) (v from sum i : ℕ) : Type 0 where
  pub within : i ≤ 8
  pub which : ((sum ≡ 0) × (part_rows n T v from i ≡ []))
      ⊎ ((0 < sum) × (sum ≤ i) × (part_rows n T v from i ≡ corner_rows n T v (from + sum)) × (length (part_rows n T v from i) ≡ 1))

pub weighed_small : {n : ℕ} {T : Table} {v from sum i : ℕ} → Weighed n T v from sum i → sum ≤ 8
weighed_small {n} {T} {v} {from} {sum} {i} so_far = go so_far.which
  where
    go : ((sum ≡ 0) × (part_rows n T v from i ≡ []))
        ⊎ ((0 < sum) × (sum ≤ i) × (part_rows n T v from i ≡ corner_rows n T v (from + sum)) × (length (part_rows n T v from i) ≡ 1)) → sum ≤ 8
    go (inl none) = omega (arith, none.0)
    go (inr one) = omega (arith, one.1, so_far.within)

pub weighed_start : {n : ℕ} {T : Table} {v from : ℕ} → Weighed n T v from 0 0
weighed_start {n} {T} {v} {from} = record { within = omega arith; which = inl (refl, part_none n T v from) }

module _ {n : ℕ} {T : Table} {v from sum i : ℕ} (single : length (part_rows n T v from 8) ≡ 1) (i<8 : i < 8) (so_far : Weighed n T v from sum i) where
  next_is : from + suc i ≡ suc (from + i)
  next_is = omega arith

  -- no more rows than there are in all
  most : length (part_rows n T v from (i + 1)) ≤ 1
  most =
      let all : 8 ≡ i + 1 + (8 - (i + 1)) = omega arith in
      omega (
        arith,
        single,
        ap length (ap (part_rows n T v from) all ∙ part_split n T v from (i + 1) (8 - (i + 1))),
        length-append (part_rows n T v from (i + 1)) (part_rows n T v (from + (i + 1)) (8 - (i + 1))),
      )

  here : (has : Bool) → has_corner n T v (suc (from + i)) ≡ has
      → part_rows n T v from (i + 1) ≡ part_rows n T v from i ++ cond has (corner_row n T v (from + suc i) ∷ []) []
  here has is =
      ap (part_rows n T v from) (add-one i) ∙ part_suc n T v from i
      ∙ ap (λ (l : List Row). part_rows n T v from i ++ l) (corner_is n T v (from + suc i) has (ap (has_corner n T v) next_is ∙ is))

  by_corner : (x : ℕ) (has : Bool) → has_corner n T v (suc (from + i)) ≡ has → x ≡ bit has → Weighed n T v from (sum + x * (i + 1)) (i + 1)
  by_corner x false is x_is =
      let same : part_rows n T v from (i + 1) ≡ part_rows n T v from i = here false is ∙ append-nil (part_rows n T v from i) in
      let sum_same : sum + x * (i + 1) ≡ sum = ap (λ (y : ℕ). sum + y * (i + 1)) x_is ∙ omega arith in
      record { within = omega arith; which = go so_far.which same sum_same }
    where
      go : ((sum ≡ 0) × (part_rows n T v from i ≡ []))
          ⊎ ((0 < sum) × (sum ≤ i) × (part_rows n T v from i ≡ corner_rows n T v (from + sum)) × (length (part_rows n T v from i) ≡ 1))
          → part_rows n T v from (i + 1) ≡ part_rows n T v from i → sum + x * (i + 1) ≡ sum
          → ((sum + x * (i + 1) ≡ 0) × (part_rows n T v from (i + 1) ≡ []))
          ⊎ ((0 < sum + x * (i + 1)) × (sum + x * (i + 1) ≤ i + 1) × (part_rows n T v from (i + 1) ≡ corner_rows n T v (from + (sum + x * (i + 1))))
          × (length (part_rows n T v from (i + 1)) ≡ 1))
      go (inl none) same sum_same = inl (sum_same ∙ none.0, same ∙ none.1)
      go (inr one) same sum_same =
          inr (
            omega (arith, one.0, sum_same),
            omega (arith, one.1, sum_same),
            same ∙ one.2 ∙ ap (λ (y : ℕ). corner_rows n T v (from + y)) (sym sum_same),
            ap length same ∙ one.3,
          )
  by_corner x true is x_is =
      let grown = here true is in
      let empty : part_rows n T v from i ≡ [] =
      no_rows (part_rows n T v from i)
      (omega (arith, most, ap length grown, length-append (part_rows n T v from i) (corner_row n T v (from + suc i) ∷ [])))
      in
      let sum_is : sum + x * (i + 1) ≡ i + 1 = ap (λ (y : ℕ). sum + y * (i + 1)) x_is ∙ omega (arith, sum_none so_far.which empty) in
      let only : part_rows n T v from (i + 1) ≡ corner_row n T v (from + suc i) ∷ [] =
      grown ∙ ap (λ (l : List Row). l ++ (corner_row n T v (from + suc i) ∷ [])) empty
      in
      let rows : corner_rows n T v (from + suc i) ≡ corner_row n T v (from + suc i) ∷ [] =
      corner_is n T v (from + suc i) true (ap (has_corner n T v) next_is ∙ is)
      in
      record {
        within = omega arith;
        which =
            inr (
              omega (arith, sum_is),
              omega (arith, sum_is),
              only ∙ sym rows ∙ ap (λ (y : ℕ). corner_rows n T v (from + y)) (sym (add-one i) ∙ sym sum_is),
              ap length only,
            );
      }
    where
      no_rows : (rs : List Row) → length rs ≡ 0 → rs ≡ []
      no_rows [] none = refl
      no_rows (r ∷ rs) none = absurd (omega arith)

      sum_none : ((sum ≡ 0) × (part_rows n T v from i ≡ []))
          ⊎ ((0 < sum) × (sum ≤ i) × (part_rows n T v from i ≡ corner_rows n T v (from + sum)) × (length (part_rows n T v from i) ≡ 1))
          → part_rows n T v from i ≡ [] → sum ≡ 0
      sum_none (inl none) empty = none.0
      sum_none (inr one) empty = absurd (omega (arith, one.3, ap length empty))

  pub weighed_more : {x : ℕ} → x ≡ bit (has_corner n T v (suc (from + i))) → Weighed n T v from (sum + x * (i + 1)) (i + 1)
  weighed_more {x} is = by_corner x (has_corner n T v (suc (from + i))) refl is

pub weighed_all : {n : ℕ} {T : Table} {v from sum i : ℕ} → length (part_rows n T v from 8) ≡ 1 → 8 ≤ i → Weighed n T v from sum i
    → (0 < sum) × (sum ≤ 8) × (part_rows n T v from 8 ≡ corner_rows n T v (from + sum))
weighed_all {n} {T} {v} {from} {sum} {i} single end so_far = go so_far.which
  where
    last : i ≡ 8
    last = omega (arith, so_far.within)

    go : ((sum ≡ 0) × (part_rows n T v from i ≡ []))
        ⊎ ((0 < sum) × (sum ≤ i) × (part_rows n T v from i ≡ corner_rows n T v (from + sum)) × (length (part_rows n T v from i) ≡ 1))
        → (0 < sum) × (sum ≤ 8) × (part_rows n T v from 8 ≡ corner_rows n T v (from + sum))
    go (inl none) = absurd (omega (arith, single, ap length (sym (ap (part_rows n T v from) last) ∙ none.1)))
    go (inr one) = (one.0, omega (arith, one.1, last), sym (ap (part_rows n T v from) last) ∙ one.2)

-- all ends of a line
pub line_whole : (n : ℕ) (T : Table) (v : ℕ) → part_rows n T v 0 (n - 0) ≡ line_rows n T v n
line_whole n T v = ap (part_rows n T v 0) (omega arith) ∙ sym (line_part n T v n)

-- ---- Span
-- the rows of type v and the ends after `from`, to the end t, are written; the ends go to `to`
pub record Span (n : ℕ) (T : Table) (v from to : ℕ) (out₀ : List ℕ) (place₀ : ℕ) (out : List ℕ) (next t : ℕ) : Type 0 where
  pub low : from ≤ t
  pub high : t ≤ to
  pub rows : RowsWritten (part_rows n T v from (t - from)) out₀ place₀ out next

module _ {n : ℕ} {T : Table} {v from to : ℕ} {out₀ : List ℕ} {place₀ : ℕ} where
  pub span_start : from ≤ to → Span n T v from to out₀ place₀ out₀ place₀ from
  span_start upto =
      let none : part_rows n T v from (from - from) ≡ [] = ap (part_rows n T v from) (omega arith) ∙ part_none n T v from in
      record { low = omega arith; high = upto; rows = subst (λ (rs : List Row). RowsWritten rs out₀ place₀ out₀ place₀) (sym none) (written_none out₀ place₀) }

  module _ {out : List ℕ} {next t : ℕ} (span : Span n T v from to out₀ place₀ out next t) where
    pub span_long : length out ≡ length out₀
    span_long = written_long span.rows

    -- the rows so far and those of the d ends after t
    so_on : (d : ℕ) → part_rows n T v from (t + d - from) ≡ part_rows n T v from (t - from) ++ part_rows n T v t d
    so_on d =
        let here : from + (t - from) ≡ t = omega (arith, span.low) in
        let far : t + d - from ≡ t - from + d = omega (arith, span.low) in
        ap (part_rows n T v from) far ∙ part_split n T v from (t - from) d ∙ ap (λ (e : ℕ). part_rows n T v from (t - from) ++ part_rows n T v e d) here

    pub span_upto : (d : ℕ) → t + d ≤ to → next + 8 * length (part_rows n T v t d) ≤ place₀ + 8 * length (part_rows n T v from (to - from))
    span_upto d upto =
        let all : to - from ≡ t + d - from + (to - (t + d)) = omega (arith, span.low) in
        omega (
          arith,
          span.rows.next,
          ap length (so_on d),
          length-append (part_rows n T v from (t - from)) (part_rows n T v t d),
          ap length (ap (part_rows n T v from) all ∙ part_split n T v from (t + d - from) (to - (t + d))),
          length-append (part_rows n T v from (t + d - from)) (part_rows n T v (from + (t + d - from)) (to - (t + d))),
        )

    pub span_room : (d : ℕ) → t + d ≤ to → place₀ + 8 * length (part_rows n T v from (to - from)) ≤ length out₀
        → next + 8 * length (part_rows n T v t d) ≤ length out
    span_room d upto room = omega (arith, span_upto d upto, span_long)

    pub span_part : (d : ℕ) → t + d ≤ to → {out' : List ℕ} {next' : ℕ} → RowsWritten (part_rows n T v t d) out next out' next'
        → Span n T v from to out₀ place₀ out' next' (t + d)
    span_part d upto {out'} {next'} written =
        record {
          low = omega (arith, span.low);
          high = upto;
          rows = subst (λ (rs : List Row). RowsWritten rs out₀ place₀ out' next') (sym (so_on d)) (written_append span.rows written);
        }

    pub span_all : to ≤ t → RowsWritten (part_rows n T v from (to - from)) out₀ place₀ out next
    span_all end =
        let last : t ≡ to = omega (arith, span.high) in
        subst (λ (e : ℕ). RowsWritten (part_rows n T v from (e - from)) out₀ place₀ out next) last span.rows

    -- where as many rows are written as there are, those are all
    pub span_full : place₀ + 8 * length (part_rows n T v from (to - from)) ≤ next → RowsWritten (part_rows n T v from (to - from)) out₀ place₀ out next
    span_full full =
        let rest = part_rows n T v t (to - t) in
        let all : t + (to - t) ≡ to = omega (arith, span.high) in
        let whole : part_rows n T v from (to - from) ≡ part_rows n T v from (t - from) ++ rest =
        ap (λ (e : ℕ). part_rows n T v from (e - from)) (sym all) ∙ so_on (to - t)
        in
        let none : rest ≡ [] = no_rows rest (omega (arith, span.rows.next, ap length whole, length-append (part_rows n T v from (t - from)) rest)) in
        subst (λ (rs : List Row). RowsWritten rs out₀ place₀ out next)
        (sym (whole ∙ ap (λ (l : List Row). part_rows n T v from (t - from) ++ l) none ∙ append-nil (part_rows n T v from (t - from)))) span.rows
      where
        no_rows : (rs : List Row) → length rs ≡ 0 → rs ≡ []
        no_rows [] none = refl
        no_rows (r ∷ rs) none = absurd (omega arith)

    -- fewer rows are written than there are: the ends are not all passed
    pub span_less : next < place₀ + 8 * length (part_rows n T v from (to - from)) → t < to
    span_less less =
        dite (dec_le to t) (λ end. absurd (omega (arith, (span_all end).next))) (λ inner. omega arith)

-- ---- canonical_rows
module _ (n : ℕ) (T : Table) where
  pub rows_none : canonical_rows n 0 T ≡ []
  unfolding canonical_rows
  rows_none = refl

  pub rows_next : (v : ℕ) → canonical_rows n (v + 1) T ≡ canonical_rows n v T ++ line_rows n T v n
  unfolding canonical_rows
  rows_next v = ap (λ (w : ℕ). canonical_rows n w T) (add-one v)

  pub rows_more : (v : ℕ) → length (canonical_rows n (v + 1) T) ≡ length (canonical_rows n v T) + length (line_rows n T v n)
  rows_more v = ap length (rows_next v) ∙ length-append (canonical_rows n v T) (line_rows n T v n)

  rows_le : (d v : ℕ) → length (canonical_rows n v T) ≤ length (canonical_rows n (v + d) T)
  rows_le zero v =
      let same : v ≡ v + 0 = omega arith in
      omega (arith, ap (λ (w : ℕ). length (canonical_rows n w T)) same)
  rows_le (suc d) v =
      let next : v + d + 1 ≡ v + suc d = omega arith in
      omega (arith, rows_le d v, rows_more (v + d), ap (λ (w : ℕ). length (canonical_rows n w T)) next)

  -- there is room for the next type's rows
  pub rows_upto : (v k : ℕ) → v < k → length (canonical_rows n v T) + length (line_rows n T v n) ≤ length (canonical_rows n k T)
  rows_upto v k v<k =
      let far : v + 1 + (k - (v + 1)) ≡ k = omega arith in
      omega (arith, rows_more v, rows_le (k - (v + 1)) (v + 1), ap (λ (w : ℕ). length (canonical_rows n w T)) far)
