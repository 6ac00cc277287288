-- The laws of `canonical_book` of `specs/Canonical.antt`, for a good book b that closes to the table of the lists L and U and needs no more rows than the limits
-- have. Its canonical book has the same slots, types, byte 3 and masks, and the canonical rows (`canonical_slots` to `canonical_rows_lem`); it is a good book
-- (`canonical_good`), closes to the same table (`canonical_closes`), settles to the same masks (`canonical_settles`), has the same plans (`canonical_plan`,
-- `plan_canonical`) and is its own canonical book (`canonical_again`). Books of equal parts get equal bytes exactly when they close to the same table
-- (`bytes_tables`, `tables_bytes`). Rows that fill to that table have one at the place of each canonical row (`canonical_needed`),
-- and are no fewer (`canonical_shortest`).
-- No contract cites this file. Assumes nothing.
use mathlib.Core.Path.{◌≡◌, refl, sym, ap, ap₂, ◌∙◌}
use mathlib.Core.Bool.{Bool, true, false, cond}
use mathlib.Core.Logic.{◌⊎◌, inl, inr}
use mathlib.Core.List.{List, [], ◌∷◌, ◌++◌}
use mathlib.Core.Option.{Option, some, bind, some-injective}
use Prim.Native.Nat.{ℕ, zero, suc, ◌+◌, ◌*◌, ◌≤◌, ◌<◌}
use native.Mathlib.Nat.{le_trans}
use native.Mathlib.Omega.{arith}
use lib.ListN.{length}
use Rattle.book.specs.declared.Limits.{Limits}
use Rattle.book.specs.declared.Row.{Row}
use Rattle.book.specs.Layout.{slots, values, idle, row_count, book_length, rows_part, row_at, masks, rows, list_of}
use Rattle.book.specs.Lists.{All, Any}
use Rattle.book.specs.Refusal.{GoodBook}
use Rattle.book.specs.GoodFacts.{RowFacts, GoodFacts}
use Rattle.book.proofs.LayoutLaws.{length_masks, get_d_masks}
use Rattle.book.proofs.BookLaws.{good_facts}
use Rattle.closing_model.specs.Table.{Table, view, size, Closed, Within, Loosest}
use Rattle.closing_model.specs.Corners.{bound_line, line}
use Rattle.closing_model.specs.Start.{start_lowers, start_uppers}
use Rattle.closing_model.specs.Closing.{closing}
use Rattle.closing_model.proofs.PlaceLaws.{place_below}
use Rattle.closing_model.proofs.TableLaws.{within_trans, closed_upper_staircase, closed_lower_staircase}
use Rattle.closing_model.proofs.StartLaws.{start_lowers_length, start_uppers_length}
use Rattle.closing_model.proofs.ClosingLaws.{loosest_closing}
use Rattle.segments_model.specs.Lines.{corner_of}
use Rattle.settling_model.specs.Stable.{table_bounds}
use Rattle.settling_model.specs.Settling.{settling}
use Rattle.settling_model.specs.Plans.{KeepsRow, Plan, occurs_table}
use Rattle.settling_model.specs.Book.{book_start, closed_book, settled_book, BookPlan}
use Rattle.settling_model.proofs.StableLaws.{all_append}
use Rattle.settling_model.proofs.StaircaseLaws.{staircase_le}
use Rattle.settling_model.proofs.OccursLaws.{occurs_entry}
use Rattle.settling_model.proofs.PlansLaws.{plan_within}
use Rattle.settling_model.proofs.BookLaws.{closed_book_loosest, closed_book_lengths}
use Rattle.filled_model.specs.Filled.{Inside, LooselyFilled}
use Rattle.filled_model.specs.Given.{side_of, given_by, start_of, Placed, Gives}
use Rattle.filled_model.proofs.GivenLaws.{any_map, row_given, start_given}
use Rattle.filled_model.proofs.FillingLaws.{inside_same}
use Rattle.book_bytes.specs.BookBytes.{BookFits, LimitsFit}
use Rattle.book_bytes.proofs.BookBytesLaws.{slots_of_lem, values_of, idle_of, book_length_of_lem, masks_of_lem, rows_of_lem, length_of}
use Rattle.book_bytes.proofs.GoodPartsLaws.{GoodParts, parts_fit, parts_good}
use Rattle.canonical_model.specs.CornerRows.{no_bound, corner_row, canonical_rows}
use Rattle.canonical_model.specs.Order.{Ordered}
use Rattle.canonical_model.specs.Canonical.{book_rows, canonical_book}
use Rattle.canonical_model.proofs.CornerRowsLaws.{canonical_all, canonical_filled, canonical_loosest, rows_needed}
use Rattle.canonical_model.proofs.OrderLaws.{canonical_ordered, canonical_fewest}

-- ---- rows and plans
module _ (C : Row → Type 0) where
  -- what holds of each member holds of all, and back
  members_all : (rs : List Row) → ((r : Row) → Any (λ q. q ≡ r) rs → C r) → All C rs
  members_all [] each = tt
  members_all (r ∷ rs) each = (each r (inl refl), members_all rs (λ q among. each q (inr among)))

  all_members : (rs : List Row) → All C rs → (r : Row) → Any (λ q. q ≡ r) rs → C r
  all_members [] all r among = absurd among
  all_members (q ∷ rs) all r (inl here) = rw here at all.0
  all_members (q ∷ rs) all r (inr later) = all_members rs all.1 r later

  all_list : (m : ℕ) (f : ℕ → Row) → ((i : ℕ) → i < m → C (f i)) → All C (list_of m f)
  unfolding list_of
  all_list zero f each = tt
  all_list (suc m) f each = all_append C (list_of m f) (f m ∷ []) (all_list m f (λ i i<m. each i (omega arith))) (each m (omega arith), tt)

good_rows : (limits : Limits) (b : List ℕ) → GoodBook limits b → All (RowFacts (slots b) (values b)) (rows b)
good_rows limits b good = all_list (RowFacts (slots b) (values b)) (row_count b) (row_at (rows_part b)) (good_facts limits b good).row

-- what a row gives at its own place is inside its bound
own_given : (kind : Bool) (rs : List Row) (r : Row) → Any (λ q. q ≡ r) rs → Inside kind (given_by kind rs r.value r.end) (side_of kind r)
own_given kind rs r among =
    row_given kind r.value r.end (side_of kind r) rs
    (any_map (λ q. q ≡ r) (Placed (λ q. Inside kind (side_of kind q) (side_of kind r)) r.value r.end)
    (λ q is. record { value = ap (λ (x : Row). x.value) is; end = ap (λ (x : Row). x.end) is; has = inside_same kind (ap (side_of kind) is) }) rs among)

-- counts within the starting table of rows keep each of them
pub within_keeps : (n k : ℕ) (rs : List Row) (p : List ℕ) → All (RowFacts n k) rs → Within (size n k) (start_of n k rs) (occurs_table n p) → All (KeepsRow p) rs
within_keeps n k rs p facts within =
    members_all (KeepsRow p) rs
    (λ r among.
    let fact = all_members (RowFacts n k) rs facts r among in
    let inside = place_below n k r.value r.end fact.value_below fact.end_most in
    let entry = occurs_entry n p r.value r.end fact.end_most in
    let low = own_given true rs r among in
    let high = own_given false rs r among in
    record {
      low = omega (arith, within.lowers _ inside, start_given true n k rs r.value r.end fact.value_below fact.end_most);
      high = omega (arith, within.uppers _ inside, start_given false n k rs r.value r.end fact.value_below fact.end_most);
    })

-- rows with the same loosest closed table have the same plans
pub loosest_plan : (n k : ℕ) (rs rs' : List Row) (M p : List ℕ) (T : Table) → Loosest n k (start_of n k rs) T → Loosest n k (start_of n k rs') T
    → All (RowFacts n k) rs' → Plan n k rs M p → Plan n k rs' M p
loosest_plan n k rs rs' M p T one other facts plan =
    let counts = plan_within plan one in
    record {
      slots = plan.slots;
      values = plan.values;
      allowed = plan.allowed;
      rows = within_keeps n k rs' p facts (within_trans other.within counts);
    }

-- ---- the rows of a closed table are good
module _ (n k : ℕ) (T : Table) (closed : Closed n k T) (small : n ≤ 256) where
  corner_facts : (v t : ℕ) → v < k → 0 < t → t ≤ n → RowFacts n k (corner_row n T v t)
  corner_facts v t v<k 0<t t≤n =
      record {
        value_below = v<k;
        reserved_zero = refl;
        end_least = 0<t;
        end_most = t≤n;
        lower_most = low (corner_of true n (bound_line true n T v) t);
        upper_most = high (corner_of false n (bound_line false n T v) t);
      }
    where
      low : (corner : Bool) → cond corner (bound_line true n T v t) (no_bound true) ≤ 256
      low true = omega (arith, staircase_le n (line T.lower n v) (closed_lower_staircase n k T closed v v<k) t t≤n)
      low false = omega arith

      high : (corner : Bool)
          → (cond corner (bound_line false n T v t) (no_bound false) ≤ 256) ⊎ (cond corner (bound_line false n T v t) (no_bound false) ≡ 65535)
      high true = inl (omega (arith, staircase_le n (line T.upper n v) (closed_upper_staircase n k T closed v v<k) t t≤n))
      high false = inr refl

  pub canonical_facts : All (RowFacts n k) (canonical_rows n k T)
  canonical_facts = canonical_all n T (RowFacts n k) k (λ v t v<k 0<t t≤n corner. corner_facts v t v<k 0<t t≤n)

-- ---- books by their parts
module _ (c : List ℕ) (n k : ℕ) (rs : List Row) (n_is : slots c ≡ n) (k_is : values c ≡ k) (rows_are : rows c ≡ rs) where
  closed_book_of : closed_book c ≡ closing n k (start_lowers n k rs) (start_uppers n k rs)
  closed_book_of = rw (rows_are, n_is, k_is)

  module _ (M : List ℕ) (masks_are : masks c ≡ M) where
    settled_book_of : settled_book c ≡ bind (closing n k (start_lowers n k rs) (start_uppers n k rs)) (λ T. settling (table_bounds n k (view T.0 T.1)) M)
    unfolding settled_book
    settled_book_of = rw (rows_are, masks_are, n_is, k_is)

    plan_of_lem : (p : List ℕ) → Plan n k rs M p → BookPlan c p
    plan_of_lem p plan = rw (rows_are, masks_are, n_is, k_is) plan

    of_plan : (p : List ℕ) → BookPlan c p → Plan n k rs M p
    of_plan p plan = rw (rows_are, masks_are, n_is, k_is) at plan

-- ---- canonical_book
module _ (limits : Limits) (fit : LimitsFit limits) (b : List ℕ) (good : GoodBook limits b) (L U : List ℕ) (closes : closed_book b ≡ some (L, U))
    (few : length (book_rows b (view L U)) ≤ limits.rows) where
  abbrev n : ℕ
  n = slots b

  abbrev k : ℕ
  k = values b

  abbrev rs : List Row
  rs = book_rows b (view L U)

  abbrev c : List ℕ
  c = canonical_book b (view L U)

  facts : GoodFacts limits b
  facts = good_facts limits b good

  loosest : Loosest n k (book_start b) (view L U)
  loosest = closed_book_loosest b L U closes

  small : n ≤ 256
  small = le_trans facts.header.slots_most fit.slots

  short : n ≤ 65535
  short = omega (arith, small)

  rows_facts : All (RowFacts n k) rs
  rows_facts = canonical_facts n k (view L U) loosest.closed small

  pub canonical_parts : GoodParts limits n k (idle b) (masks b) rs
  canonical_parts =
      record {
        slots_least = facts.header.slots_least;
        slots_most = facts.header.slots_most;
        values_least = facts.header.values_least;
        values_most = facts.header.values_most;
        rows_most = few;
        idle_known = facts.header.idle_known;
        masks_long = length_masks b;
        mask = λ s s<n. rw (get_d_masks b s s<n) (facts.mask s s<n);
        row = rows_facts;
      }

  fits : BookFits n (masks b) rs
  fits = parts_fit limits fit n k (idle b) (masks b) rs canonical_parts

  pub canonical_slots : slots c ≡ n
  canonical_slots = slots_of_lem n k (idle b) (masks b) rs fits

  pub canonical_values : values c ≡ k
  canonical_values = values_of n k (idle b) (masks b) rs fits

  pub canonical_idle : idle c ≡ idle b
  canonical_idle = idle_of n k (idle b) (masks b) rs fits

  pub canonical_masks : masks c ≡ masks b
  canonical_masks = masks_of_lem n k (idle b) (masks b) rs fits

  pub canonical_rows_lem : rows c ≡ rs
  canonical_rows_lem = rows_of_lem n k (idle b) (masks b) rs fits

  pub canonical_length : length c ≡ 12 + 4 * n + 8 * length rs
  canonical_length = length_of n k (idle b) (masks b) rs fits

  -- the book says its own length, also where more bytes come after it
  pub canonical_book_length : (more : List ℕ) → book_length (c ++ more) ≡ length c
  canonical_book_length more = book_length_of_lem n k (idle b) (masks b) rs fits ∙ sym canonical_length

  pub canonical_good : GoodBook limits c
  canonical_good = parts_good limits fit n k (idle b) (masks b) rs canonical_parts

  rows_loosest : Loosest n k (start_of n k rs) (view L U)
  rows_loosest = canonical_loosest n k (view L U) loosest.closed short

  rows_close : closing n k (start_lowers n k rs) (start_uppers n k rs) ≡ some (L, U)
  rows_close =
      let long = closed_book_lengths b L U closes in
      loosest_closing n k (start_lowers n k rs) (start_uppers n k rs) (start_lowers_length n k rs) (start_uppers_length n k rs) L U long.0 long.1
      rows_loosest

  -- document 02: "it must close to the same table"
  pub canonical_closes : closed_book c ≡ some (L, U)
  canonical_closes = closed_book_of c n k rs canonical_slots canonical_values canonical_rows_lem ∙ rows_close

  pub canonical_settles : settled_book c ≡ settled_book b
  canonical_settles =
      settled_book_of c n k rs canonical_slots canonical_values canonical_rows_lem (masks b) canonical_masks
      ∙ ap (λ (found : Option (List ℕ × List ℕ)). bind found (λ T. settling (table_bounds n k (view T.0 T.1)) (masks b))) (rows_close ∙ sym closes)
      ∙ sym (settled_book_of b n k (rows b) refl refl refl (masks b) refl)

  pub canonical_plan : (p : List ℕ) → BookPlan b p → BookPlan c p
  canonical_plan p plan =
      plan_of_lem c n k rs canonical_slots canonical_values canonical_rows_lem (masks b) canonical_masks p
      (loosest_plan n k (rows b) rs (masks b) p (view L U) loosest rows_loosest rows_facts plan)

  pub plan_canonical : (p : List ℕ) → BookPlan c p → BookPlan b p
  plan_canonical p plan =
      loosest_plan n k rs (rows b) (masks b) p (view L U) rows_loosest loosest (good_rows limits b good)
      (of_plan c n k rs canonical_slots canonical_values canonical_rows_lem (masks b) canonical_masks p plan)

  -- its rows fill, type by type, to the table
  pub canonical_fills : LooselyFilled n k (start_of n k (rows c)) (view L U)
  canonical_fills = rw canonical_rows_lem (canonical_filled n k (view L U) loosest.closed short)

  -- document 02: "every other set of rows that fills, type by type, to that table has a row at each of these places"
  pub canonical_needed : (qs : List Row) → LooselyFilled n k (start_of n k qs) (view L U)
      → All (λ row. Gives (λ r. Unit {0}) qs row.value row.end) (rows c)
  canonical_needed qs loosely = rw canonical_rows_lem (rows_needed n k qs (view L U) loosely)

  -- by type, then end
  pub canonical_in_order : Ordered (rows c)
  canonical_in_order = rw canonical_rows_lem (canonical_ordered n (view L U) k)

  -- so they are no fewer: a shortest book
  pub canonical_shortest : (qs : List Row) → LooselyFilled n k (start_of n k qs) (view L U) → length (rows c) ≤ length qs
  canonical_shortest qs loosely = rw canonical_rows_lem (canonical_fewest n k qs (view L U) loosely)

-- ---- equal parts and tables, equal bytes
pub parts_bytes : (b c : List ℕ) (T : Table) → slots b ≡ slots c → values b ≡ values c → idle b ≡ idle c → masks b ≡ masks c
    → canonical_book b T ≡ canonical_book c T
parts_bytes b c T same_slots same_types same_idle same_masks = rw (same_masks, same_slots, same_types, same_idle)

module _ (limits : Limits) (fit : LimitsFit limits) (b : List ℕ) (good : GoodBook limits b) (L U : List ℕ) (closes : closed_book b ≡ some (L, U))
    (few : length (book_rows b (view L U)) ≤ limits.rows) where
  pub canonical_again : canonical_book (canonical_book b (view L U)) (view L U) ≡ canonical_book b (view L U)
  canonical_again =
      parts_bytes (canonical_book b (view L U)) b (view L U) (canonical_slots limits fit b good L U closes few)
      (canonical_values limits fit b good L U closes few) (canonical_idle limits fit b good L U closes few)
      (canonical_masks limits fit b good L U closes few)

  -- it needs as many rows
  pub canonical_book_rows : length (book_rows (canonical_book b (view L U)) (view L U)) ≡ length (book_rows b (view L U))
  canonical_book_rows =
      ap₂ (λ (n k : ℕ). length (canonical_rows n k (view L U))) (canonical_slots limits fit b good L U closes few)
      (canonical_values limits fit b good L U closes few)

  -- of two books, each with its table
  module _ (d : List ℕ) (good' : GoodBook limits d) (L' U' : List ℕ) (closes' : closed_book d ≡ some (L', U'))
      (few' : length (book_rows d (view L' U')) ≤ limits.rows) where
    pub bytes_tables : canonical_book b (view L U) ≡ canonical_book d (view L' U') → closed_book b ≡ closed_book d
    bytes_tables same =
        closes ∙ sym (canonical_closes limits fit b good L U closes few) ∙ ap closed_book same ∙ canonical_closes limits fit d good' L' U' closes' few'
        ∙ sym closes'

-- of books of equal slots, types, byte 3 and masks
pub tables_bytes : (b d L U L' U' : List ℕ) → slots b ≡ slots d → values b ≡ values d → idle b ≡ idle d → masks b ≡ masks d
    → closed_book b ≡ some (L, U) → closed_book d ≡ some (L', U') → closed_book b ≡ closed_book d → canonical_book b (view L U) ≡ canonical_book d (view L' U')
tables_bytes b d L U L' U' same_slots same_types same_idle same_masks closes closes' same =
    let tables = some-injective (L, U) (L', U') (sym closes ∙ same ∙ closes') in
    parts_bytes b d (view L U) same_slots same_types same_idle same_masks
    ∙ ap (λ (T : List ℕ × List ℕ). canonical_book d (view T.0 T.1)) tables
