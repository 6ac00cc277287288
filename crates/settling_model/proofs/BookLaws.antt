-- The laws of `specs/Book.antt`. Adequacy: `settled_book_settles` and `settles_settled_book`, `settled_book_dead` and `dead_settled_book`.
-- No plan is lost: every plan of the book lies within the settled masks (`plan_kept`, `plan_kept_at`) and within
-- the closed bounds (`plan_bounds`); a book dead in closing has no plan (`unclosed_no_plan`), nor has one dead in closing or in settling
-- (`dead_no_plan`).
-- No contract cites this file. Assumes nothing.
use mathlib.Core.Path.{◌≡◌, refl, sym, ap, ◌∙◌}
use mathlib.Core.List.{List}
use mathlib.Core.Option.{Option, some, none, bind, some-injective, some-ne-none, none-ne-some}
use Prim.Native.Nat.{ℕ, ◌≤◌, ◌<◌}
use native.Mathlib.Omega.{arith}
use lib.ListN.{length, get_or}
use Rattle.domains.specs.Masks.{HasAt, Subset}
use Rattle.book.specs.Layout.{slots, values, masks, rows}
use Rattle.book.proofs.LayoutLaws.{length_masks}
use Rattle.closing_model.specs.Table.{Table, view, size, place, Loosest, NoneClosed}
use Rattle.closing_model.proofs.PlaceLaws.{place_below}
use Rattle.closing_model.proofs.StartLaws.{start_lowers_length, start_uppers_length}
use Rattle.closing_model.proofs.ClosingLaws.{closing_loosest, closing_none}
use Rattle.settling_model.specs.Stable.{Largest, table_bounds}
use Rattle.settling_model.specs.Settling.{settling}
use Rattle.settling_model.specs.Plans.{occurs, singles}
use Rattle.settling_model.specs.Book.{book_start, SettlesTo, DeadBook, none_closed, none_stable, closed_book, settled_book, BookPlan}
use Rattle.settling_model.proofs.StableLaws.{largest_unique}
use Rattle.settling_model.proofs.TableBoundsLaws.{table_bounds_same}
use Rattle.settling_model.proofs.SettlingLaws.{settling_largest, settling_unstable}
use Rattle.settling_model.proofs.OccursLaws.{occurs_entry}
use Rattle.settling_model.proofs.PlansLaws.{singles_allowed, plan_within, none_closed_no_plan, plan_largest, unstable_no_plan}

-- ---- SettlesTo, DeadBook
-- two loosest closed tables have the same bounds
pub loosest_bounds : (n k : ℕ) {A T T' : Table} → Loosest n k A T → Loosest n k A T' → table_bounds n k T ≡ table_bounds n k T'
loosest_bounds n k {A} {T} {T'} one other =
    table_bounds_same n T T' k (one.loosest T' other.closed other.within) (other.loosest T one.closed one.within)

pub settles_unique : {b M M' : List ℕ} → SettlesTo b M → SettlesTo b M' → M ≡ M'
settles_unique {b} one other =
    largest_unique (rw (loosest_bounds (slots b) (values b) one.loosest other.loosest) at one.largest) other.largest

pub settles_not_dead : {b M : List ℕ} → SettlesTo b M → DeadBook b → ⊥
settles_not_dead {b} {M} settles (none_closed no_table) = no_table settles.table settles.loosest.closed settles.loosest.within
settles_not_dead {b} {M} settles (none_stable T loosest unstable) =
    let largest : Largest (table_bounds (slots b) (values b) T) (masks b) M =
    rw (loosest_bounds (slots b) (values b) settles.loosest loosest) at settles.largest in
    unstable M largest.stable largest.within

-- ---- closed_book
module _ (b : List ℕ) where
  pub closed_book_loosest : (L U : List ℕ) → closed_book b ≡ some (L, U) → Loosest (slots b) (values b) (book_start b) (view L U)
  closed_book_loosest L U answer =
      (closing_loosest (slots b) (values b) _ _ (start_lowers_length (slots b) (values b) (rows b))
      (start_uppers_length (slots b) (values b) (rows b)) L U answer).0

  pub closed_book_lengths : (L U : List ℕ) → closed_book b ≡ some (L, U) → (length L ≡ size (slots b) (values b)) × (length U ≡ size (slots b) (values b))
  closed_book_lengths L U answer =
      let found = closing_loosest (slots b) (values b) _ _ (start_lowers_length (slots b) (values b) (rows b))
      (start_uppers_length (slots b) (values b) (rows b)) L U answer in
      (found.1, found.2)

  pub closed_book_none : closed_book b ≡ none → NoneClosed (slots b) (values b) (book_start b)
  closed_book_none answer =
      closing_none (slots b) (values b) _ _ (start_lowers_length (slots b) (values b) (rows b)) (start_uppers_length (slots b) (values b) (rows b)) answer

-- ---- settled_book
module _ (b : List ℕ) where
  settled_book_closed : (L U : List ℕ) → closed_book b ≡ some (L, U) → settled_book b ≡ settling (table_bounds (slots b) (values b) (view L U)) (masks b)
  unfolding settled_book bind
  settled_book_closed L U answer = rw (settled_book, answer, bind)

  settled_book_none : closed_book b ≡ none → settled_book b ≡ none
  unfolding settled_book bind
  settled_book_none answer = rw (settled_book, answer, bind)

  -- what the two answers mean
  data Answer : Type 0 where
    live : (M : List ℕ) → settled_book b ≡ some M → SettlesTo b M → Answer
    dead : settled_book b ≡ none → DeadBook b → Answer

  settled_book_answer : Answer
  settled_book_answer = go (closed_book b) refl
    where
      settled : (L U : List ℕ) → closed_book b ≡ some (L, U) → (answer : Option (List ℕ))
          → settling (table_bounds (slots b) (values b) (view L U)) (masks b) ≡ answer → Answer
      settled L U closes none e =
          dead (settled_book_closed L U closes ∙ e)
          (none_stable (view L U) (closed_book_loosest b L U closes) (settling_unstable _ (masks b) e))
      settled L U closes (some M) e =
          live M (settled_book_closed L U closes ∙ e)
          (record { table = view L U; loosest = closed_book_loosest b L U closes; largest = settling_largest _ (masks b) M e })

      go : (closed : Option (List ℕ × List ℕ)) → closed_book b ≡ closed → Answer
      go none e = dead (settled_book_none e) (none_closed (closed_book_none b e))
      go (some T) e = settled T.0 T.1 e _ refl

  pub settled_book_settles : (M : List ℕ) → settled_book b ≡ some M → SettlesTo b M
  settled_book_settles M e = go settled_book_answer
    where
      go : Answer → SettlesTo b M
      go (live M' is settles) =
          let same : M' ≡ M = some-injective M' M (sym is ∙ e) in
          rw same at settles
      go (dead is dies) = absurd (none-ne-some M (sym is ∙ e))

  pub settles_settled_book : (M : List ℕ) → SettlesTo b M → settled_book b ≡ some M
  settles_settled_book M settles = go settled_book_answer
    where
      go : Answer → settled_book b ≡ some M
      go (live M' is settles') = is ∙ ap some (settles_unique settles' settles)
      go (dead is dies) = absurd (settles_not_dead settles dies)

  pub settled_book_dead : settled_book b ≡ none → DeadBook b
  settled_book_dead e = go settled_book_answer
    where
      go : Answer → DeadBook b
      go (live M is settles) = absurd (some-ne-none M (sym is ∙ e))
      go (dead is dies) = dies

  pub dead_settled_book : DeadBook b → settled_book b ≡ none
  dead_settled_book dies = go settled_book_answer
    where
      go : Answer → settled_book b ≡ none
      go (live M is settles) = absurd (settles_not_dead settles dies)
      go (dead is dies') = is

-- ---- BookPlan
pub plan_kept : (b M p : List ℕ) → settled_book b ≡ some M → BookPlan b p → Subset (singles p) M
plan_kept b M p answer plan =
    let settles = settled_book_settles b M answer in
    plan_largest plan (length_masks b) settles.loosest settles.largest

-- slot by slot: the settled mask has the plan's value
pub plan_kept_at : (b M p : List ℕ) → settled_book b ≡ some M → BookPlan b p → (s : ℕ) → s < slots b → HasAt M s (get_or p s 0)
plan_kept_at b M p answer plan s s<n = singles_allowed p M (plan_kept b M p answer plan) s (omega (arith, plan.slots))

-- each value stands in each prefix as often as the closed table allows
pub plan_bounds : (b L U p : List ℕ) → closed_book b ≡ some (L, U) → BookPlan b p → (v t : ℕ) → v < values b → t ≤ slots b
    → (get_or L (place (slots b) v t) 0 ≤ occurs p v t) × (occurs p v t ≤ get_or U (place (slots b) v t) 0)
plan_bounds b L U p answer plan v t v<k t≤n =
    let within = plan_within plan (closed_book_loosest b L U answer) in
    let inside = place_below (slots b) (values b) v t v<k t≤n in
    let entry = occurs_entry (slots b) p v t t≤n in
    (omega (arith, within.lowers _ inside), omega (arith, within.uppers _ inside))

pub unclosed_no_plan : (b : List ℕ) → NoneClosed (slots b) (values b) (book_start b) → (p : List ℕ) → BookPlan b p → ⊥
unclosed_no_plan b no_table p plan = none_closed_no_plan plan no_table

pub dead_no_plan : (b : List ℕ) → settled_book b ≡ none → (p : List ℕ) → BookPlan b p → ⊥
dead_no_plan b answer p plan = go (settled_book_dead b answer)
  where
    go : DeadBook b → ⊥
    go (none_closed no_table) = unclosed_no_plan b no_table p plan
    go (none_stable T loosest unstable) = unstable_no_plan plan (length_masks b) loosest unstable
