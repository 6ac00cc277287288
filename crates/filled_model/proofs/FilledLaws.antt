-- The laws of `LineRules` and `LooselyFilled` of `specs/Filled.antt`, and adequacy of `filled`, both ways: the table that it computes is loosely filled
-- (`filled_loosely`), and a loosely filled one is it, entry by entry (`loosely_filled`). `filled_line_lem`: each line of a loosely filled table is filled by
-- itself. `filled_loosest`: one that is closed is the loosest closed one. No contract cites this file. Assumes nothing.
use mathlib.Core.Path.{◌≡◌, refl, sym, ap₂}
use mathlib.Core.Bool.{Bool, true, false}
use Prim.Native.Nat.{ℕ, ◌+◌, ◌/◌, ◌%◌, ◌≤◌, ◌<◌}
use native.Mathlib.Numerals.{add-one}
use Rattle.closing_model.specs.Table.{Table, size, place, Closed, Within, Loosest}
use Rattle.closing_model.specs.Corners.{bound_line}
use Rattle.closing_model.proofs.PlaceLaws.{place_below, place_value, place_prefix, value_below, prefix_upto, place_of}
use Rattle.filled_model.specs.Filled.{Stepwise, Inside, LineFilled, LineRules, LooselyFilled}
use Rattle.filled_model.specs.Filling.{filled_line, filled}
use Rattle.filled_model.proofs.FillingLaws.{line_filled, line_filled_ext, inside_both}

-- ---- LineRules
module _ {n k : ℕ} {T : Table} where
  pub rules_steps : (kind : Bool) → LineRules n k T → (v : ℕ) → v < k → Stepwise n (bound_line kind n T v)
  rules_steps true rules v v<k =
      record {
        grows = λ t t<n. rw (add-one t) at (rules.lower_before v t v<k t<n);
        slowly = λ t t<n. rw (add-one t) at (rules.lower_after v t v<k t<n);
      }
  rules_steps false rules v v<k =
      record {
        grows = λ t t<n. rw (add-one t) at (rules.upper_after v t v<k t<n);
        slowly = λ t t<n. rw (add-one t) at (rules.upper_before v t v<k t<n);
      }

  pub steps_rules : ((kind : Bool) (v : ℕ) → v < k → Stepwise n (bound_line kind n T v)) → LineRules n k T
  steps_rules steps =
      record {
        lower_before = λ v t v<k t<n. rw (add-one t) ((steps true v v<k).grows t t<n);
        lower_after = λ v t v<k t<n. rw (add-one t) ((steps true v v<k).slowly t t<n);
        upper_before = λ v t v<k t<n. rw (add-one t) ((steps false v v<k).slowly t t<n);
        upper_after = λ v t v<k t<n. rw (add-one t) ((steps false v v<k).grows t t<n);
      }

  pub closed_rules : Closed n k T → LineRules n k T
  closed_rules closed =
      record { lower_before = closed.lower_before; lower_after = closed.lower_after; upper_before = closed.upper_before; upper_after = closed.upper_after }

-- ---- Within, line by line
abbrev LinesInside : ℕ → ℕ → Table → Table → Type 0
LinesInside n k A B = (kind : Bool) (v t : ℕ) → v < k → t ≤ n → Inside kind (bound_line kind n B v t) (bound_line kind n A v t)

module _ {n k : ℕ} {A B : Table} where
  within_lines : Within (size n k) A B → LinesInside n k A B
  within_lines within true v t v<k t≤n = within.lowers (place n v t) (place_below n k v t v<k t≤n)
  within_lines within false v t v<k t≤n = within.uppers (place n v t) (place_below n k v t v<k t≤n)

  lines_within : LinesInside n k A B → Within (size n k) A B
  lines_within inside =
      record {
        lowers = at_places (λ p. A.lower p ≤ B.lower p) (inside true);
        uppers = at_places (λ p. B.upper p ≤ A.upper p) (inside false);
      }
    where
      at_places : (C : ℕ → Type 0) → ((v t : ℕ) → v < k → t ≤ n → C (place n v t)) → (p : ℕ) → p < size n k → C p
      at_places C each p upto = rw (place_of n k p upto) at (each (p / (n + 1)) (p % (n + 1)) (value_below n k p upto) (prefix_upto n k p upto))

-- ---- LooselyFilled
pub lines_filled : (n k : ℕ) (A B : Table) → ((kind : Bool) (v : ℕ) → v < k → LineFilled kind n (bound_line kind n A v) (bound_line kind n B v))
    → LooselyFilled n k A B
lines_filled n k A B lines =
    record {
      rules = steps_rules (λ kind v v<k. (lines kind v v<k).steps);
      within = lines_within (λ kind v t v<k t≤n. (lines kind v v<k).within t t≤n);
      loosest = λ T rules within.
          lines_within
          (λ kind v t v<k t≤n.
          (lines kind v v<k).loosest (bound_line kind n T v) (rules_steps kind rules v v<k) (λ s s≤n. within_lines within kind v s v<k s≤n) t t≤n);
    }

-- there is one, entry by entry
pub filled_unique : {n k : ℕ} {A B C : Table} → LooselyFilled n k A B → LooselyFilled n k A C
    → (kind : Bool) (v t : ℕ) → v < k → t ≤ n → bound_line kind n B v t ≡ bound_line kind n C v t
filled_unique {B} {C} one other kind v t v<k t≤n =
    inside_both kind (within_lines (other.loosest B one.rules one.within) kind v t v<k t≤n)
    (within_lines (one.loosest C other.rules other.within) kind v t v<k t≤n)

-- ---- filled
module _ (n : ℕ) (A : Table) (v t : ℕ) (t≤n : t ≤ n) where
  filled_at : (kind : Bool) → filled_line kind n (bound_line kind n A v) t ≡ bound_line kind n (filled n A) v t
  filled_at true = sym (ap₂ (λ (w e : ℕ). filled_line true n (bound_line true n A w) e) (place_value n v t t≤n) (place_prefix n v t t≤n))
  filled_at false = sym (ap₂ (λ (w e : ℕ). filled_line false n (bound_line false n A w) e) (place_value n v t t≤n) (place_prefix n v t t≤n))

filled_lines : (n : ℕ) (A : Table) (kind : Bool) (v : ℕ) → LineFilled kind n (bound_line kind n A v) (bound_line kind n (filled n A) v)
filled_lines n A kind v =
    line_filled_ext kind {a = bound_line kind n A v} {u = filled_line kind n (bound_line kind n A v)} (λ t t≤n. refl) (λ t t≤n. filled_at n A v t t≤n kind)
    (line_filled kind n (bound_line kind n A v))

pub filled_loosely : (n k : ℕ) (A : Table) → LooselyFilled n k A (filled n A)
filled_loosely n k A = lines_filled n k A (filled n A) (λ kind v v<k. filled_lines n A kind v)

module _ {n k : ℕ} {A B : Table} (loosely : LooselyFilled n k A B) where
  pub loosely_filled : (kind : Bool) (v t : ℕ) → v < k → t ≤ n → bound_line kind n (filled n A) v t ≡ bound_line kind n B v t
  loosely_filled = filled_unique (filled_loosely n k A) loosely

  pub filled_line_lem : (kind : Bool) (v : ℕ) → v < k → LineFilled kind n (bound_line kind n A v) (bound_line kind n B v)
  filled_line_lem kind v v<k =
      line_filled_ext kind {a = bound_line kind n A v} {u = bound_line kind n (filled n A) v} (λ t t≤n. refl) (λ t t≤n. loosely_filled kind v t v<k t≤n)
      (filled_lines n A kind v)

  pub filled_loosest : Closed n k B → Loosest n k A B
  filled_loosest closed = record { closed = closed; within = loosely.within; loosest = λ T T_closed within. loosely.loosest T (closed_rules T_closed) within }
