-- The laws of `specs/Claims.antt`: a claim that passes the test holds by meaning (`holds_means`), and so does a row (`passes_says`) and each
-- row of a list (`every_says`). By the adequacy of the models: `closed_book_loosest`, `closed_book_none`, `settled_book_settles`; and by `demand3`
-- and `dead_opening`. No contract cites this file. Assumes nothing.
use mathlib.Core.Path.{◌≡◌, refl, sym, ◌∙◌}
use mathlib.Core.Bool.{true, false, ◌&&◌, true≢false, and-eq-true_iff}
use mathlib.Core.List.{List, [], ◌∷◌}
use mathlib.Core.Option.{Option, none, some, Option-elim}
use Prim.Native.Nat.{ℕ}
use native.Mathlib.Omega.{arith}
use lib.Dec.{eqb}
use borrow.Author.Tests.{eqb-true}
use Rattle.book.specs.Layout.{slots, values}
use Rattle.book.specs.Refusal.{refusal}
use Rattle.closing_model.specs.Table.{view, NoneClosed}
use Rattle.closing_model.specs.Closing.{same}
use Rattle.closing_model.proofs.TestLaws.{same_true}
use Rattle.book.specs.Lists.{All}
use Rattle.settling_model.specs.Book.{book_start, SettlesTo, closed_book, settled_book, BookPlan}
use Rattle.settling_model.proofs.BookLaws.{closed_book_loosest, closed_book_none, settled_book_settles}
use Rattle.session_model.specs.Calls.{calls_of}
use Rattle.session_model.specs.Demand.{Demand3, DeadOpening}
use Rattle.session_model.proofs.DemandLaws.{demand3}
use Rattle.session_model.proofs.DeadOpeningLaws.{dead_opening}
use Rattle.worked.specs.Claims.{Side, bound_of, line_of, Claim, closes, dead, settles, no_plan, has_plan, session, limits, most_marks}
use Rattle.worked.specs.Claims.{open_word, words_said, last_masks, holds, HasLine, RunsTo, Means, passes, every, Says}
use Rattle.worked.proofs.PlanTestLaws.{plan_of_plan, planless_no_plan}

-- ---- holds
module _ (b : List ℕ) where
  closes_means : (side : Side) (v : ℕ) (bounds : List ℕ) → holds b (closes side v bounds) ≡ true → HasLine b side v bounds
  unfolding holds Option-elim
  closes_means side v bounds tested = go (closed_book b) refl tested
    where
      go : (answer : Option (List ℕ × List ℕ)) → closed_book b ≡ answer
          → Option-elim answer false (λ T. same (line_of (bound_of side (view T.0 T.1)) (slots b) v) bounds) ≡ true → HasLine b side v bounds
      go none is tested = absurd (true≢false (sym tested))
      go (some T) is tested = record { table = view T.0 T.1; loosest = closed_book_loosest b T.0 T.1 is; has = same_true _ _ tested }

  dead_means : holds b dead ≡ true → NoneClosed (slots b) (values b) (book_start b)
  unfolding holds Option-elim
  dead_means tested = go (closed_book b) refl tested
    where
      go : (answer : Option (List ℕ × List ℕ)) → closed_book b ≡ answer → Option-elim answer true (λ T. false) ≡ true
          → NoneClosed (slots b) (values b) (book_start b)
      go none is tested = closed_book_none b is
      go (some T) is tested = absurd (true≢false (sym tested))

  settles_means : (M : List ℕ) → holds b (settles M) ≡ true → SettlesTo b M
  unfolding holds Option-elim
  settles_means M tested = go (settled_book b) refl tested
    where
      go : (answer : Option (List ℕ)) → settled_book b ≡ answer → Option-elim answer false (λ N. same N M) ≡ true → SettlesTo b M
      go none is tested = absurd (true≢false (sym tested))
      go (some N) is tested = rw (same_true N M tested) at (settled_book_settles b N is)

  no_plan_means : holds b no_plan ≡ true → (p : List ℕ) → BookPlan b p → ⊥
  unfolding holds
  no_plan_means = planless_no_plan b

  has_plan_means : (p : List ℕ) → holds b (has_plan p) ≡ true → BookPlan b p
  unfolding holds
  has_plan_means p tested = plan_of_plan b p tested

  session_runs : (calls : List ℕ) (opening : ℕ) (words last : List ℕ) → holds b (session calls opening words last) ≡ true → RunsTo b calls opening words last
  unfolding holds
  session_runs calls opening words last tested =
      let opens_rest = (and-eq-true_iff (eqb (open_word (settled_book b)) opening) (same (words_said b calls) words && same (last_masks b calls) last)).0 tested in
      let says_ends = (and-eq-true_iff (same (words_said b calls) words) (same (last_masks b calls) last)).0 opens_rest.1 in
      let opens = eqb-true (open_word (settled_book b)) opening opens_rest.0 in
      record {
        opens = opens;
        says = same_true _ _ says_ends.0;
        ends = same_true _ _ says_ends.1;
        live = λ is_0. opened_live (settled_book b) refl (opens ∙ is_0);
        dead = λ is_1. opened_dead (settled_book b) refl (opens ∙ is_1);
      }
    where
      opened_live : (answer : Option (List ℕ)) → settled_book b ≡ answer → open_word answer ≡ 0 → Demand3 b most_marks (calls_of calls)
      opened_live none is zero_word = absurd (omega (arith, zero_word))
      opened_live (some M) is zero_word = demand3 b most_marks M is (calls_of calls)

      opened_dead : (answer : Option (List ℕ)) → settled_book b ≡ answer → open_word answer ≡ 1 → DeadOpening b most_marks (calls_of calls)
      opened_dead none is one_word = dead_opening b most_marks is (calls_of calls)
      opened_dead (some M) is one_word = absurd (omega (arith, one_word))

  pub holds_means : (c : Claim) → holds b c ≡ true → Means b c
  holds_means (closes side v bounds) = closes_means side v bounds
  holds_means dead = dead_means
  holds_means (settles M) = settles_means M
  holds_means no_plan = no_plan_means
  holds_means (has_plan p) = has_plan_means p
  holds_means (session calls opening words last) = session_runs calls opening words last

-- ---- passes
pub passes_says : (row : List ℕ × Claim) → passes row ≡ true → Says row
unfolding passes
passes_says row tested =
    let both = (and-eq-true_iff (eqb (refusal limits row.0) 0) (holds row.0 row.1)).0 tested in
    (eqb-true (refusal limits row.0) 0 both.0, holds_means row.0 row.1 both.1)

pub every_says : (rows : List (List ℕ × Claim)) → every rows ≡ true → All Says rows
unfolding every
every_says [] tested = tt
every_says (row ∷ rows) tested =
    let both = (and-eq-true_iff (passes row) (every rows)).0 tested in
    (passes_says row both.0, every_says rows both.1)
