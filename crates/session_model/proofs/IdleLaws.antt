-- The idle byte changes no plan (`specs/Idle.antt`): the count of ones is in no other part of the machine (`run_alike`), and decisions in force and standing
-- are read off answers without their struck counts (`follow_all_struckless`, `stand_from_struckless`); so for two books that differ in byte 3 alone
-- `same_but_struck`. In words: `struckless_first` and `struckless_second`. No contract cites this file. Assumes nothing.
--   counting R f   the rules R with the count f of ones
use mathlib.Core.Path.{◌≡◌, refl, sym, ap, ◌∙◌}
use mathlib.Core.List.{List, [], ◌∷◌}
use mathlib.Core.Option.{Option, none, some, bind, Option-elim}
use Prim.Native.Nat.{ℕ, zero, suc, ◌+◌, ◌*◌}
use native.Mathlib.Omega.{arith}
use lib.ListN.{get_or}
use Rattle.book.specs.declared.Row.{Row}
use Rattle.book.specs.Idle.{OnlyByte3}
use Rattle.book.specs.Layout.{slots, values, idle, masks, rows}
use Rattle.book.proofs.IdleLaws.{slots_same, values_same, masks_same, rows_same}
use Rattle.closing_model.specs.Table.{view}
use Rattle.closing_model.specs.Start.{start_lowers, start_uppers}
use Rattle.closing_model.specs.Closing.{closing}
use Rattle.settling_model.specs.Stable.{table_bounds}
use Rattle.settling_model.specs.Settling.{settling}
use Rattle.settling_model.specs.Book.{closed_book, settled_book, BookPlan}
use Rattle.session_model.specs.Decisions.{cut}
use Rattle.session_model.specs.Calls.{Call, decide, mark, back, show, walls, unknown}
use Rattle.session_model.specs.Walls.{wall_count}
use Rattle.session_model.specs.News.{news_total}
use Rattle.session_model.specs.State.{Rules, State, Reply, live, dead, value, done, refused, words, words_of}
use Rattle.session_model.specs.Refusal.{Refusal, first, refusal}
use Rattle.session_model.specs.Machine.{decided, act, step_by, step, runs, opened, run}
use Rattle.session_model.specs.InForce.{Ledger, when_live, when_done, follow, follow_all, unmarked}
use Rattle.session_model.specs.Standing.{Standing, stand, stand_from, opening}
use Rattle.session_model.specs.BookRun.{rules_of, run_book, state_after, replies_of, standing_after}
use Rattle.session_model.specs.Idle.{struckless, struckless_all, SameButStruck}

-- ---- the count of ones is in no other part of the machine
abbrev counting : Rules → (List ℕ → ℕ) → Rules
counting R f = record { slots = R.slots; values = R.values; limit = R.limit; settle = R.settle; standing = R.standing; ones = f }

abbrev Alike : State × Reply → State × Reply → Type 0
Alike a b = (a.0 ≡ b.0) × (struckless a.1 ≡ struckless b.1)

module _ (R : Rules) (f : List ℕ → ℕ) where
  decided_alike : (S : State) (settled : Option (List ℕ)) → Alike (decided (counting R f) S settled) (decided R S settled)
  unfolding decided
  decided_alike S none = (refl, refl)
  decided_alike S (some N) = (refl, refl)

  act_alike : (S : State) (c : Call) → Alike (act (counting R f) S c) (act R S c)
  unfolding act
  act_alike S (decide d) = decided_alike S (R.settle (cut d S.masks))
  act_alike S mark = (refl, refl)
  act_alike S back = (refl, refl)
  act_alike S (show s) = (refl, refl)
  act_alike S (walls kind v) = (refl, refl)
  act_alike S unknown = (refl, refl)

  step_by_alike : (S : State) (c : Call) (o : Option Refusal) → Alike (step_by (counting R f) S c o) (step_by R S c o)
  unfolding step_by
  step_by_alike S c none = act_alike S c
  step_by_alike S c (some r) = (refl, refl)

  step_alike : (S : State) (c : Call) → Alike (step (counting R f) S c) (step R S c)
  unfolding step refusal first
  step_alike S c = step_by_alike S c (refusal R S c)

  runs_alike : (S : State) (calls : List Call)
      → ((runs (counting R f) S calls).0 ≡ (runs R S calls).0) × (struckless_all (runs (counting R f) S calls).1 ≡ struckless_all (runs R S calls).1)
  unfolding runs struckless_all
  runs_alike S [] = (refl, refl)
  runs_alike S (c ∷ cs) =
      let now = step_alike S c in
      let rest = runs_alike (step R S c).0 cs in (
        ap (λ (X : State). (runs (counting R f) X cs).0) now.0 ∙ rest.0,
        ap (λ (r : Reply). r ∷ struckless_all (runs (counting R f) (step (counting R f) S c).0 cs).1) now.1
            ∙ ap (λ (X : State). struckless (step R S c).1 ∷ struckless_all (runs (counting R f) X cs).1) now.0
            ∙ ap (λ (rs : List Reply). struckless (step R S c).1 ∷ rs) rest.1,
      )

module _ (R : Rules) (f : List ℕ → ℕ) (calls : List Call) where
  opened_alike : (settled : Option (List ℕ))
      → ((runs (opened (counting R f) settled).0 (opened (counting R f) settled).1 calls).0 ≡ (runs (opened R settled).0 (opened R settled).1 calls).0)
      × (struckless_all (runs (opened (counting R f) settled).0 (opened (counting R f) settled).1 calls).1
      ≡ struckless_all (runs (opened R settled).0 (opened R settled).1 calls).1)
  unfolding opened
  opened_alike none = runs_alike _ f _ calls
  opened_alike (some M) = runs_alike R f _ calls

  run_alike : (M : List ℕ)
      → ((run (counting R f) M calls).0 ≡ (run R M calls).0) × (struckless_all (run (counting R f) M calls).1 ≡ struckless_all (run R M calls).1)
  unfolding run
  run_alike M = opened_alike (R.settle M)

-- ---- decisions in force and standing do not look at the struck counts
when_live_struckless : (r : Reply) (next same : Ledger) → when_live r next same ≡ when_live (struckless r) next same
unfolding when_live
when_live_struckless (live x) next same = refl
when_live_struckless dead next same = refl
when_live_struckless (value x) next same = refl
when_live_struckless done next same = refl
when_live_struckless (refused x) next same = refl

when_done_struckless : (r : Reply) (next same : Ledger) → when_done r next same ≡ when_done (struckless r) next same
unfolding when_done
when_done_struckless (live x) next same = refl
when_done_struckless dead next same = refl
when_done_struckless (value x) next same = refl
when_done_struckless done next same = refl
when_done_struckless (refused x) next same = refl

follow_struckless : (L : Ledger) (c : Call) (r : Reply) → follow L c r ≡ follow L c (struckless r)
unfolding follow
follow_struckless L (decide d) r = when_live_struckless r _ _
follow_struckless L mark r = when_done_struckless r _ _
follow_struckless L back r = when_done_struckless r _ _
follow_struckless L (show s) r = refl
follow_struckless L (walls kind v) r = refl
follow_struckless L unknown r = refl

follow_all_struckless : (L : Ledger) (cs : List Call) (rs : List Reply) → follow_all L cs rs ≡ follow_all L cs (struckless_all rs)
unfolding follow_all struckless_all
follow_all_struckless L [] rs = refl
follow_all_struckless L (c ∷ cs) [] = refl
follow_all_struckless L (c ∷ cs) (r ∷ rs) =
    follow_all_struckless (follow L c r) cs rs ∙ ap (λ (X : Ledger). follow_all X cs (struckless_all rs)) (follow_struckless L c r)

stand_struckless : (St : Standing) (i : ℕ) (c : Call) (r : Reply) → stand St i c r ≡ stand St i c (struckless r)
unfolding stand
stand_struckless St i c (live x) = refl
stand_struckless St i c dead = refl
stand_struckless St i c (value x) = refl
stand_struckless St i c done = refl
stand_struckless St i c (refused x) = refl

stand_from_struckless : (St : Standing) (i : ℕ) (cs : List Call) (rs : List Reply) → stand_from St i cs rs ≡ stand_from St i cs (struckless_all rs)
unfolding stand_from struckless_all
stand_from_struckless St i [] rs = refl
stand_from_struckless St i (c ∷ cs) [] = refl
stand_from_struckless St i (c ∷ cs) (r ∷ rs) =
    stand_from_struckless (stand St i c r) (suc i) cs rs ∙ ap (λ (X : Standing). stand_from X (suc i) cs (struckless_all rs)) (stand_struckless St i c r)

-- ---- the words of an answer: the first does not tell the struck count, and the second is that count only where the first is 0
first_struckless : (r : Reply) → (words (struckless r)).0 ≡ (words r).0
first_struckless (live x) = refl
first_struckless dead = refl
first_struckless (value x) = refl
first_struckless done = refl
first_struckless (refused x) = refl

second_struckless : (r : Reply) → ((words r).0 ≡ 0 → ⊥) → (words (struckless r)).1 ≡ (words r).1
second_struckless (live x) not_live = absurd (not_live refl)
second_struckless dead not_live = refl
second_struckless (value x) not_live = refl
second_struckless done not_live = refl
second_struckless (refused x) not_live = refl

two_more : (i : ℕ) → 2 * suc i ≡ suc (suc (2 * i))
two_more i = omega arith

two_more_one : (i : ℕ) → 2 * suc i + 1 ≡ suc (suc (2 * i + 1))
two_more_one i = omega arith

pub struckless_first : (rs : List Reply) (i : ℕ) → get_or (words_of (struckless_all rs)) (2 * i) 0 ≡ get_or (words_of rs) (2 * i) 0
unfolding struckless_all words_of
struckless_first [] i = refl
struckless_first (r ∷ rs) zero = first_struckless r
struckless_first (r ∷ rs) (suc i) = rw (two_more i) (struckless_first rs i)

pub struckless_second : (rs : List Reply) (i : ℕ) → (get_or (words_of rs) (2 * i) 0 ≡ 0 → ⊥)
    → get_or (words_of (struckless_all rs)) (2 * i + 1) 0 ≡ get_or (words_of rs) (2 * i + 1) 0
unfolding struckless_all words_of
struckless_second [] i not_live = refl
struckless_second (r ∷ rs) zero not_live = second_struckless r not_live
struckless_second (r ∷ rs) (suc i) not_live = rw (two_more_one i) (struckless_second rs i (λ is. not_live (rw (two_more i) is)))

-- ---- two such books
closed_from : ℕ → ℕ → List Row → Option (List ℕ × List ℕ)
closed_from n k rs = closing n k (start_lowers n k rs) (start_uppers n k rs)

settled_from : ℕ → ℕ → Option (List ℕ × List ℕ) → List ℕ → Option (List ℕ)
settled_from n k closed M = bind closed (λ T. settling (table_bounds n k (view T.0 T.1)) M)

abbrev rules_from : ℕ → ℕ → Option (List ℕ × List ℕ) → ℕ → (List ℕ → ℕ) → Rules
rules_from n k closed limit f =
    record {
      slots = n;
      values = k;
      limit = limit;
      settle = λ M. bind closed (λ T. settling (table_bounds n k (view T.0 T.1)) M);
      standing = λ kind M v. Option-elim closed 0 (λ T. wall_count kind n (view T.0 T.1) M v);
      ones = f;
    }

module _ {b c : List ℕ} (only : OnlyByte3 b c) where
  plan_same : (p : List ℕ) → BookPlan b p → BookPlan c p
  plan_same p plan = rw (masks_same only, rows_same only, slots_same only, values_same only) plan

  same_plan : (p : List ℕ) → BookPlan c p → BookPlan b p
  same_plan p plan = rw (masks_same only, rows_same only, slots_same only, values_same only) at plan

  closed_same : closed_book c ≡ closed_book b
  unfolding closed_from
  closed_same =
      ap (λ (n : ℕ). closed_from n (values c) (rows c)) (slots_same only)
      ∙ ap (λ (k : ℕ). closed_from (slots b) k (rows c)) (values_same only) ∙ ap (λ (rs : List Row). closed_from (slots b) (values b) rs) (rows_same only)

  settled_same : settled_book c ≡ settled_book b
  unfolding settled_book settled_from
  settled_same =
      ap (λ (n : ℕ). settled_from n (values c) (closed_book c) (masks c)) (slots_same only)
      ∙ ap (λ (k : ℕ). settled_from (slots b) k (closed_book c) (masks c)) (values_same only)
      ∙ ap (λ (T : Option (List ℕ × List ℕ)). settled_from (slots b) (values b) T (masks c)) closed_same
      ∙ ap (settled_from (slots b) (values b) (closed_book b)) (masks_same only)

  rules_same : (limit : ℕ) → rules_of c limit ≡ counting (rules_of b limit) (news_total (idle c))
  rules_same limit =
      let f = news_total (idle c) in
      ap (λ (n : ℕ). rules_from n (values c) (closed_book c) limit f) (slots_same only)
      ∙ ap (λ (k : ℕ). rules_from (slots b) k (closed_book c) limit f) (values_same only)
      ∙ ap (λ (T : Option (List ℕ × List ℕ)). rules_from (slots b) (values b) T limit f) closed_same

  module _ (limit : ℕ) (calls : List Call) where
    run_same : run_book c limit calls ≡ run (counting (rules_of b limit) (news_total (idle c))) (masks b) calls
    run_same =
        ap (λ (R : Rules). run R (masks c) calls) (rules_same limit)
        ∙ ap (λ (M : List ℕ). run (counting (rules_of b limit) (news_total (idle c))) M calls) (masks_same only)

    state_same : state_after c limit calls ≡ state_after b limit calls
    state_same = ap (λ (t : State × List Reply). t.0) run_same ∙ (run_alike (rules_of b limit) (news_total (idle c)) calls (masks b)).0

    answers_same : struckless_all (replies_of c limit calls) ≡ struckless_all (replies_of b limit calls)
    answers_same = ap (λ (t : State × List Reply). struckless_all t.1) run_same ∙ (run_alike (rules_of b limit) (news_total (idle c)) calls (masks b)).1

    forces_same : follow_all unmarked calls (replies_of c limit calls) ≡ follow_all unmarked calls (replies_of b limit calls)
    forces_same =
        follow_all_struckless unmarked calls (replies_of c limit calls)
        ∙ ap (follow_all unmarked calls) answers_same ∙ sym (follow_all_struckless unmarked calls (replies_of b limit calls))

    stands_same : standing_after c limit calls ≡ standing_after b limit calls
    stands_same =
        ap (λ (o : Option (List ℕ)). stand_from (opening o) 0 calls (replies_of c limit calls)) settled_same
        ∙ stand_from_struckless (opening (settled_book b)) 0 calls (replies_of c limit calls)
        ∙ ap (stand_from (opening (settled_book b)) 0 calls) answers_same
        ∙ sym (stand_from_struckless (opening (settled_book b)) 0 calls (replies_of b limit calls))

    pub same_but_struck : SameButStruck b c limit calls
    same_but_struck =
        record {
          plans = λ p. (plan_same p, same_plan p);
          given = masks_same only;
          closed = closed_same;
          settled = settled_same;
          walls = λ kind M v. ap (λ (R : Rules). R.standing kind M v) (rules_same limit);
          state = state_same;
          force = ap (λ (L : Ledger). L.force) forces_same;
          marks = ap (λ (L : Ledger). L.marks) forces_same;
          standing = stands_same;
          answers = answers_same;
        }
