-- The laws of `runs`, `run` and `words_of`: what a loop over the calls cites. A list is its calls one at a time (`runs_append`, `runs_snoc`,
-- `run_append`, `run_snoc`), from the opening on (`run_none`, `opened_live`, `opened_dead`); a call inside a list is answered as by one step from the state
-- after the calls before it (`runs_reply`, `runs_through`); the first word of an answer (`words_of_first`). No contract cites this file. Assumes nothing.
use mathlib.Core.Path.{◌≡◌, refl, ap, ◌∙◌}
use mathlib.Core.Logic.{◌↔◌}
use mathlib.Core.List.{List, [], ◌∷◌, ◌++◌}
use mathlib.Core.Option.{none, some}
use Prim.Native.Nat.{ℕ, zero, suc, ◌*◌, ◌<◌}
use native.Mathlib.Omega.{arith}
use lib.ListN.{length, get_or}
use Rattle.session_model.specs.Calls.{Call}
use Rattle.session_model.specs.State.{Rules, State, Reply, live, dead, value, done, refused, words, words_of}
use Rattle.session_model.specs.Demand.{Refused}
use Rattle.session_model.specs.Machine.{step, runs, wallless, shut, fresh, opened, run}

-- a run, and one call more
abbrev pub one_more : Rules → State × List Reply → Call → State × List Reply
one_more R ran c = ((step R ran.0 c).0, ran.1 ++ ((step R ran.0 c).1 ∷ []))

-- ---- runs
module _ (R : Rules) where
  pub runs_append : (S : State) (calls more : List Call)
      → runs R S (calls ++ more) ≡ ((runs R (runs R S calls).0 more).0, (runs R S calls).1 ++ (runs R (runs R S calls).0 more).1)
  unfolding runs
  runs_append S [] more = refl
  runs_append S (c ∷ calls) more = ap (λ (t : State × List Reply). (t.0, (step R S c).1 ∷ t.1)) (runs_append (step R S c).0 calls more)

  pub runs_snoc : (S : State) (calls : List Call) (c : Call) → runs R S (calls ++ (c ∷ [])) ≡ one_more R (runs R S calls) c
  unfolding runs
  runs_snoc S calls c = runs_append S calls (c ∷ [])

  pub runs_through : (S : State) (before : List Call) (c : Call) → (runs R S (before ++ (c ∷ []))).0 ≡ (step R (runs R S before).0 c).0
  runs_through S before c = ap (λ (t : State × List Reply). t.0) (runs_snoc S before c)

  -- a call inside a list
  pub runs_reply : (S : State) (before rest : List Call) (c : Call)
      → get_or (runs R S (before ++ (c ∷ rest))).1 (length before) done ≡ (step R (runs R S before).0 c).1
  unfolding runs
  runs_reply S [] rest c = refl
  runs_reply S (b ∷ before) rest c = runs_reply (step R S b).0 before rest c

  pub length_replies : (S : State) (calls : List Call) → length (runs R S calls).1 ≡ length calls
  unfolding runs
  length_replies S [] = refl
  length_replies S (c ∷ calls) = ap suc (length_replies (step R S c).0 calls)

-- ---- opened, run
module _ (R : Rules) (book : List ℕ) where
  pub opened_live : (M : List ℕ) → R.settle book ≡ some M → opened R (R.settle book) ≡ (R, fresh M)
  unfolding opened
  opened_live M settles = ap (opened R) settles

  pub opened_dead : R.settle book ≡ none → opened R (R.settle book) ≡ (wallless R, shut R)
  unfolding opened
  opened_dead fails = ap (opened R) fails

  pub run_none : run R book [] ≡ ((opened R (R.settle book)).1, [])
  unfolding run runs
  run_none = refl

  pub run_append : (calls more : List Call) → run R book (calls ++ more)
      ≡ (
        (runs (opened R (R.settle book)).0 (run R book calls).0 more).0,
        (run R book calls).1 ++ (runs (opened R (R.settle book)).0 (run R book calls).0 more).1,
      )
  unfolding run
  run_append calls more = runs_append (opened R (R.settle book)).0 (opened R (R.settle book)).1 calls more

  pub run_snoc : (calls : List Call) (c : Call) → run R book (calls ++ (c ∷ [])) ≡ one_more (opened R (R.settle book)).0 (run R book calls) c
  unfolding run
  run_snoc calls c = runs_snoc (opened R (R.settle book)).0 (opened R (R.settle book)).1 calls c

  pub length_run : (calls : List Call) → length (run R book calls).1 ≡ length calls
  unfolding run
  length_run calls = length_replies (opened R (R.settle book)).0 (opened R (R.settle book)).1 calls

-- ---- words_of
pub words_of_append : (rs more : List Reply) → words_of (rs ++ more) ≡ words_of rs ++ words_of more
unfolding words_of
words_of_append [] more = refl
words_of_append (r ∷ rs) more = ap (λ (l : List ℕ). (words r).0 ∷ (words r).1 ∷ l) (words_of_append rs more)

pub length_words_of : (rs : List Reply) → length (words_of rs) ≡ 2 * length rs
unfolding words_of
length_words_of [] = refl
length_words_of (r ∷ rs) = omega (arith, length_words_of rs)

-- the first word of answer i
pub words_of_first : (rs : List Reply) (i : ℕ) → i < length rs → get_or (words_of rs) (2 * i) 0 ≡ (words (get_or rs i done)).0
unfolding words_of
words_of_first [] i i<m = absurd (omega arith)
words_of_first (r ∷ rs) zero i<m = refl
words_of_first (r ∷ rs) (suc i) i<m =
    let at : 2 * suc i ≡ suc (suc (2 * i)) = omega arith in
    ap (λ (p : ℕ). get_or ((words r).0 ∷ (words r).1 ∷ words_of rs) p 0) at ∙ words_of_first rs i (omega arith)

-- of the answers dead alone has 1 there, and a refusal 256 or more
pub first_word_dead : (r : Reply) → (r ≡ dead) ↔ ((words r).0 ≡ 1)
first_word_dead r = (λ is. ap (λ (a : Reply). (words a).0) is, one_dead r)
  where
    one_dead : (a : Reply) → (words a).0 ≡ 1 → a ≡ dead
    one_dead (live x) one = absurd (omega (arith, one))
    one_dead dead one = refl
    one_dead (value x) one = absurd (omega (arith, one))
    one_dead done one = absurd (omega (arith, one))
    one_dead (refused x) one = absurd (omega (arith, one))

pub first_word_unrefused : (r : Reply) → (words r).0 < 256 → Refused r → ⊥
first_word_unrefused (live x) below is = is
first_word_unrefused dead below is = is
first_word_unrefused (value x) below is = is
first_word_unrefused done below is = is
first_word_unrefused (refused x) below is = omega (arith, below)
