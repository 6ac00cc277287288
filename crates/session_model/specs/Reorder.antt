-- What the order 11, 12, 13, 15, 14, 16 changed (document 02, request five): before it 15 was asked next after 11.
--   order_before            that order. It stands here to say what changed, and nothing else cites it; refusal_before, step_before: a call by it
--   runs_before, run_before  a list of calls by it, from a state, and from a book's opening; answer_before: the answer to the call that stands after these calls
--   decides c              the call is an assign or a remove
--   changed R S c          .. while dead, and its slot is n or more, or its value k or more
--   Renumbered R S c was is   of the answers to a call by the two orders: they differ exactly where `changed`; there it was 15, and is 12 where the slot
--                          is out of range, else 13
--   Reordered b limit calls   of a book and a list of calls: the same state, decisions in force and standing, and each answer `Renumbered`
-- `renumbered` proves it of every state and call, `reordered` of every book and list. Assumes nothing.
use Rattle.std.specs.Prelude.{◌≡◌, ◌↔◌, Bool, true, false, cond, ◌&&◌, ◌||◌, List, [], ◌∷◌, ℕ, eqb, length, get_or}
use Rattle.std.proofs.Math.Option.{Option}
use Rattle.book.specs.Layout.{masks}
use Rattle.settling_model.specs.Book.{settled_book}
use Rattle.session_model.specs.Calls.{Call, kind_of}
use Rattle.session_model.specs.State.{Rules, State, Reply, done, refused, words}
use Rattle.session_model.specs.Refusal.{Refusal, unknown_kind, slot_out, value_out, no_mark, while_dead, marks_full, slot_fails, value_fails, applies, first}
use Rattle.session_model.specs.Machine.{step_by, opened}
use Rattle.session_model.specs.InForce.{in_force, at_marks}
use Rattle.session_model.specs.Standing.{stand_from, opening}
use Rattle.session_model.specs.BookRun.{rules_of, state_after, replies_of, force_after, marks_after, standing_after}
use Rattle.session_model.specs.Demand.{At, answer_to}

-- ---- the machine by the order before
abbrev pub order_before : List Refusal
order_before = unknown_kind ∷ while_dead ∷ slot_out ∷ value_out ∷ no_mark ∷ marks_full ∷ []

abbrev pub refusal_before : Rules → State → Call → Option Refusal
refusal_before R S c = first (applies R S c) order_before

abbrev pub step_before : Rules → State → Call → State × Reply
step_before R S c = step_by R S c (refusal_before R S c)

unfoldable pub runs_before : Rules → State → List Call → State × List Reply
runs_before R S [] = (S, [])
runs_before R S (c ∷ cs) =
    let now = step_before R S c in
    let rest = runs_before R now.0 cs in
    (rest.0, now.1 ∷ rest.1)

unfoldable pub run_before : List ℕ → ℕ → List Call → State × List Reply
run_before b limit calls =
    let start = opened (rules_of b limit) ((rules_of b limit).settle (masks b)) in
    runs_before start.0 start.1 calls

abbrev pub answer_before : List ℕ → ℕ → List Call → List Call → Reply
answer_before b limit calls before = get_or (run_before b limit calls).1 (length before) done

-- ---- one call
abbrev pub decides : Call → Bool
decides c = eqb (kind_of c) 1 || eqb (kind_of c) 2

abbrev pub changed : Rules → State → Call → Bool
changed R S c = decides c && (S.dead && (slot_fails R.slots c || value_fails R.values c))

pub record Renumbered (R : Rules) (S : State) (c : Call) (was is : Reply) : Type 0 where
  pub differs : (words was ≡ words is → ⊥) ↔ (changed R S c ≡ true)
  pub same : changed R S c ≡ false → was ≡ is
  pub before : changed R S c ≡ true → was ≡ refused 15
  pub now : changed R S c ≡ true → is ≡ refused (cond (slot_fails R.slots c) 12 13)

-- ---- a list of calls
pub record Reordered (b : List ℕ) (limit : ℕ) (calls : List Call) : Type 0 where
  pub state : (run_before b limit calls).0 ≡ state_after b limit calls
  pub force : in_force calls (run_before b limit calls).1 ≡ force_after b limit calls
  pub marks : at_marks calls (run_before b limit calls).1 ≡ marks_after b limit calls
  pub standing : stand_from (opening (settled_book b)) 0 calls (run_before b limit calls).1 ≡ standing_after b limit calls
  pub size : length (run_before b limit calls).1 ≡ length (replies_of b limit calls)
  pub answers : (before rest : List Call) (c : Call) → At calls before c rest
      → Renumbered (rules_of b limit) (state_after b limit before) c (answer_before b limit calls before) (answer_to b limit calls before)
