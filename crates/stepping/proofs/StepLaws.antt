-- One call: the step, refused (`steps_refused`) or done (`steps_done`). No contract cites this file. Assumes nothing.
use mathlib.Core.Path.{◌≡◌, refl, sym, ap, subst, ◌∙◌}
use mathlib.Core.Bool.{Bool}
use mathlib.Core.List.{List}
use mathlib.Core.Option.{Option, none, some}
use Prim.Native.Nat.{ℕ, ◌+◌}
use native.Mathlib.Omega.{arith}
use lib.ListN.{length}
use Rattle.answer.specs.Answer.{number_of}
use Rattle.answer.specs.declared.Refusal as Answer
use Rattle.book.proofs.RefusalLaws.{some_number}
use Rattle.closing_model.specs.Table.{Table}
use Rattle.session_model.specs.Calls.{Call}
use Rattle.session_model.specs.Machine.{step}
use Rattle.session_model.specs.Refusal.{Refusal, unknown_kind, slot_out, value_out, no_mark, while_dead, marks_full, number, refusal}
use Rattle.session_model.specs.Standing.{stand}
use Rattle.session_model.specs.State.{Rules, State}
use Rattle.session_model.proofs.StepLaws.{step_refused, step_acts}
use Rattle.calls.specs.Refuses.{Refuses, refusal_number}
use Rattle.acts.specs.Given.{is_dead, standing_of}
use Rattle.acts.specs.Represents.{Represents, Running}
use Rattle.acts.specs.Answers.{Answered, Acts}
use Rattle.acts.specs.declared.Session.{Session}
use Rattle.acts.specs.declared.Stepped.{Stepped}
use Rattle.performing.specs.Performing.{Performing}
use Rattle.stepping.specs.Steps.{Steps}

number_none : (r : Option Refusal) → refusal_number r ≡ 0 → r ≡ none
number_none none is = refl
number_none (some unknown_kind) is = absurd (omega (arith, is))
number_none (some slot_out) is = absurd (omega (arith, is))
number_none (some value_out) is = absurd (omega (arith, is))
number_none (some no_mark) is = absurd (omega (arith, is))
number_none (some while_dead) is = absurd (omega (arith, is))
number_none (some marks_full) is = absurd (omega (arith, is))

pub record Numbered (r : Option Refusal) (x : ℕ) : Type 0 where
  pub is : Refusal
  pub some_is : r ≡ some is
  pub number_is : number is ≡ x

number_some : (r : Option Refusal) (x : ℕ) → x ≡ refusal_number r → (x ≡ 0 → ⊥) → Numbered r x
number_some none x is not_0 = absurd (not_0 is)
number_some (some r) x is not_0 = record { is = r; some_is = refl; number_is = sym is }

stepped_is : {session : Session} {first second : ℕ} {r : Stepped} → r.session ≡ session → r.first ≡ first → r.second ≡ second
    → (record { session = session; first = first; second = second }) ≡ r
stepped_is session_is first_is second_is = grind arith

-- a call that was asked about with a flag that is the session's
module _ {n k : ℕ} {c : Call} {session : Session} {masks cells trail heights : List ℕ} {dead : Bool} (dead_is : dead ≡ is_dead session.standing) where
  number_said : {T : Table} {x : ℕ} (R : Rules) (S : State) → Refuses n k (length heights) session.marks dead c x
      → Represents T R S masks cells trail heights n k session → x ≡ refusal_number (refusal R S c)
  number_said R S refuses represents =
      let suits = represents.suits in
      refuses.says R S suits.slots suits.values suits.limit (represents.flag ∙ sym dead_is) represents.marks_are

  pub steps_performing : Refuses n k (length heights) session.marks dead c 0 → Running masks cells trail heights n k session
      → Performing masks cells trail heights n k session c
  steps_performing refuses running =
      record {
        running = running;
        accepted = λ T R S represents. number_none (refusal R S c) (sym (number_said R S refuses represents));
      }

  pub steps_done : {i : ℕ} {m' ce' t' h' : List ℕ} {r : Stepped} → Refuses n k (length heights) session.marks dead c 0
      → Acts n k i c session masks cells trail heights m' ce' t' h' r → Steps n k i c session masks cells trail heights m' ce' t' h' r
  steps_done refuses acts =
      record {
        does = λ T R S represents.
            let none_is = number_none (refusal R S c) (sym (number_said R S refuses represents)) in
            rw (step_acts R S c none_is) (acts.does T R S represents);
      }

  module _ (e : Answer.Refusal) (refuses : Refuses n k (length heights) session.marks dead c (number_of e)) where
    refused_answered : (i : ℕ) {T : Table} {R : Rules} {S : State} → Represents T R S masks cells trail heights n k session
        → Answered T R (step R S c) (stand (standing_of session.standing) i c (step R S c).1) masks cells trail heights n k
        (record { session = session; first = 256 + number_of e; second = 0 })
    unfolding stand
    refused_answered i {T} {R} {S} represents =
        let numbered = number_some (refusal R S c) (number_of e) (number_said R S refuses represents) (some_number e) in
        rw (step_refused R S c numbered.is numbered.some_is)
        (record { represents = represents; first = ap (λ (y : ℕ). 256 + y) (sym numbered.number_is); second = refl; standing = refl })

    pub steps_refused : {i : ℕ} {r : Stepped} → r.session ≡ session → r.first ≡ 256 + number_of e → r.second ≡ 0
        → Steps n k i c session masks cells trail heights masks cells trail heights r
    steps_refused {i} {r} session_is first_is second_is =
        subst (λ (s : Stepped). Steps n k i c session masks cells trail heights masks cells trail heights s)
        (stepped_is session_is first_is second_is)
        (record { does = λ T R S represents. refused_answered i represents })
