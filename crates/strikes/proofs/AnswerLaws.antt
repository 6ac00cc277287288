-- The laws of `specs/Answers.antt`: what each answer says where it is known (`answer_contradicted`, `answer_removed`).
-- No contract cites this file. Assumes nothing.
use mathlib.Core.Path.{◌≡◌, subst}
use mathlib.Core.List.{List}
use Prim.Native.Nat.{ℕ}
use Rattle.std.proofs.Common.{Option, Some, None}
use Rattle.filter_model.specs.State.{Contradicted, Removed}
use Rattle.strikes.specs.Answers.{RemovalAnswer}
use Rattle.strikes.specs.declared.Struck.{Struck}

module _ (n k : ℕ) (m c t : List ℕ) (top : ℕ) (m' c' t' : List ℕ) (slot v : ℕ) {r : Option Struck}
    (answer : RemovalAnswer n k m c t top m' c' t' slot v r) where
  pub answer_contradicted : r ≡ None → Contradicted n k m c t m' c' t' slot v
  answer_contradicted is = subst (λ (x : Option Struck). RemovalAnswer n k m c t top m' c' t' slot v x) is answer

  pub answer_removed : {s : Struck} → r ≡ Some s
      → Removed n k m c t top m' c' t' slot v s.low_note s.low_reach s.high_note s.high_reach s.only
  answer_removed is = subst (λ (q : Option Struck). RemovalAnswer n k m c t top m' c' t' slot v q) is answer
