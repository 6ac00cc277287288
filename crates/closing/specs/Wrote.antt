-- What the functions below the entries promise of the two lists that they write.
--   Wrote o r L U        the answer r and the lists L and U are those of the outcome o
-- Assumes nothing.
use Rattle.std.specs.Prelude.{◌≡◌, List, ℕ, Ok}
use Rattle.answer.specs.declared.Verdict.{Verdict}
use Rattle.answer.specs.Answer.{word_of}
use Rattle.closing.specs.Close.{Outcome, answer_of, lowers_of, uppers_of}

pub record Wrote (o : Outcome) (r : Verdict) (L U : List ℕ) : Type 0 where
  pub answer : word_of (Ok r) ≡ answer_of o
  pub lowers : L ≡ lowers_of o
  pub uppers : U ≡ uppers_of o
