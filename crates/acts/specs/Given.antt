-- The declared standing, and a decision's parts, in the words of session_model.
--   standing_of s    the standing that s stands for
--   is_dead s        the machine's flag in it; is_shut s: it opened dead
--   decision_of a slot v   an assign (a true) or a remove
--   CutOf a slot v  what the decision asks of a list: the slot fixed to v, or without it
-- Assumes nothing.
use Rattle.std.specs.Prelude.{Bool, true, false, List, ℕ}
use Rattle.filter_model.specs.Cuts.{StrikeCut, FixCut}
use Rattle.session_model.specs.Decisions.{Decision, assign, remove}
use Rattle.session_model.specs.Standing as Model
use Rattle.acts.specs.declared.Standing.{Standing}
use Rattle.acts.specs.declared.Standing.TheVariants.{OpenedDead, Live, Dead}

abbrev pub standing_of : Standing → Model.Standing
standing_of OpenedDead = Model.OpenedDead
standing_of Live = Model.Live
standing_of (Dead call) = Model.Dead call

abbrev pub is_dead : Standing → Bool
is_dead OpenedDead = true
is_dead Live = false
is_dead (Dead call) = true

abbrev pub is_shut : Standing → Bool
is_shut OpenedDead = true
is_shut Live = false
is_shut (Dead call) = false

abbrev pub decision_of : Bool → ℕ → ℕ → Decision
decision_of true slot v = assign slot v
decision_of false slot v = remove slot v

abbrev pub CutOf : Bool → ℕ → ℕ → List ℕ → Type 0
CutOf true slot v = FixCut slot v
CutOf false slot v = StrikeCut slot v
