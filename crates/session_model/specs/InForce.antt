-- Which decisions are in force, from the calls and their answers alone: a decision that was answered live, and that no back took
-- back. A back takes back every decision made since the mark that it restores, so each open mark keeps the decisions then in force.
--   Ledger          the decisions in force, and those at each open mark, the latest first
--   unmarked        the ledger of a fresh session: nothing in force, no mark open
--   follow          the ledger after one more call and its answer; follow_all: after a list
--   when_live, when_done   the ledger after an answer live, or done; any other answer leaves it
--   taken_back       the ledger of the latest open mark, which is then gone
--   in_force         the decisions in force after calls with these answers; at_marks: those at the marks still open
-- Assumes nothing.
use Rattle.std.specs.Prelude.{List, [], ◌∷◌}
use Rattle.session_model.specs.Decisions.{Decision}
use Rattle.session_model.specs.Calls.{Call, decide, mark, back, show, walls, unknown}
use Rattle.session_model.specs.State.{Reply, live, dead, value, done, refused}

pub record Ledger : Type 0 where
  pub force : List Decision
  pub marks : List (List Decision)

unfoldable pub when_live : Reply → Ledger → Ledger → Ledger
when_live (live struck) next same = next
when_live dead next same = same
when_live (value x) next same = same
when_live done next same = same
when_live (refused x) next same = same

unfoldable pub when_done : Reply → Ledger → Ledger → Ledger
when_done (live struck) next same = same
when_done dead next same = same
when_done (value x) next same = same
when_done done next same = next
when_done (refused x) next same = same

unfoldable pub taken_back : Ledger → List (List Decision) → Ledger
taken_back L [] = L
taken_back L (ds ∷ rest) = record { force = ds; marks = rest }

unfoldable pub follow : Ledger → Call → Reply → Ledger
follow L (decide d) r = when_live r (record { force = d ∷ L.force; marks = L.marks }) L
follow L mark r = when_done r (record { force = L.force; marks = L.force ∷ L.marks }) L
follow L back r = when_done r (taken_back L L.marks) L
follow L (show s) r = L
follow L (walls kind v) r = L
follow L unknown r = L

unfoldable pub follow_all : Ledger → List Call → List Reply → Ledger
follow_all L [] rs = L
follow_all L (c ∷ cs) [] = L
follow_all L (c ∷ cs) (r ∷ rs) = follow_all (follow L c r) cs rs

abbrev pub unmarked : Ledger
unmarked = record { force = []; marks = [] }

abbrev pub in_force : List Call → List Reply → List Decision
in_force calls rs = (follow_all unmarked calls rs).force

abbrev pub at_marks : List Call → List Reply → List (List Decision)
at_marks calls rs = (follow_all unmarked calls rs).marks
