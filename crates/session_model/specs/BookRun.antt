-- The plain machine of a good book, fed only the book's bytes b and the calls. The number of marks that may be open is a parameter.
--   rules_of b limit         what the machine has of the book: settling and wall counts by the closed table. Where the book does not close,
--                           no masks settle. Its ones leave the idle value out
--   run_book b limit calls   the list run from the fresh opening: the last state, and the answers
--   state_after, replies_of, reply_of   its parts, and the answer to call i
--   force_after, marks_after  the decisions in force after the list, and those at each mark still open
--   standing_after           the session's standing after the list
-- `rules_of_settle` ties the opening to `settled_book`. Assumes nothing.
use Rattle.std.specs.Prelude.{List, ℕ}
use Rattle.std.proofs.Math.Option.{bind, Option-elim}
use Rattle.book.specs.Layout.{slots, values, idle, masks}
use Rattle.closing_model.specs.Table.{view}
use Rattle.settling_model.specs.Stable.{table_bounds}
use Rattle.settling_model.specs.Settling.{settling}
use Rattle.settling_model.specs.Book.{closed_book, settled_book}
use Rattle.session_model.specs.Decisions.{Decision}
use Rattle.session_model.specs.Calls.{Call}
use Rattle.session_model.specs.Walls.{wall_count}
use Rattle.session_model.specs.News.{news_total}
use Rattle.session_model.specs.State.{Rules, State, Reply}
use Rattle.session_model.specs.Machine.{run, after, replies, reply_at}
use Rattle.session_model.specs.InForce.{in_force, at_marks}
use Rattle.session_model.specs.Standing.{Standing, stand_from, opening}

abbrev pub rules_of : List ℕ → ℕ → Rules
rules_of b limit =
    record {
      slots = slots b;
      values = values b;
      limit = limit;
      settle = λ M. bind (closed_book b) (λ T. settling (table_bounds (slots b) (values b) (view T.0 T.1)) M);
      standing = λ kind M v. Option-elim (closed_book b) 0 (λ T. wall_count kind (slots b) (view T.0 T.1) M v);
      ones = news_total (idle b);
    }

abbrev pub run_book : List ℕ → ℕ → List Call → State × List Reply
run_book b limit calls = run (rules_of b limit) (masks b) calls

abbrev pub state_after : List ℕ → ℕ → List Call → State
state_after b limit calls = after (rules_of b limit) (masks b) calls

abbrev pub replies_of : List ℕ → ℕ → List Call → List Reply
replies_of b limit calls = replies (rules_of b limit) (masks b) calls

abbrev pub reply_of : List ℕ → ℕ → List Call → ℕ → Reply
reply_of b limit calls i = reply_at (rules_of b limit) (masks b) calls i

abbrev pub force_after : List ℕ → ℕ → List Call → List Decision
force_after b limit calls = in_force calls (replies_of b limit calls)

abbrev pub marks_after : List ℕ → ℕ → List Call → List (List Decision)
marks_after b limit calls = at_marks calls (replies_of b limit calls)

abbrev pub standing_after : List ℕ → ℕ → List Call → Standing
standing_after b limit calls = stand_from (opening (settled_book b)) 0 calls (replies_of b limit calls)
