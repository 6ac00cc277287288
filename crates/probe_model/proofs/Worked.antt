-- Document 02's words on request four, computed: books and lists of calls as bytes, each with an output of three bytes 7 or of none, and what probe answers and
-- leaves there. `every_case_right` computes `probe` of each. The figures are worked out by hand. No contract cites this file. Assumes nothing.
use mathlib.Core.Path.{◌≡◌, refl}
use mathlib.Core.Bool.{Bool, true, false, ◌&&◌}
use mathlib.Core.List.{List, [], ◌∷◌, ◌++◌}
use mathlib.Core.Option.{bind, Option-elim}
use Prim.Native.Nat.{ℕ}
use lib.Count.{ones}
use lib.Dec.{eqb}
use Rattle.domains.specs.Mask.{test_bit, clear_bit}
use Rattle.domains.specs.Counts.{count, only}
use Rattle.book.specs.declared.Limits.{Limits}
use Rattle.book.specs.Layout.{list_of}
use Rattle.book.specs.Refusal.{first_of, header_fault, mask_fault, row_fault, refusal}
use Rattle.closing_model.specs.Table.{others}
use Rattle.closing_model.specs.Start.{low_of, high_of, start_lowers, start_uppers}
use Rattle.closing_model.specs.Closing.{new_lower, new_upper, step_lowers, step_uppers, crossed, same, closing_within, list_sum, closing}
use Rattle.settling_model.specs.Stable.{line_bounds, table_bounds}
use Rattle.settling_model.specs.Cuts.{fix_to, strike_unfixed, map_before, cut_if, cut_low, cut_high}
use Rattle.settling_model.specs.Settling.{pass, passes as settling_passes, fixpoint, none_empty, none_broken, settling}
use Rattle.settling_model.specs.Book.{settled_book}
use Rattle.session_model.specs.News.{news, news_total}
use Rattle.session_model.specs.Decisions.{keep_only, cut}
use Rattle.session_model.specs.Calls.{call_of}
use Rattle.session_model.specs.Refusal.{first, refusal as call_refusal}
use Rattle.session_model.specs.Machine.{decided, restored, act, step_by, step, runs, opened, run}
use Rattle.probe_model.specs.Probe.{call_fault, probe_fault, probe}

abbrev limits : Limits
limits = record { slots = 256; values = 32; rows = 1024 }

-- 4 slots, 2 types, full masks; of type 0 at least `least` within 2 slots, and at most 1 within 4
abbrev book : ℕ → List ℕ
book least =
    4 ∷ 0 ∷ 2 ∷ 0 ∷ 2 ∷ 0 ∷ 12 ∷ 0 ∷ 28 ∷ 0 ∷ 44 ∷ 0
    ∷ 3 ∷ 0 ∷ 0 ∷ 0 ∷ 3 ∷ 0 ∷ 0 ∷ 0 ∷ 3 ∷ 0 ∷ 0 ∷ 0 ∷ 3 ∷ 0 ∷ 0 ∷ 0
    ∷ 0 ∷ 0 ∷ 2 ∷ 0 ∷ least ∷ 0 ∷ 255 ∷ 255 ∷ 0 ∷ 0 ∷ 4 ∷ 0 ∷ 0 ∷ 0 ∷ 1 ∷ 0 ∷ []

abbrev live : List ℕ
live = book 1

abbrev dead : List ℕ
dead = book 2

-- kind, type and slot of a call
abbrev call : ℕ → ℕ → ℕ → List ℕ
call kind v s = kind ∷ v ∷ s ∷ 0 ∷ []

abbrev sevens : List ℕ
sevens = 7 ∷ 7 ∷ 7 ∷ []

pub record Case : Type 0 where
  lent : List ℕ
  calls : List ℕ
  output : List ℕ
  answer : ℕ
  back : List ℕ

abbrev pub cases : List Case
cases =
    -- type 0 in slot 2 leaves none for the first two slots; type 1 there does not
    record { lent = live; calls = call 1 0 2 ++ call 1 1 2; output = sevens; answer = 0; back = 1 ∷ 0 ∷ 7 ∷ [] }
    ∷  -- each alone: both together would die
    record { lent = live; calls = call 1 0 0 ++ call 1 0 1; output = sevens; answer = 0; back = 0 ∷ 0 ∷ 7 ∷ [] }
    ∷  -- no calls
    record { lent = live; calls = []; output = []; answer = 0; back = [] }
    ∷  -- a dead book
    record { lent = dead; calls = call 1 0 0 ++ call 1 1 2; output = sevens; answer = 1; back = 1 ∷ 1 ∷ 7 ∷ [] }
    ∷  -- a remove
    record { lent = live; calls = call 1 0 0 ++ call 2 0 0; output = sevens; answer = 267; back = sevens }
    ∷  -- kind before slot before type
    record { lent = live; calls = call 0 2 4; output = sevens; answer = 267; back = sevens }
    ∷ record { lent = live; calls = call 1 2 4; output = sevens; answer = 268; back = sevens }
    ∷ record { lent = live; calls = call 1 2 3; output = sevens; answer = 269; back = sevens }
    ∷  -- the first refused call
    record { lent = live; calls = call 1 2 0 ++ call 0 0 0; output = sevens; answer = 269; back = sevens }
    ∷  -- the calls before 9, and 9 before dead
    record { lent = live; calls = call 1 0 4; output = []; answer = 268; back = [] }
    ∷ record { lent = dead; calls = call 1 0 0; output = []; answer = 265; back = [] }
    ∷  -- bad calls on a dead book
    record { lent = dead; calls = call 1 0 4; output = sevens; answer = 268; back = sevens }
    ∷  -- 10 before the calls
    record { lent = live; calls = call 0 0 0 ++ (1 ∷ []); output = sevens; answer = 266; back = sevens }
    ∷  -- the book before 10
    record { lent = []; calls = 1 ∷ []; output = sevens; answer = 257; back = sevens }
    ∷ []

unfoldable pub same_list : List ℕ → List ℕ → Bool
same_list [] [] = true
same_list [] (y ∷ ys) = false
same_list (x ∷ xs) [] = false
same_list (x ∷ xs) (y ∷ ys) = eqb x y && same_list xs ys

unfoldable pub right : List Case → Bool
right [] = true
right (c ∷ cs) =
    eqb (probe limits c.lent c.calls c.output).0 c.answer && same_list (probe limits c.lent c.calls c.output).1 c.back && right cs

pub every_case_right : right cases ≡ true
unfolding same_list right bind Option-elim ones news news_total test_bit clear_bit count only list_of first_of header_fault mask_fault row_fault refusal others low_of
    high_of start_lowers start_uppers new_lower new_upper step_lowers step_uppers crossed same closing_within list_sum closing line_bounds table_bounds fix_to
    strike_unfixed map_before cut_if cut_low cut_high pass settling_passes fixpoint none_empty none_broken settling settled_book keep_only cut call_of
    first call_refusal decided restored act step_by step runs opened run call_fault probe_fault probe
every_case_right = refl
