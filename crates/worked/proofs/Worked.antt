-- Document 01's worked table, M1 to M8, proved together. `worked_table_lem` is the one computed test; `worked_says` is what it means, row by row: the
-- lines of M1 to M4 are those of the loosest closed table; no table of M5 or M6 is closed; M7's masks are the largest stable list within
-- themselves, and M7 has no plan; M8's book has the plan 0 1 0, and its session opens live with these words and last masks, and demand 3 holds of it.
-- `worked_idle` and `idle_says` are the same of M8 with an idle type.
-- No contract cites this file. Assumes nothing.
use mathlib.Core.Path.{◌≡◌, refl}
use mathlib.Core.Bool.{true}
use mathlib.Core.Option.{bind, Option-elim}
use lib.Count.{ones}
use Rattle.domains.specs.Mask.{test_bit, clear_bit}
use Rattle.domains.specs.Counts.{count, only}
use Rattle.book.specs.Layout.{list_of}
use Rattle.book.specs.Refusal.{first_of, header_fault, mask_fault, row_fault, refusal}
use Rattle.closing_model.specs.Table.{others}
use Rattle.closing_model.specs.Start.{low_of, high_of, start_lowers, start_uppers}
use Rattle.closing_model.specs.Closing.{new_lower, new_upper, step_lowers, step_uppers, crossed, same, closing_within, list_sum, closing}
use Rattle.book.specs.Lists.{All}
use Rattle.settling_model.specs.Stable.{line_bounds, table_bounds}
use Rattle.settling_model.specs.Cuts.{fix_to, strike_unfixed, map_before, cut_if, cut_low, cut_high}
use Rattle.settling_model.specs.Settling.{pass, passes as settling_passes, fixpoint, none_empty, none_broken, settling}
use Rattle.settling_model.specs.Plans.{is}
use Rattle.settling_model.specs.Book.{settled_book}
use Rattle.segments_model.specs.Cells.{stands_at}
use Rattle.session_model.specs.News.{news, news_total}
use Rattle.session_model.specs.Decisions.{keep_only, cut}
use Rattle.session_model.specs.Calls.{call_of}
use Rattle.session_model.specs.State.{words_of}
use Rattle.session_model.specs.Refusal.{first, refusal as call_refusal}
use Rattle.session_model.specs.Machine.{decided, restored, act, step_by, step, runs, opened, run}
use Rattle.elements.specs.Elements.{bytes_of}
use Rattle.book_bytes.specs.BookBytes.{rows_bytes}
use Rattle.worked.specs.PlanTest.{all_below, no_list, keeps_row, keeps_rows, is_plan, plan_of, planless}
use Rattle.worked.specs.Claims.{holds, passes, every, Says}
use Rattle.worked.specs.WorkedTable.{table, worked_table}
use Rattle.worked.specs.IdleTable.{idle_table, passes_idle}
use Rattle.worked.proofs.ClaimsLaws.{every_says}

pub worked_table_lem : worked_table ≡ true
unfolding bind Option-elim ones news news_total test_bit clear_bit count only list_of first_of header_fault mask_fault row_fault refusal others low_of high_of
    start_lowers start_uppers new_lower new_upper step_lowers step_uppers crossed same closing_within list_sum closing line_bounds table_bounds fix_to
    strike_unfixed map_before cut_if cut_low cut_high pass settling_passes fixpoint none_empty none_broken settling settled_book stands_at keep_only cut call_of
    words_of first call_refusal decided restored act step_by step runs opened run bytes_of rows_bytes is all_below no_list keeps_row keeps_rows is_plan plan_of
    planless holds passes every
worked_table_lem = refl

pub worked_says : All Says table
worked_says = every_says table worked_table_lem

-- ---- M8 with an idle type
pub worked_idle : passes_idle ≡ true
unfolding bind Option-elim ones news news_total test_bit clear_bit count only list_of first_of header_fault mask_fault row_fault refusal others low_of high_of
    start_lowers start_uppers new_lower new_upper step_lowers step_uppers crossed same closing_within list_sum closing line_bounds table_bounds fix_to
    strike_unfixed map_before cut_if cut_low cut_high pass settling_passes fixpoint none_empty none_broken settling settled_book stands_at keep_only cut call_of
    words_of first call_refusal decided restored act step_by step runs opened run bytes_of rows_bytes is all_below no_list keeps_row keeps_rows is_plan plan_of
    planless holds passes every
worked_idle = refl

pub idle_says : All Says idle_table
idle_says = every_says idle_table worked_idle
