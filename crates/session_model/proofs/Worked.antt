-- Sessions computed from the bytes of the book and of the calls, their words and last masks typed in (`worked`), by hand from document 01's rules:
-- walls of both kinds, the numbers 11 to 16, a dead opening, and a wall that a later corner without slack forbids; and what the order of the numbers
-- before would have said (`said_before`). A book that opens dead is an instance of `dead_opening`. No contract cites this file. Assumes nothing.
use mathlib.Core.Path.{◌≡◌, refl}
use mathlib.Core.List.{List, [], ◌∷◌}
use mathlib.Core.Option.{none, bind, Option-elim}
use Prim.Native.Nat.{ℕ}
use lib.Count.{ones}
use Rattle.domains.specs.Mask.{test_bit, clear_bit}
use Rattle.domains.specs.Counts.{count, only}
use Rattle.book.specs.Layout.{list_of}
use Rattle.closing_model.specs.Table.{others}
use Rattle.closing_model.specs.Start.{low_of, high_of, start_lowers, start_uppers}
use Rattle.closing_model.specs.Closing.{new_lower, new_upper, step_lowers, step_uppers, crossed, same, closing_within, list_sum, closing}
use Rattle.settling_model.specs.Stable.{line_bounds, table_bounds}
use Rattle.settling_model.specs.Cuts.{fix_to, strike_unfixed, map_before, cut_if, cut_low, cut_high}
use Rattle.settling_model.specs.Settling.{pass, passes, fixpoint, none_empty, none_broken, settling}
use Rattle.settling_model.specs.Book.{settled_book}
use Rattle.segments_model.specs.Cells.{stands_at}
use Rattle.session_model.specs.News.{news, news_total}
use Rattle.session_model.specs.Decisions.{keep_only, cut}
use Rattle.session_model.specs.Calls.{Call, call_of, calls_of}
use Rattle.session_model.specs.State.{words_of}
use Rattle.session_model.specs.Refusal.{first, refusal}
use Rattle.session_model.specs.Machine.{decided, restored, act, step_by, step, runs, opened, run}
use Rattle.session_model.specs.BookRun.{run_book}
use Rattle.session_model.specs.Demand.{DeadOpening}
use Rattle.session_model.specs.Reorder.{runs_before, run_before}
use Rattle.session_model.proofs.DeadOpeningLaws.{dead_opening}

-- document 01's M8: n = 3, k = 2, masks 3 3 3, one row: type 0, end 2, lower 1, no upper
abbrev m8 : List ℕ
m8 =
    3 ∷ 0 ∷ 2 ∷ 0 ∷ 1 ∷ 0 ∷ 12 ∷ 0 ∷ 24 ∷ 0 ∷ 32 ∷ 0 ∷
    3 ∷ 0 ∷ 0 ∷ 0 ∷ 3 ∷ 0 ∷ 0 ∷ 0 ∷ 3 ∷ 0 ∷ 0 ∷ 0 ∷
    0 ∷ 0 ∷ 2 ∷ 0 ∷ 1 ∷ 0 ∷ 255 ∷ 255 ∷ []

-- kind 7 of type 0, whose lower corner is at 2: as the book opens, with slot 0 assigned type 1 after a mark, and after the back; and kind 6 of
-- type 0, whose uppers have no corner, as the book opens
abbrev wall_calls : List ℕ
wall_calls =
    7 ∷ 0 ∷ 0 ∷ 0 ∷
    6 ∷ 0 ∷ 0 ∷ 0 ∷
    3 ∷ 0 ∷ 0 ∷ 0 ∷
    1 ∷ 1 ∷ 0 ∷ 0 ∷
    7 ∷ 0 ∷ 0 ∷ 0 ∷
    4 ∷ 0 ∷ 0 ∷ 0 ∷
    7 ∷ 0 ∷ 0 ∷ 0 ∷ []

-- every number once and the order between them, where one mark may be open: kinds 8 and 0 (11), back first (14), show of slot 3 (12), kind 7 of
-- type 2 (13), slot 3 with type 2 (12), type 2 alone (13), two marks (done, 16), an assign (live), one of an absent type (dead); then while dead
-- slot 3 with type 2 (12), type 2 alone (13), a decision in range (15), a mark (15), show of slot 3 (12), kind 129 (11), show of slots 1 and 256
-- (12); back (done), back (14), a remove twice. Some fields that a kind does not use are filled.
abbrev refused_calls : List ℕ
refused_calls =
    8 ∷ 0 ∷ 0 ∷ 0 ∷
    0 ∷ 0 ∷ 0 ∷ 0 ∷
    4 ∷ 0 ∷ 0 ∷ 0 ∷
    5 ∷ 0 ∷ 3 ∷ 0 ∷
    7 ∷ 2 ∷ 0 ∷ 0 ∷
    1 ∷ 2 ∷ 3 ∷ 0 ∷
    1 ∷ 2 ∷ 0 ∷ 0 ∷
    3 ∷ 9 ∷ 9 ∷ 0 ∷
    3 ∷ 0 ∷ 0 ∷ 0 ∷
    1 ∷ 1 ∷ 0 ∷ 0 ∷
    1 ∷ 1 ∷ 1 ∷ 0 ∷
    1 ∷ 2 ∷ 3 ∷ 0 ∷
    2 ∷ 2 ∷ 0 ∷ 0 ∷
    1 ∷ 1 ∷ 0 ∷ 0 ∷
    3 ∷ 0 ∷ 0 ∷ 0 ∷
    5 ∷ 9 ∷ 3 ∷ 0 ∷
    129 ∷ 0 ∷ 0 ∷ 0 ∷
    5 ∷ 255 ∷ 1 ∷ 0 ∷
    5 ∷ 0 ∷ 0 ∷ 1 ∷
    4 ∷ 255 ∷ 255 ∷ 0 ∷
    4 ∷ 0 ∷ 0 ∷ 0 ∷
    2 ∷ 1 ∷ 0 ∷ 0 ∷
    2 ∷ 1 ∷ 0 ∷ 0 ∷ []

abbrev refused_words : List ℕ
refused_words =
    267 ∷ 0 ∷ 267 ∷ 0 ∷ 270 ∷ 0 ∷ 268 ∷ 0 ∷
    269 ∷ 0 ∷ 268 ∷ 0 ∷ 269 ∷ 0 ∷ 3 ∷ 0 ∷
    272 ∷ 0 ∷ 0 ∷ 2 ∷ 1 ∷ 0 ∷ 268 ∷ 0 ∷
    269 ∷ 0 ∷ 271 ∷ 0 ∷ 271 ∷ 0 ∷ 268 ∷ 0 ∷
    267 ∷ 0 ∷ 2 ∷ 1 ∷ 268 ∷ 0 ∷ 3 ∷ 0 ∷
    270 ∷ 0 ∷ 0 ∷ 1 ∷ 0 ∷ 0 ∷ []

-- by the order before, the first two of the calls while dead are 15 too
abbrev refused_words_before : List ℕ
refused_words_before =
    267 ∷ 0 ∷ 267 ∷ 0 ∷ 270 ∷ 0 ∷ 268 ∷ 0 ∷
    269 ∷ 0 ∷ 268 ∷ 0 ∷ 269 ∷ 0 ∷ 3 ∷ 0 ∷
    272 ∷ 0 ∷ 0 ∷ 2 ∷ 1 ∷ 0 ∷ 271 ∷ 0 ∷
    271 ∷ 0 ∷ 271 ∷ 0 ∷ 271 ∷ 0 ∷ 268 ∷ 0 ∷
    267 ∷ 0 ∷ 2 ∷ 1 ∷ 268 ∷ 0 ∷ 3 ∷ 0 ∷
    270 ∷ 0 ∷ 0 ∷ 1 ∷ 0 ∷ 0 ∷ []

-- n = 2, k = 2, masks 1 1, one row: type 0, end 2, upper 1. Dead in settling
abbrev too_many : List ℕ
too_many =
    2 ∷ 0 ∷ 2 ∷ 0 ∷ 1 ∷ 0 ∷ 12 ∷ 0 ∷ 20 ∷ 0 ∷ 28 ∷ 0 ∷
    1 ∷ 0 ∷ 0 ∷ 0 ∷ 1 ∷ 0 ∷ 0 ∷ 0 ∷
    0 ∷ 0 ∷ 2 ∷ 0 ∷ 0 ∷ 0 ∷ 1 ∷ 0 ∷ []

-- kind 6 of type 0, mark, back, show of slot 0, assign on slot 5, kind 6 of type 2
abbrev shut_calls : List ℕ
shut_calls =
    6 ∷ 0 ∷ 0 ∷ 0 ∷
    3 ∷ 0 ∷ 0 ∷ 0 ∷
    4 ∷ 0 ∷ 0 ∷ 0 ∷
    5 ∷ 0 ∷ 0 ∷ 0 ∷
    1 ∷ 0 ∷ 5 ∷ 0 ∷
    6 ∷ 2 ∷ 0 ∷ 0 ∷ []

-- n = 4, k = 2, masks 3 3 1 1, type 0 upper 1 at end 2 and 2 at end 4: its corner at 2 has slack 1, and the later one at 4 has none
abbrev later_spent : List ℕ
later_spent =
    4 ∷ 0 ∷ 2 ∷ 0 ∷ 2 ∷ 0 ∷ 12 ∷ 0 ∷ 28 ∷ 0 ∷ 44 ∷ 0 ∷
    3 ∷ 0 ∷ 0 ∷ 0 ∷ 3 ∷ 0 ∷ 0 ∷ 0 ∷ 1 ∷ 0 ∷ 0 ∷ 0 ∷ 1 ∷ 0 ∷ 0 ∷ 0 ∷
    0 ∷ 0 ∷ 2 ∷ 0 ∷ 0 ∷ 0 ∷ 1 ∷ 0 ∷
    0 ∷ 0 ∷ 4 ∷ 0 ∷ 0 ∷ 0 ∷ 2 ∷ 0 ∷ []

-- words and last masks
abbrev says : List ℕ → ℕ → List ℕ → List ℕ × List ℕ
says b limit bytes = let r = run_book b limit (calls_of bytes) in (words_of r.1, r.0.masks)

worked : (says m8 256 wall_calls ≡ (2 ∷ 1 ∷ 2 ∷ 0 ∷ 3 ∷ 0 ∷ 0 ∷ 2 ∷ 2 ∷ 0 ∷ 3 ∷ 0 ∷ 2 ∷ 1 ∷ [], 3 ∷ 3 ∷ 3 ∷ []))
    × (says m8 1 refused_calls ≡ (refused_words, 1 ∷ 3 ∷ 3 ∷ []))
    × (says too_many 256 shut_calls ≡ (2 ∷ 0 ∷ 271 ∷ 0 ∷ 270 ∷ 0 ∷ 2 ∷ 0 ∷ 268 ∷ 0 ∷ 269 ∷ 0 ∷ [], 0 ∷ 0 ∷ []))
    × (says later_spent 256 (6 ∷ 0 ∷ 0 ∷ 0 ∷ []) ≡ (2 ∷ 0 ∷ [], 2 ∷ 2 ∷ 1 ∷ 1 ∷ []))
unfolding bind Option-elim ones news news_total test_bit clear_bit count only list_of others low_of high_of start_lowers start_uppers new_lower new_upper
    step_lowers step_uppers crossed same closing_within list_sum closing line_bounds table_bounds fix_to strike_unfixed map_before cut_if cut_low cut_high pass
    passes fixpoint none_empty none_broken settling stands_at keep_only cut call_of words_of first refusal decided restored act step_by step runs opened run
worked = (refl, refl, refl, refl)

said_before : (words_of (run_before m8 1 (calls_of refused_calls)).1 ≡ refused_words_before)
    × (words_of (run_before too_many 256 (calls_of shut_calls)).1 ≡ 2 ∷ 0 ∷ 271 ∷ 0 ∷ 270 ∷ 0 ∷ 2 ∷ 0 ∷ 271 ∷ 0 ∷ 269 ∷ 0 ∷ [])
unfolding bind Option-elim ones news news_total test_bit clear_bit count only list_of others low_of high_of start_lowers start_uppers new_lower new_upper
    step_lowers step_uppers crossed same closing_within list_sum closing line_bounds table_bounds fix_to strike_unfixed map_before cut_if cut_low cut_high pass
    passes fixpoint none_empty none_broken settling stands_at keep_only cut call_of words_of first decided restored act step_by opened runs_before run_before
said_before = (refl, refl)

-- ---- a dead opening
too_many_dies : settled_book too_many ≡ none
unfolding bind test_bit clear_bit count only list_of others low_of high_of start_lowers start_uppers new_lower new_upper step_lowers step_uppers crossed same
    closing_within list_sum closing line_bounds table_bounds fix_to strike_unfixed map_before cut_if cut_low cut_high pass passes fixpoint none_empty none_broken
    settling settled_book
too_many_dies = refl

too_many_dead_opening : (calls : List Call) → DeadOpening too_many 256 calls
too_many_dead_opening = dead_opening too_many 256 too_many_dies
