-- The theorems of `specs/Search.antt`: what a search means (`search_means`), and that its words and masks are those of one session on the whole list
-- (`search_is_session`), also where a list of bytes was cut into pieces (`cut_list`). What opening, a step and a call promise is what the next step rests on
-- (`search_kept`); a refused step leaves a search where it was (`search_refused`). No plan is lost (`search_plan_at`, `search_dead_no_plan`,
-- `open_dead_no_plan`). No contract cites this file. Assumes nothing.
use mathlib.Core.Path.{◌≡◌, refl, sym, ap, ◌∙◌, subst}
use mathlib.Core.Bool.{Bool, true, false}
use mathlib.Core.List.{List, [], ◌∷◌, ◌++◌, append-nil}
use mathlib.Core.Option.{Option, none, some}
use Prim.Native.Nat.{ℕ, zero, suc, ◌*◌, ◌/◌, ◌%◌, ◌<◌}
use native.Mathlib.Omega.{arith}
use lib.Dec.{lit<}
use lib.ListN.{length, get_or, take, length-append}
use lib.Seq.{take-append_seam, drop-nil}
use Rattle.book.specs.Layout.{list_of}
use Rattle.closing.specs.Close.{overlay}
use Rattle.domains.specs.Masks.{HasAt}
use Rattle.settling_model.specs.Book.{settled_book, BookPlan}
use Rattle.settling_model.proofs.BookLaws.{dead_no_plan}
use Rattle.session_model.specs.BookRun.{state_after, replies_of, standing_after}
use Rattle.session_model.specs.Standing.{dead_of}
use Rattle.session_model.specs.Calls.{Call, decide, calls_of}
use Rattle.session_model.specs.Demand.{through, answer_to}
use Rattle.session_model.specs.Machine.{runs, run}
use Rattle.session_model.specs.State.{Reply, words, words_of}
use Rattle.session_model.proofs.CallsLaws.{length_calls_of, calls_of_append}
use Rattle.session_model.proofs.DeadOpeningLaws.{dead_opening}
use Rattle.session_model.proofs.DemandLaws.{demand3}
use Rattle.session_model.proofs.OutputLaws.{answer_word}
use Rattle.session_model.proofs.PlanLaws.{demand_plan_at, demand_dead_no_plan}
use Rattle.session_model.proofs.RunLaws.{words_of_append, length_words_of, first_word_dead, first_word_unrefused}
use Rattle.session_fault.specs.Entry.{most_marks, Outcome, ran, opened_word, session_good, unless, answer_of}
use Rattle.running_model.specs.EngineDemand.{first_word}
use Rattle.running_model.proofs.BooksLaws.{represents_engine}
use Rattle.kept_model.specs.Entries.{most_calls, open_fault, step_fault, later_replies, OpenEntry, StepEntry, CallEntry, taken, KeptSteps, dead_word}
use Rattle.kept_model.specs.Kept.{KeptAt}
use Rattle.kept_model.specs.Memory.{Memory, sized}
use Rattle.kept_model.specs.Search.{Search, opened, stepped, called, Pieces, begun, next, front_of, SearchMeans, SearchPlans, SearchPlanless}
use Rattle.kept_model.proofs.EntriesLaws.{call_fault_none, step_fault_whole}
use Rattle.kept_model.proofs.KeptLaws.{replies_later, length_later, later_replies_lem, later_reply, kept_front, standing_declared}

overlay_nil : (ws : List ℕ) → overlay ws [] ≡ ws
overlay_nil ws = ap (λ (l : List ℕ). ws ++ l) (drop-nil (length ws)) ∙ append-nil ws

-- ---- an answer below 256 is no refusal
unless_accepted : (x : ℕ) (o : Outcome) → answer_of (unless x o) < 256 → x ≡ 0
unless_accepted zero o below = refl
unless_accepted (suc x) o below = absurd (omega arith)

open_accepted : {b : List ℕ} {before : Memory} {answer : ℕ} {at : Memory} → OpenEntry b before answer at → answer < 256 → open_fault b (sized before) ≡ 0
open_accepted {b} {before} entry below = unless_accepted (open_fault b (sized before)) _ (subst (λ (x : ℕ). x < 256) entry.answers below)

step_accepted : {b : List ℕ} {past : List Call} {calls A : List ℕ} {before : Memory} {answer : ℕ} {A' : List ℕ} {at : Memory}
    → StepEntry b past calls A before answer A' at → answer < 256 → step_fault (length past) (length calls) (length A) ≡ 0
step_accepted {b} {past} {calls} {A} entry below =
    unless_accepted (step_fault (length past) (length calls) (length A)) _ (subst (λ (x : ℕ). x < 256) entry.ran.answers below)

-- ---- the words of a step and of a call
step_words : {b : List ℕ} {past : List Call} {calls A : List ℕ} {before : Memory} {answer : ℕ} {A' : List ℕ} {at : Memory}
    → StepEntry b past calls A before answer A' at → answer < 256 → take (2 * (length calls / 4)) A' ≡ words_of (later_replies b past (calls_of calls))
step_words {b} {past} {calls} {A} {A' = A'} entry below =
    let said = words_of (later_replies b past (calls_of calls)) in
    let written : A' ≡ overlay said A = rw (step_accepted entry below) at entry.ran.words in
    let long : 2 * (length calls / 4) ≡ length said =
    sym (length_words_of (later_replies b past (calls_of calls)) ∙ ap (λ (m : ℕ). 2 * m) (length_later b past (calls_of calls) ∙ length_calls_of calls)) in
    ap (λ (l : List ℕ). take (2 * (length calls / 4)) l) written ∙ ap (λ (m : ℕ). take m (overlay said A)) long ∙ take-append_seam said _

call_words_lem : {b : List ℕ} {past : List Call} {c : Call} {before : Memory} {first second : ℕ} {at : Memory} → CallEntry b past c before first second at
    → length past < most_calls → ◌≡◌ {A = List ℕ} (first ∷ second ∷ []) (words_of (later_replies b past (c ∷ [])))
unfolding runs words_of
call_words_lem {b} {past} {c} {first = first} {second} entry few =
    let pair : (first, second) ≡ words (answer_to b most_marks (through past c) past) = rw (call_fault_none (length past) few) at entry.words in
    ap (λ (p : ℕ × ℕ). p.0 ∷ p.1 ∷ []) pair ∙ ap (λ (r : Reply). words_of (r ∷ [])) (sym (later_reply b past c)) ∙ ap words_of (later_replies_lem b past (c ∷ []))

-- the words so far, and those of more calls
words_more : (b : List ℕ) (past calls : List Call) (ws vs : List ℕ) → ws ≡ words_of (replies_of b most_marks past) → vs ≡ words_of (later_replies b past calls)
    → ws ++ vs ≡ words_of (replies_of b most_marks (past ++ calls))
words_more b past calls ws vs ws_are vs_are =
    rw (ws_are, vs_are) (sym (words_of_append (replies_of b most_marks past) (later_replies b past calls)) ∙ ap words_of (sym (replies_later b past calls)))

-- ---- what a step and a call leave
step_kept : {b : List ℕ} {past : List Call} {calls A : List ℕ} {before : Memory} {answer : ℕ} {A' : List ℕ} {at : Memory}
    → StepEntry b past calls A before answer A' at → answer < 256 → KeptAt b (past ++ calls_of calls) at
step_kept {b} {past} {calls} {at = at} entry below =
    subst (λ (x : ℕ). KeptAt b (past ++ taken x (calls_of calls)) at) (step_accepted entry below) entry.kept

call_kept : {b : List ℕ} {past : List Call} {c : Call} {before : Memory} {first second : ℕ} {at : Memory} → CallEntry b past c before first second at
    → length past < most_calls → KeptAt b (past ++ (c ∷ [])) at
call_kept {b} {past} {c} {at = at} entry few = subst (λ (x : ℕ). KeptAt b (past ++ taken x (c ∷ [])) at) (call_fault_none (length past) few) entry.kept

-- ---- Search
pub search_kept : {b : List ℕ} {past : List Call} {ws : List ℕ} {at : Memory} → Search b past ws at → KeptAt b past at
search_kept (opened before answer at entry below) = entry.opened (open_accepted entry below)
search_kept {b} (stepped past ws before so_far calls A answer A' at steps below) = step_kept (steps.does b past (search_kept so_far)) below
search_kept {b} (called past ws before so_far c first second at calls few) = call_kept (calls.does b past (search_kept so_far)) few

pub search_words : {b : List ℕ} {past : List Call} {ws : List ℕ} {at : Memory} → Search b past ws at → ws ≡ words_of (replies_of b most_marks past)
unfolding run runs words_of
search_words (opened before answer at entry below) = refl
search_words {b} (stepped past ws before so_far calls A answer A' at steps below) =
    words_more b past (calls_of calls) ws _ (search_words so_far) (step_words (steps.does b past (search_kept so_far)) below)
search_words {b} (called past ws before so_far c first second at calls few) =
    words_more b past (c ∷ []) ws _ (search_words so_far) (call_words_lem (calls.does b past (search_kept so_far)) few)

pub search_means : {b : List ℕ} {past : List Call} {ws : List ℕ} {at : Memory} → Search b past ws at → SearchMeans b past ws at
search_means {b} {past} {ws} {at} searched =
    let kept = search_kept searched in
    let said = search_words searched in
    record {
      kept = kept;
      words = said;
      masks = kept_front kept;
      engine = λ M settles. represents_engine b past most_marks M [] ws settles
          (said ∙ sym (overlay_nil (words_of (replies_of b most_marks past)))) (standing_declared _) kept.represents;
      demand = λ M settles. demand3 b most_marks M settles past;
      opened_dead = λ dies. dead_opening b most_marks dies past;
    }

pub search_is_session : {b : List ℕ} {past : List Call} {ws : List ℕ} {at : Memory} → Search b past ws at
    → session_good b past ≡ ran (opened_word (settled_book b)) ws (front_of b at)
unfolding session_good
search_is_session {b} {past} {ws} searched =
    ap (λ (vs : List ℕ). ran (opened_word (settled_book b)) vs (state_after b most_marks past).masks) (sym (search_words searched))
    ∙ ap (λ (M : List ℕ). ran (opened_word (settled_book b)) ws M) (sym (kept_front (search_kept searched)))

-- ---- SearchPlans, SearchPlanless
-- a book with a plan opens live
plan_opens : (b p : List ℕ) → BookPlan b p → (M : List ℕ) × (settled_book b ≡ some M)
plan_opens b p plan = go (settled_book b) refl
  where
    go : (o : Option (List ℕ)) → settled_book b ≡ o → (M : List ℕ) × (settled_book b ≡ some M)
    go none dies = absurd (dead_no_plan b dies p plan)
    go (some M) settles = (M, settles)

pub search_plan_at : {b : List ℕ} {past : List Call} {ws : List ℕ} {at : Memory} → Search b past ws at → SearchPlans b past at
search_plan_at {b} {past} searched p plan meets s s<n =
    let opens = plan_opens b p plan in
    subst (λ (M : List ℕ). HasAt M s (get_or p s 0)) (sym (search_means searched).masks)
    (demand_plan_at b p plan most_marks past (demand3 b most_marks opens.0 opens.1 past) meets s s<n)

pub search_dead_no_plan : {b : List ℕ} {past : List Call} {ws : List ℕ} {at : Memory} → Search b past ws at → SearchPlanless b past ws
search_dead_no_plan {b} {past} {ws} searched p plan before rest d at one meets =
    let opens = plan_opens b p plan in
    let reply = answer_to b most_marks past before in
    let word : (words reply).0 ≡ 1 = sym (answer_word b most_marks past before rest (decide d) at).1
    ∙ ap (λ (l : List ℕ). first_word l before) (sym (search_words searched)) ∙ one in
    demand_dead_no_plan b p plan most_marks past (demand3 b most_marks opens.0 opens.1 past) before rest d at
    (first_word_unrefused reply (omega (arith, word))) ((first_word_dead reply).1 word) meets

-- a book that open answers dead has no plan
pub open_dead_no_plan : {b : List ℕ} {before at : Memory} → OpenEntry b before 1 at → (p : List ℕ) → BookPlan b p → ⊥
open_dead_no_plan {b} {before} entry p plan =
    let opens = plan_opens b p plan in
    let word : 1 ≡ opened_word (settled_book b) = rw (open_accepted entry (lit< tt)) at entry.answers in
    omega (arith, word ∙ ap opened_word opens.1)

-- ---- a refused step leaves a search where it was
dead_word_below : (dead : Bool) → dead_word dead < 256
dead_word_below true = lit< tt
dead_word_below false = lit< tt

pub search_refused : {b : List ℕ} {past : List Call} {ws : List ℕ} {before : Memory} → Search b past ws before
    → {calls A : List ℕ} {answer : ℕ} {A' : List ℕ} {at : Memory} → KeptSteps calls A before answer A' at → (answer < 256 → ⊥)
    → (Search b past ws at) × (A' ≡ A)
search_refused {b} {past} {ws} {before} so_far {calls} {A} {answer} {A'} {at} steps refused =
    go (step_fault (length past) (length calls) (length A)) refl (steps.does b past (search_kept so_far))
  where
    go : (x : ℕ) → step_fault (length past) (length calls) (length A) ≡ x → StepEntry b past calls A before answer A' at → (Search b past ws at) × (A' ≡ A)
    go zero is entry =
        let below = dead_word_below (dead_of (standing_after b most_marks (past ++ calls_of calls))) in
        absurd (refused (subst (λ (m : ℕ). m < 256) (sym (rw is at entry.ran.answers)) below))
    go (suc x) is entry =
        let refusing : step_fault (length past) (length calls) (length A) ≡ 0 → ⊥ = λ nil.
        (let clash : ◌≡◌ {A = ℕ} 0 (suc x) = sym nil ∙ is in omega (arith, clash)) in
        (subst (λ (m : Memory). Search b past ws m) (sym (entry.untouched refusing)) so_far, rw is at entry.ran.words)

-- ---- Pieces
pub pieces_search : {b bytes ws : List ℕ} {at : Memory} → Pieces b bytes ws at → (length bytes % 4 ≡ 0) × Search b (calls_of bytes) ws at
unfolding list_of
pieces_search (begun before answer at entry below) = (refl, opened before answer at entry below)
pieces_search {b} (next bytes ws before pieces calls A answer A' at steps below) =
    let so_far = pieces_search pieces in
    let whole = step_fault_whole _ (length calls) _ (step_accepted (steps.does b (calls_of bytes) (search_kept so_far.1)) below) in (
      omega (arith, so_far.0, whole, length-append bytes calls),
      subst (λ (cs : List Call). Search b cs (ws ++ take (2 * (length calls / 4)) A') at)
          (sym (calls_of_append bytes calls (length bytes / 4) (omega (arith, so_far.0))))
          (stepped (calls_of bytes) ws before so_far.1 calls A answer A' at steps below),
    )

pub cut_list : {b bytes ws : List ℕ} {at : Memory} → Pieces b bytes ws at
    → session_good b (calls_of bytes) ≡ ran (opened_word (settled_book b)) ws (front_of b at)
cut_list pieces = search_is_session (pieces_search pieces).1
