-- The laws of `specs/Entries.antt`, in its order: what a number refuses and what none gives; opening, a step and a call, refused (`open_refused`,
-- `step_refused`,
-- `call_refused`) or done (`open_done`, `step_done`, `call_done`). No contract cites this file. Assumes nothing.
use mathlib.Core.Path.{◌≡◌, refl, sym, ap, ◌∙◌, subst}
use mathlib.Core.Bool.{Bool, true, false, true≢false, not, ◌||◌}
use mathlib.Core.List.{List, [], ◌∷◌, ◌++◌, append-nil}
use mathlib.Core.Option.{Option, none, some}
use Prim.Native.Nat.{ℕ, zero, suc, ◌+◌, ◌*◌, ◌/◌, ◌%◌, ◌≤◌, ◌<◌}
use native.Mathlib.Nat.{le_refl}
use native.Mathlib.Omega.{arith}
use borrow.Author.Tests.{eq-eqb, ne_eqb, lt-ltb, le-ltb, ltb-false, le-leb, lt-leb, not-false, eqb-true}
use lib.Dec.{eqb, ltb, lit<}
use lib.ListN.{length, get_or, take}
use lib.Seq.{length-take-le}
use Rattle.book.specs.Layout as Layout
use Rattle.book.specs.Refusal.{fault, refusal}
use Rattle.book.specs.GoodFacts.{GoodFacts}
use Rattle.book.proofs.BookLaws.{good_facts}
use Rattle.book.proofs.RefusalLaws.{fault_none, or_else_none, or_else_some, none_of_or_else}
use Rattle.closing.specs.Close.{overlay}
use Rattle.settling_model.specs.Book.{settled_book}
use Rattle.settle_fault.proofs.SettleLaws.{fit_of}
use Rattle.book_opening.proofs.OpenLaws.{state_room}
use Rattle.session_model.specs.BookRun.{state_after}
use Rattle.session_model.specs.Calls.{Call, calls_of}
use Rattle.session_model.specs.Machine.{runs, run}
use Rattle.session_model.specs.Standing as Model
use Rattle.session_model.specs.Standing.{stand_from}
use Rattle.session_model.specs.State.{Reply, words_of}
use Rattle.session_model.proofs.CallsLaws.{length_calls_of}
use Rattle.session_fault.specs.Entry.{most_marks, most_bytes, bad_calls, refused, opened_word}
use Rattle.session_fault.proofs.EntryLaws.{or_first, or_second, or_none, none_first, none_second, unless_some, session_refused}
use Rattle.entries_model.specs.Entries.{full_limits}
use Rattle.acts.specs.Given.{standing_of, is_dead, is_shut}
use Rattle.acts.specs.Represents.{Represents}
use Rattle.acts.specs.declared.Session.{Session}
use Rattle.acts.specs.declared.Standing.{Standing}
use Rattle.acts.specs.declared.Standing.TheVariants.{OpenedDead, Live, Dead}
use Rattle.acts.specs.declared.Stepped.{Stepped}
use Rattle.stepping.specs.Steps as Stepping
use Rattle.running_model.specs.BookRan.{book_table, opened_rules, opened_state, Openable, Opens}
use Rattle.running_model.specs.Runs.{Runs}
use Rattle.kept_model.specs.Entries.{most_calls, open_fault, open_of, OpenEntry, OpenedIn, OpenReady, step_fault, taken}
use Rattle.kept_model.specs.Entries.{dead_word, standing_word, step_good, step_of, KeptSteps, call_fault, KeptCalls}
use Rattle.kept_model.specs.Kept.{KeptAt}
use Rattle.kept_model.specs.Memory.{Memory, memory, Sized, sized, numbers_of, session_in}
use Rattle.kept_model.proofs.KeptLaws.{later_replies_lem, later_reply, kept_by, kept_made, kept_masks}
use Rattle.kept_model.proofs.KeptLaws.{kept_represents, later_masks, later_stands, kept_later}
use Rattle.kept_model.proofs.MemoryLaws.{sized_is}

-- ---- open_fault
module _ (b : List ℕ) where
  pub open_fault_book : (fits : Bool) → (refusal full_limits b ≡ 0 → ⊥) → open_fault b fits ≡ refusal full_limits b
  unfolding open_fault
  open_fault_book fits refusing = or_else_some (refusal full_limits b) _ refusing

  pub open_fault_fits : (fits : Bool) → refusal full_limits b ≡ 0 → open_fault b fits ≡ fault 9 (not fits)
  unfolding open_fault
  open_fault_fits fits good = or_else_none (refusal full_limits b) _ good

  module _ (fits : Bool) (unrefused : open_fault b fits ≡ 0) where
    pub open_fault_good : refusal full_limits b ≡ 0
    unfolding open_fault
    open_fault_good = (none_of_or_else (refusal full_limits b) _ unrefused).0

    pub open_fault_sized : fits ≡ true
    unfolding open_fault
    open_fault_sized = not-false fits (fault_none 9 _ (lit< tt) (none_of_or_else (refusal full_limits b) _ unrefused).1)

    pub open_fault_facts : GoodFacts full_limits b
    open_fault_facts = good_facts full_limits b open_fault_good

-- ---- OpenReady, OpenedIn
module _ (b masks cells trail heights numbers : List ℕ) (unrefused : open_fault b (sized (memory masks cells trail heights numbers)) ≡ 0) where
  pub fault_sized : Sized (memory masks cells trail heights numbers)
  fault_sized = sized_is (memory masks cells trail heights numbers) (open_fault_sized b _ unrefused)

  pub slots_inside : Layout.slots b ≤ length masks
  slots_inside = omega (arith, fault_sized.masks, (open_fault_facts b _ unrefused).header.slots_most)

  pub open_ready : {n : ℕ} → n ≡ Layout.slots b → OpenReady b (take n masks) cells trail numbers
  open_ready {n} n_is =
      let lent = fault_sized in
      record {
        ready =
            record {
              book = fit_of (record { slots = le_refl 256; values = le_refl 32 }) (open_fault_facts b _ unrefused);
              masks = length-take-le n masks (omega (arith, n_is, slots_inside)) ∙ n_is;
            };
        cells_sized = lent.cells;
        trail_sized = lent.trail;
        numbers_sized = lent.numbers;
      }

pub ready_openable : {b M cells trail numbers : List ℕ} (L U : List ℕ) → OpenReady b M cells trail numbers → 257 ≤ length L → 257 ≤ length U
    → Openable b M cells trail L U
ready_openable {cells = cells} {trail} L U ready lowers_in uppers_in =
    record {
      state = state_room cells trail L U ready.ready (omega (arith, ready.cells_sized)) (omega (arith, ready.trail_sized)) lowers_in uppers_in;
      heights_fit = omega (arith, ready.trail_sized);
    }

shut_word : (standing : Standing) (settled : Option (List ℕ)) → standing_of standing ≡ Model.opening settled → is_shut standing ≡ true → opened_word settled ≡ 1
shut_word standing none is shut = refl
shut_word OpenedDead (some M) is shut = absurd (let clash : ◌≡◌ {A = ℕ} 0 1 = cc in omega arith)
shut_word Live (some M) is shut = absurd (true≢false (sym shut))
shut_word (Dead call) (some M) is shut = absurd (true≢false (sym shut))

live_word : (standing : Standing) (settled : Option (List ℕ)) → standing_of standing ≡ Model.opening settled → is_shut standing ≡ false → opened_word settled ≡ 0
live_word standing (some M) is live = refl
live_word OpenedDead none is live = absurd (true≢false live)
live_word Live none is live = absurd (let clash : ◌≡◌ {A = ℕ} 0 1 = cc in omega arith)
live_word (Dead call) none is live = absurd (let clash : ◌≡◌ {A = ℕ} 0 1 = cc in omega arith)

module _ {b M cells trail numbers : List ℕ} (session : Session) (shut : Bool) (shut_is : shut ≡ is_shut session.standing)
    (opens : Opens b M cells trail session)
    (numbers_are : numbers ≡ numbers_of (Layout.slots b) (Layout.values b) 0 session) where
  pub opened_shut : shut ≡ true → OpenedIn b 1 M cells trail numbers
  opened_shut is =
      record {
        answers = sym (shut_word session.standing (settled_book b) opens.standing (sym shut_is ∙ is));
        session = session;
        opens = opens;
        numbers_are = numbers_are;
      }

  pub opened_live : shut ≡ false → OpenedIn b 0 M cells trail numbers
  opened_live is =
      record {
        answers = sym (live_word session.standing (settled_book b) opens.standing (sym shut_is ∙ is));
        session = session;
        opens = opens;
        numbers_are = numbers_are;
      }

-- ---- OpenEntry
pub open_refused : (b : List ℕ) (before : Memory) (fits : Bool) (x : ℕ) → fits ≡ sized before → x ≡ open_fault b fits → (x ≡ 0 → ⊥)
    → OpenEntry b before (256 + x) before
open_refused b before fits x fits_is fault_is refusing =
    let is : x ≡ open_fault b (sized before) = fault_is ∙ ap (open_fault b) fits_is in
    let out : open_of b (sized before) ≡ refused x = rw (sym is) (unless_some x _ refusing) in
    record {
      answers = rw out refl;
      masks = rw out refl;
      opened = λ none. absurd (refusing (is ∙ none));
      untouched = λ some. refl;
    }

pub open_unrefused : (b : List ℕ) (before : Memory) (fits : Bool) (x : ℕ) → fits ≡ sized before → x ≡ open_fault b fits → x ≡ 0
    → open_fault b (sized before) ≡ 0
open_unrefused b before fits x fits_is fault_is is_0 = ap (open_fault b) (sym fits_is) ∙ sym fault_is ∙ is_0

module _ {b : List ℕ} (masks cells trail heights numbers : List ℕ) (unrefused : open_fault b (sized (memory masks cells trail heights numbers)) ≡ 0)
    {front cells' trail' numbers' : List ℕ} {answer : ℕ} (Opened_in : OpenedIn b answer front cells' trail' numbers')
    (cells_kept : length cells' ≡ length cells)
    (trail_kept : length trail' ≡ length trail) where
  opened_represents : Represents (book_table b) (opened_rules b most_marks) (state_after b most_marks []) front cells' trail' heights (Layout.slots b)
      (Layout.values b) Opened_in.session
  unfolding run runs
  opened_represents =
      subst (λ (limit : ℕ). Represents (book_table b) (opened_rules b limit) (opened_state b limit) front cells' trail' heights (Layout.slots b) (Layout.values b)
      Opened_in.session) (fault_sized b masks cells trail heights numbers unrefused).heights (Opened_in.opens.represents heights)

  pub open_done : OpenEntry b (memory masks cells trail heights numbers) answer (memory (overlay front masks) cells' trail' heights numbers')
  unfolding stand_from
  open_done =
      let lent = fault_sized b masks cells trail heights numbers unrefused in
      record {
        answers = rw unrefused Opened_in.answers;
        masks = rw unrefused (ap (λ (M : List ℕ). overlay M masks) (sym opened_represents.masks_are));
        opened = λ none. kept_by b [] front masks cells' trail' heights numbers' Opened_in.session (open_fault_good b _ unrefused) lent.masks
            (cells_kept ∙ lent.cells) (trail_kept ∙ lent.trail) lent.heights Opened_in.numbers_are Opened_in.opens.standing opened_represents;
        untouched = λ some. absurd (some unrefused);
      }

-- ---- step_fault
module _ (made bytes room : ℕ) where
  fault_list : bad_calls bytes || ltb most_calls (made + bytes / 4) ≡ true → step_fault made bytes room ≡ 10
  unfolding step_fault
  fault_list bad = rw bad refl

  pub step_fault_parts : (bytes % 4 ≡ 0 → ⊥) → step_fault made bytes room ≡ 10
  step_fault_parts part = fault_list (or_first (bad_calls bytes) _ (or_first (not (eqb (bytes % 4) 0)) _ (ap not (ne_eqb (bytes % 4) 0 part))))

  pub step_fault_long : most_bytes < bytes → step_fault made bytes room ≡ 10
  step_fault_long long = fault_list (or_first (bad_calls bytes) _ (or_second (not (eqb (bytes % 4) 0)) _ (lt-ltb most_bytes bytes long)))

  pub step_fault_many : most_calls < made + bytes / 4 → step_fault made bytes room ≡ 10
  step_fault_many many = fault_list (or_second (bad_calls bytes) _ (lt-ltb most_calls (made + bytes / 4) many))

  module _ (whole : bytes % 4 ≡ 0) (short : bytes ≤ most_bytes) (few : made + bytes / 4 ≤ most_calls) where
    good_list : bad_calls bytes || ltb most_calls (made + bytes / 4) ≡ false
    good_list =
        or_none (bad_calls bytes) _ (or_none (not (eqb (bytes % 4) 0)) _ (ap not (eq-eqb (bytes % 4) 0 whole)) (le-ltb most_bytes bytes short))
        (le-ltb most_calls (made + bytes / 4) few)

    pub step_fault_room : room < 2 * (bytes / 4) → step_fault made bytes room ≡ 9
    unfolding step_fault
    step_fault_room little = rw (good_list, lt-ltb room (2 * (bytes / 4)) little) refl

    pub step_fault_none : 2 * (bytes / 4) ≤ room → step_fault made bytes room ≡ 0
    unfolding step_fault
    step_fault_none enough = rw (good_list, le-ltb room (2 * (bytes / 4)) enough) refl

  module _ (unrefused : step_fault made bytes room ≡ 0) where
    list_none : bad_calls bytes || ltb most_calls (made + bytes / 4) ≡ false
    unfolding step_fault
    list_none = fault_none 10 _ (lit< tt) (none_of_or_else (fault 10 (bad_calls bytes || ltb most_calls (made + bytes / 4))) _ unrefused).0

    pub step_fault_whole : bytes % 4 ≡ 0
    step_fault_whole = eqb-true (bytes % 4) 0 (not-false _ (none_first (not (eqb (bytes % 4) 0)) _ (none_first (bad_calls bytes) _ list_none)))

    pub step_fault_few : made + bytes / 4 ≤ most_calls
    step_fault_few = ltb-false most_calls (made + bytes / 4) (none_second (bad_calls bytes) _ list_none)

    pub step_fault_words : 2 * (bytes / 4) ≤ room
    unfolding step_fault
    step_fault_words =
        ltb-false room (2 * (bytes / 4))
        (fault_none 9 _ (lit< tt) (none_of_or_else (fault 10 (bad_calls bytes || ltb most_calls (made + bytes / 4))) _ unrefused).1)

-- ---- standing_word
pub dead_word_lem : (standing : Standing) → dead_word (is_dead standing) ≡ standing_word (standing_of standing)
dead_word_lem OpenedDead = refl
dead_word_lem Live = refl
dead_word_lem (Dead call) = refl

-- ---- KeptSteps
taken_none : (x : ℕ) (past calls : List Call) → (x ≡ 0 → ⊥) → past ++ taken x calls ≡ past
taken_none zero past calls refusing = absurd (refusing refl)
taken_none (suc x) past calls refusing = append-nil past

pub step_refused : (calls A masks cells trail heights numbers : List ℕ) (made x : ℕ) → made ≡ get_or numbers 2 0 → x ≡ step_fault made (length calls) (length A)
    → (x ≡ 0 → ⊥) → KeptSteps calls A (memory masks cells trail heights numbers) (256 + x) A (memory masks cells trail heights numbers)
step_refused calls A masks cells trail heights numbers made x made_is is refusing =
    record {
      does = λ b past kept.
          let fault_is : x ≡ step_fault (length past) (length calls) (length A) = is ∙ ap (λ (m : ℕ). step_fault m (length calls) (length A))
          (made_is ∙ kept_made kept) in
          let out : step_of b past calls (length A) ≡ refused x = rw (sym fault_is) (unless_some x _ refusing) in
          record {
            ran = session_refused (λ xs. xs) x A masks refl out;
            kept =
                subst (λ (now : List Call). KeptAt b now (memory masks cells trail heights numbers))
                (sym (ap (λ (y : ℕ). past ++ taken y (calls_of calls)) (sym fault_is) ∙ taken_none x past (calls_of calls) refusing)) kept;
            untouched = λ some. refl;
          };
    }

module _ (calls masks cells trail heights numbers : List ℕ) {n k made : ℕ} {session : Session} (n_is : n ≡ get_or numbers 0 0) (k_is : k ≡ get_or numbers 1 0)
    (made_is : made ≡ get_or numbers 2 0) (session_in_lem : session ≡ session_in numbers) where
  pub step_done : {A A' front cells' trail' heights' numbers' : List ℕ} {session' : Session} (answer : ℕ) → step_fault made (length calls) (length A) ≡ 0
      → Runs n k made (calls_of calls) session (take n masks) cells trail heights A session' front cells' trail' heights' A'
      → length cells' ≡ length cells → length trail' ≡ length trail → length heights' ≡ length heights
      → numbers' ≡ numbers_of n k (made + length calls / 4) session' → answer ≡ dead_word (is_dead session'.standing)
      → KeptSteps calls A (memory masks cells trail heights numbers) answer A' (memory (overlay front masks) cells' trail' heights' numbers')
  step_done {A} {front = front} {numbers' = numbers'} {session'} answer unrefused runs_are cells_kept trail_kept heights_kept numbers_are answer_is =
      record {
        does = λ b past kept.
            let R = opened_rules b most_marks in
            let list = calls_of calls in
            let none : step_fault (length past) (length calls) (length A) ≡ 0 =
            ap (λ (m : ℕ). step_fault m (length calls) (length A)) (sym (made_is ∙ kept_made kept)) ∙ unrefused in
            let done = runs_are.does (book_table b) R (state_after b most_marks past) (kept_represents kept n_is k_is session_in_lem) in
            let masks_are = later_masks kept n_is k_is session_in_lem list made_is done.represents done.standing in
            let stands = later_stands kept n_is k_is session_in_lem list made_is done.represents done.standing in
            let out : step_of b past calls (length A) ≡ step_good b past list = rw none refl in
            record {
              ran =
                  rw out
                  (record {
                    answers = answer_is ∙ dead_word_lem session'.standing ∙ ap standing_word stands;
                    words = done.words ∙ ap (λ (rs : List Reply). overlay (words_of rs) A) (later_replies_lem b past list);
                    masks = ap (λ (M : List ℕ). overlay M masks) masks_are;
                  });
              kept =
                  rw none
                  (kept_later kept n_is k_is session_in_lem list made_is done.represents done.standing cells_kept trail_kept heights_kept
                  (numbers_are ∙ ap (λ (m : ℕ). numbers_of n k (made + m) session') (sym (length_calls_of calls))));
              untouched = λ some. absurd (some none);
            };
      }

-- ---- KeptCalls
pub call_fault_many : (made : ℕ) → most_calls ≤ made → call_fault made ≡ 10
unfolding call_fault
call_fault_many made many = rw (le-leb most_calls made many) refl

pub call_fault_none : (made : ℕ) → made < most_calls → call_fault made ≡ 0
unfolding call_fault
call_fault_none made few = rw (lt-leb most_calls made few) refl

pub call_refused : (c : Call) (masks cells trail heights numbers : List ℕ) (made : ℕ) → made ≡ get_or numbers 2 0 → most_calls ≤ made
    → KeptCalls c (memory masks cells trail heights numbers) 266 0 (memory masks cells trail heights numbers)
call_refused c masks cells trail heights numbers made made_is many =
    record {
      does = λ b past kept.
          let fault_is : call_fault (length past) ≡ 10 = call_fault_many (length past) (subst (λ (m : ℕ). most_calls ≤ m) (made_is ∙ kept_made kept) many) in
          let now : past ++ taken (call_fault (length past)) (c ∷ []) ≡ past = rw fault_is (append-nil past) in
          record {
            words = rw fault_is refl;
            masks = kept_masks kept ∙ ap (λ (cs : List Call). overlay (state_after b most_marks cs).masks masks) (sym now);
            kept = subst (λ (cs : List Call). KeptAt b cs (memory masks cells trail heights numbers)) (sym now) kept;
            untouched = λ some. refl;
          };
    }

module _ (c : Call) (masks cells trail heights numbers : List ℕ) {n k made : ℕ} {session : Session} (n_is : n ≡ get_or numbers 0 0) (k_is : k ≡ get_or numbers 1 0)
    (made_is : made ≡ get_or numbers 2 0) (session_in_lem : session ≡ session_in numbers) where
  pub call_done : {front cells' trail' heights' numbers' : List ℕ} {r : Stepped} → made < most_calls
      → Stepping.Steps n k made c session (take n masks) cells trail heights front cells' trail' heights' r
      → length cells' ≡ length cells → length trail' ≡ length trail → length heights' ≡ length heights
      → numbers' ≡ numbers_of n k (made + 1) r.session
      → KeptCalls c (memory masks cells trail heights numbers) r.first r.second (memory (overlay front masks) cells' trail' heights' numbers')
  unfolding runs stand_from
  call_done {front} {cells'} {trail'} {heights'} {numbers'} {r} few steps cells_kept trail_kept heights_kept numbers_are =
      record {
        does = λ b past kept.
            let R = opened_rules b most_marks in
            let none : call_fault (length past) ≡ 0 = call_fault_none (length past) (subst (λ (m : ℕ). m < most_calls) (made_is ∙ kept_made kept) few) in
            let done = steps.does (book_table b) R (state_after b most_marks past) (kept_represents kept n_is k_is session_in_lem) in
            record {
              words = rw none (rw (done.first, done.second, later_reply b past c) refl);
              masks = rw none (ap (λ (M : List ℕ). overlay M masks) (later_masks kept n_is k_is session_in_lem (c ∷ []) made_is done.represents
                  done.standing));
              kept = rw none
                  (kept_later kept n_is k_is session_in_lem (c ∷ []) made_is done.represents done.standing cells_kept trail_kept heights_kept numbers_are);
              untouched = λ some. absurd (some none);
            };
      }
