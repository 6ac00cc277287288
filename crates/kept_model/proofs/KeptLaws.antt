-- The laws of `specs/Kept.antt`: the calls after past (`later_state`, `later_replies_lem`, `later_reply`, `later_standing`), and what memory holds after them
-- (`kept_later`).
-- No contract cites this file. Assumes nothing.
use mathlib.Core.Path.{◌≡◌, refl, sym, ap, ◌∙◌, subst}
use mathlib.Core.List.{List, [], ◌++◌}
use mathlib.Core.Option.{Option, none, some}
use Prim.Native.Nat.{ℕ, ◌+◌, ◌≤◌}
use native.Mathlib.Nat.{zero-add}
use native.Mathlib.Omega.{arith}
use lib.ListN.{length, get_or, take, drop, length-append, length-drop, take-append-drop}
use lib.Seq.{take-append_seam, drop-append_seam}
use Rattle.book.specs.Layout as Layout
use Rattle.book.specs.Refusal.{refusal}
use Rattle.closing.specs.Close.{overlay}
use Rattle.settling_model.specs.Book.{settled_book}
use Rattle.session_model.specs.BookRun.{rules_of, state_after, replies_of, standing_after}
use Rattle.session_model.specs.Calls.{Call}
use Rattle.session_model.specs.Machine.{step, runs, opened, run}
use Rattle.session_model.specs.Demand.{through, answer_to}
use Rattle.session_model.specs.Standing as Model
use Rattle.session_model.specs.Standing.{stand_from}
use Rattle.session_model.specs.State.{Rules, State, Reply}
use Rattle.session_model.proofs.NewsLaws.{news_total_tells}
use Rattle.session_model.proofs.RunLaws.{run_append, runs_reply, length_replies, length_run}
use Rattle.session_model.proofs.StandingLaws.{stand_from_append}
use Rattle.session_fault.specs.Entry.{most_marks}
use Rattle.entries_model.specs.Entries.{full_limits}
use Rattle.acts.specs.Given.{standing_of}
use Rattle.acts.specs.Represents.{Suits, Represents, Running}
use Rattle.acts.proofs.RepresentsLaws.{represents_idle}
use Rattle.acts.specs.declared.Session.{Session}
use Rattle.acts.specs.declared.Standing.{Standing}
use Rattle.acts.specs.declared.Standing.TheVariants.{OpenedDead, Live, Dead}
use Rattle.running_model.specs.BookRan.{book_table, opened_rules, opened_state}
use Rattle.kept_model.specs.Entries.{later_replies}
use Rattle.kept_model.specs.Kept.{declared_of, session_at, KeptAt}
use Rattle.kept_model.specs.Memory.{memory, numbers_of, session_in}
use Rattle.kept_model.proofs.MemoryLaws.{session_in_numbers}

-- ---- the calls after past
module _ (b : List ℕ) (past calls : List Call) where
  abbrev ran_later : State × List Reply
  ran_later = runs (opened_rules b most_marks) (state_after b most_marks past) calls

  pub later_state : ran_later.0 ≡ state_after b most_marks (past ++ calls)
  later_state = sym (ap (λ (ran : State × List Reply). ran.0) (run_append (rules_of b most_marks) (Layout.masks b) past calls))

  later_appended : replies_of b most_marks (past ++ calls) ≡ replies_of b most_marks past ++ ran_later.1
  later_appended = ap (λ (ran : State × List Reply). ran.1) (run_append (rules_of b most_marks) (Layout.masks b) past calls)

  length_past : length (replies_of b most_marks past) ≡ length past
  length_past = length_run (rules_of b most_marks) (Layout.masks b) past

  pub later_replies_lem : ran_later.1 ≡ later_replies b past calls
  unfolding later_replies
  later_replies_lem =
      sym (ap (λ (rs : List Reply). drop (length past) rs) later_appended
      ∙ ap (λ (m : ℕ). drop m (replies_of b most_marks past ++ ran_later.1)) (sym length_past)
      ∙ drop-append_seam (replies_of b most_marks past) ran_later.1)

  pub replies_later : replies_of b most_marks (past ++ calls) ≡ replies_of b most_marks past ++ later_replies b past calls
  replies_later = later_appended ∙ ap (λ (rs : List Reply). replies_of b most_marks past ++ rs) later_replies_lem

  pub length_later : length (later_replies b past calls) ≡ length calls
  length_later = ap length (sym later_replies_lem) ∙ length_replies (opened_rules b most_marks) (state_after b most_marks past) calls

  pub later_standing : stand_from (standing_after b most_marks past) (length past) calls ran_later.1 ≡ standing_after b most_marks (past ++ calls)
  later_standing =
      ap (λ (i : ℕ). stand_from (standing_after b most_marks past) i calls ran_later.1) (sym (zero-add (length past)))
      ∙ sym (stand_from_append (Model.opening (settled_book b)) 0 past calls (replies_of b most_marks past) ran_later.1 length_past)
      ∙ ap (λ (rs : List Reply). stand_from (Model.opening (settled_book b)) 0 (past ++ calls) rs) (sym later_appended)

-- one call after past
pub later_reply : (b : List ℕ) (past : List Call) (c : Call)
    → (step (opened_rules b most_marks) (state_after b most_marks past) c).1 ≡ answer_to b most_marks (through past c) past
unfolding run
later_reply b past c = sym (runs_reply (opened_rules b most_marks) (opened_state b most_marks) past [] c)

-- ---- session_at
pub declared_standing : (standing : Standing) → declared_of (standing_of standing) ≡ standing
declared_standing OpenedDead = refl
declared_standing Live = refl
declared_standing (Dead call) = refl

pub standing_declared : (standing : Model.Standing) → standing_of (declared_of standing) ≡ standing
standing_declared Model.OpenedDead = refl
standing_declared Model.Live = refl
standing_declared (Model.Dead call) = refl

-- the machine counts its ones without the book's idle value, however it opened
opened_ones : (R : Rules) (settled : Option (List ℕ)) (M : List ℕ) → (opened R settled).0.ones M ≡ R.ones M
unfolding opened
opened_ones R none M = refl
opened_ones R (some N) M = refl

rules_idle : (b : List ℕ) {n k most idle : ℕ} → Suits (opened_rules b most_marks) n k most idle → idle ≡ Layout.idle b
rules_idle b suits =
    let R = rules_of b most_marks in
    news_total_tells _ _ (λ M. sym (suits.ones M) ∙ opened_ones R (R.settle (Layout.masks b)) M)

-- a session that stands as the machine and has its open marks and its idle value is the machine's
session_is : (b : List ℕ) (past : List Call) (session : Session) → standing_of session.standing ≡ standing_after b most_marks past
    → length (state_after b most_marks past).saved ≡ session.marks → session.idle ≡ Layout.idle b → session ≡ session_at b past session.top
session_is b past session standing marks idle =
    ap (λ (s : Standing). record { standing = s; top = session.top; marks = session.marks; idle = session.idle })
    (sym (declared_standing session.standing) ∙ ap declared_of standing)
    ∙ ap (λ (m : ℕ). record { standing = declared_of (standing_after b most_marks past); top = session.top; marks = m; idle = session.idle }) (sym marks)
    ∙ ap (λ (x : ℕ). record {
      standing = declared_of (standing_after b most_marks past);
      top = session.top;
      marks = length (state_after b most_marks past).saved;
      idle = x;
    }) idle

-- ---- KeptAt
length_overlay : (front lent : List ℕ) → length front ≤ length lent → length (overlay front lent) ≡ length lent
length_overlay front lent inside = omega (arith, length-append front (drop (length front) lent), length-drop (length front) lent)

-- memory whose front of masks, cells, trail and heights stand for the machine after the calls past, with the numbers of that session
pub kept_by : (b : List ℕ) (past : List Call) (front lent cells trail heights numbers : List ℕ) (session : Session) → refusal full_limits b ≡ 0
    → length lent ≡ 256 → length cells ≡ 16528 → length trail ≡ 25088 → length heights ≡ 256
    → numbers ≡ numbers_of (Layout.slots b) (Layout.values b) (length past) session → standing_of session.standing ≡ standing_after b most_marks past
    → Represents (book_table b) (opened_rules b most_marks) (state_after b most_marks past) front cells trail heights (Layout.slots b) (Layout.values b) session
    → KeptAt b past (memory (overlay front lent) cells trail heights numbers)
kept_by b past front lent cells trail heights numbers session good masks_long cells_long trail_long heights_long numbers_are standing represents =
    let n = Layout.slots b in
    let k = Layout.values b in
    let long = represents.room.masks_inside in
    let same = session_is b past session standing represents.marks_are (rules_idle b represents.suits) in
    let front_is : front ≡ take n (overlay front lent) = sym (ap (λ (m : ℕ). take m (overlay front lent)) (sym long) ∙ take-append_seam front _) in
    record {
      good = good;
      sized =
          record {
            masks = length_overlay front lent (omega (arith, long, represents.room.slots_fit, masks_long)) ∙ masks_long;
            cells = cells_long;
            trail = trail_long;
            heights = heights_long;
            numbers = ap length numbers_are;
          };
      top = session.top;
      numbers = numbers_are ∙ ap (λ (s : Session). numbers_of n k (length past) s) same;
      represents =
          subst (λ (s : Session). Represents (book_table b) (opened_rules b most_marks) (state_after b most_marks past)
          (take n (overlay front lent)) cells trail heights n k s) same
          (subst (λ (m : List ℕ). Represents (book_table b) (opened_rules b most_marks)
          (state_after b most_marks past) m cells trail heights n k session) front_is represents);
    }

module _ {b : List ℕ} {past : List Call} {masks cells trail heights numbers : List ℕ} (kept : KeptAt b past (memory masks cells trail heights numbers)) where
  pub kept_slots : get_or numbers 0 0 ≡ Layout.slots b
  kept_slots = ap (λ (ns : List ℕ). get_or ns 0 0) kept.numbers

  pub kept_types : get_or numbers 1 0 ≡ Layout.values b
  kept_types = ap (λ (ns : List ℕ). get_or ns 1 0) kept.numbers

  pub kept_made : get_or numbers 2 0 ≡ length past
  kept_made = ap (λ (ns : List ℕ). get_or ns 2 0) kept.numbers

  pub kept_front : take (Layout.slots b) masks ≡ (state_after b most_marks past).masks
  kept_front = sym kept.represents.masks_are

  -- the masks past those of the slots stand behind the machine's
  pub kept_masks : masks ≡ overlay (state_after b most_marks past).masks masks
  kept_masks =
      let n = Layout.slots b in
      sym (ap (λ (M : List ℕ). overlay M masks) kept.represents.masks_are ∙ ap (λ (m : ℕ). take n masks ++ drop m masks) kept.represents.room.masks_inside
      ∙ take-append-drop n masks)

  pub kept_inside : {n : ℕ} → n ≡ get_or numbers 0 0 → n ≤ length masks
  kept_inside n_is = omega (arith, n_is, kept_slots, kept.represents.room.slots_fit, kept.sized.masks)

  pub kept_types_most : {k : ℕ} → k ≡ get_or numbers 1 0 → k ≤ 32
  kept_types_most k_is = omega (arith, k_is, kept_types, kept.represents.room.values_fit)

  kept_session : session_in numbers ≡ session_at b past kept.top
  kept_session =
      ap session_in kept.numbers
      ∙ session_in_numbers (Layout.slots b) (Layout.values b) (length past) (session_at b past kept.top) kept.represents.top_fits
      (represents_idle kept.represents)

  module _ {n k : ℕ} {session : Session} (n_is : n ≡ get_or numbers 0 0) (k_is : k ≡ get_or numbers 1 0) (session_in_lem : session ≡ session_in numbers) where
    pub kept_represents : Represents (book_table b) (opened_rules b most_marks) (state_after b most_marks past) (take n masks) cells trail heights n k session
    kept_represents = rw (n_is ∙ kept_slots, k_is ∙ kept_types, session_in_lem ∙ kept_session) kept.represents

    kept_standing : standing_of session.standing ≡ standing_after b most_marks past
    kept_standing = ap (λ (s : Session). standing_of s.standing) (session_in_lem ∙ kept_session) ∙ standing_declared (standing_after b most_marks past)

    pub kept_running : Running (take n masks) cells trail heights n k session
    kept_running = record { table = book_table b; rules = opened_rules b most_marks; state = state_after b most_marks past; represents = kept_represents }

    -- after more calls, from what the machine does with them
    module _ (calls : List Call) {made : ℕ} {session' : Session} {front cells' trail' heights' : List ℕ} (made_is : made ≡ get_or numbers 2 0)
        (represents : Represents (book_table b) (opened_rules b most_marks) (runs (opened_rules b most_marks) (state_after b most_marks past) calls).0 front cells'
        trail' heights' n k session')
        (standing : standing_of session'.standing
        ≡ stand_from (standing_of session.standing) made calls (runs (opened_rules b most_marks) (state_after b most_marks past) calls).1) where
      later_represents : Represents (book_table b) (opened_rules b most_marks) (state_after b most_marks (past ++ calls)) front cells' trail' heights' n k session'
      later_represents =
          subst (λ (S : State). Represents (book_table b) (opened_rules b most_marks) S front cells' trail' heights' n k session')
          (later_state b past calls) represents

      pub later_masks : front ≡ (state_after b most_marks (past ++ calls)).masks
      later_masks = sym later_represents.masks_are

      pub later_stands : standing_of session'.standing ≡ standing_after b most_marks (past ++ calls)
      later_stands = standing ∙ rw (kept_standing, made_is ∙ kept_made) (later_standing b past calls)

      pub kept_later : {numbers' : List ℕ} → length cells' ≡ length cells → length trail' ≡ length trail → length heights' ≡ length heights
          → numbers' ≡ numbers_of n k (made + length calls) session' → KeptAt b (past ++ calls) (memory (overlay front masks) cells' trail' heights' numbers')
      kept_later {numbers'} cells_kept trail_kept heights_kept numbers_are =
          kept_by b (past ++ calls) front masks cells' trail' heights' numbers' session' kept.good kept.sized.masks (cells_kept ∙ kept.sized.cells)
          (trail_kept ∙ kept.sized.trail) (heights_kept ∙ kept.sized.heights)
          (numbers_are ∙ rw (n_is ∙ kept_slots, k_is ∙ kept_types, made_is ∙ kept_made, length-append past calls) refl) later_stands
          (rw (n_is ∙ kept_slots, k_is ∙ kept_types) at later_represents)
