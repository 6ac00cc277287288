-- The laws of `specs/BookRan.antt`: a session opened live (`opens_live_lem`) or dead (`opens_dead`), and a list run from there (`book_ran`). The
-- laws of `specs/EngineDemand.antt`: the machine's claim holds of the engine, since its cells mirror the book's closed table and its masks
-- (`represents_engine`, `bookran_mirror`). No contract cites this file. Assumes nothing.
use mathlib.Core.Path.{◌≡◌, refl, sym, ap, ◌∙◌, subst, subst⁻¹}
use mathlib.Core.Bool.{Bool, true, false, not}
use mathlib.Core.Logic.{◌↔◌}
use mathlib.Core.List.{List, [], ◌∷◌}
use mathlib.Core.Option.{Option, none, some}
use Prim.Native.Nat.{ℕ, suc, ◌*◌, ◌≤◌, ◌<◌}
use native.Mathlib.Omega.{arith}
use lib.Dec.{lit<}
use lib.ListN.{length, get_or, drop, replicate, get_or-append}
use Rattle.book.specs.Layout as Layout
use Rattle.closing_model.specs.Table.{Table, view}
use Rattle.closing.specs.Close.{overlay}
use Rattle.settling_model.specs.Book.{closed_book, settled_book}
use Rattle.settling_model.specs.Settling.{settling}
use Rattle.settling_model.specs.Stable.{Bound, table_bounds}
use Rattle.settling_model.proofs.BookLaws.{closed_book_loosest, loosest_bounds}
use Rattle.settling_model.proofs.SettlingLaws.{settling_largest}
use Rattle.segments_model.specs.Cells.{Stands}
use Rattle.segments_model.specs.Lines.{corner_of, slack_of, Segments}
use Rattle.segments_model.specs.Links.{gaps}
use Rattle.segments_model.proofs.SlackLaws.{segments_stands, segments_holds}
use Rattle.filter_model.specs.Mirror.{Mirror}
use Rattle.outcomes.specs.declared.Outcome.{Outcome}
use Rattle.outcomes.specs.declared.Outcome.TheVariants as Outcomes
use Rattle.book_opening.specs.State.{BookState, OpensBook}
use Rattle.session_model.specs.BookRun.{rules_of, state_after, replies_of, force_after, standing_after}
use Rattle.session_model.specs.Calls as Calls
use Rattle.session_model.specs.Calls.{Call, decide, calls_of}
use Rattle.session_model.specs.Decisions.{LargestUnder, UnstableUnder}
use Rattle.session_model.specs.Demand.{At, answer_to, bounds_of, Demand3}
use Rattle.session_model.specs.Machine.{opened, run, runs}
use Rattle.session_model.specs.State as Machine
use Rattle.session_model.specs.State.{Rules, State, Reply, words, words_of}
use Rattle.session_model.specs.Standing as Model
use Rattle.session_model.specs.Standing.{stand, stand_from}
use Rattle.session_model.specs.Walls.{Wall}
use Rattle.session_model.proofs.BookRunLaws.{rules_of_settle, rules_of_closed, rules_of_standing, settled_closed}
use Rattle.session_model.proofs.DeadOpeningLaws.{dead_opening}
use Rattle.session_model.proofs.DemandLaws.{demand3}
use Rattle.session_model.proofs.OutputLaws.{answer_word}
use Rattle.session_model.proofs.RunLaws.{opened_live, opened_dead, first_word_dead, first_word_unrefused}
use Rattle.running_model.specs.BookRan.{table_of, book_table, opened_rules, opened_state, opens_live, Openable, Opens, BookRan}
use Rattle.running_model.specs.EngineDemand.{EndsAt, first_word, EngineDemand3}
use Rattle.acts.specs.Given.{standing_of, is_shut}
use Rattle.acts.specs.Represents.{Room, Working, Represents, Running}
use Rattle.running_model.specs.Runs.{Runs}
use Rattle.running_model.specs.declared.Ended.{Ended}
use Rattle.acts.specs.declared.Session.{Session}
use Rattle.acts.specs.declared.Standing.{Standing}
use Rattle.acts.specs.declared.Standing.TheVariants.{OpenedDead, Live, Dead}
use Rattle.acts.proofs.CallLaws.{opened_working}
use Rattle.acts.proofs.PileLaws.{pile_none}

-- ---- book_table
book_table_closed : (b L U : List ℕ) → closed_book b ≡ some (L, U) → book_table b ≡ view L U
unfolding book_table
book_table_closed b L U closes = ap table_of closes

-- ---- Opens; the lengths are those at entry
module _ {b m c t L U m' c' t' : List ℕ} (openable : Openable b m c t L U) (masks_kept : length m' ≡ length m) (cells_kept : length c' ≡ length c)
    (trail_kept : length t' ≡ length t) where
  opens_room : Room m' c' t' (Layout.slots b) (Layout.values b)
  opens_room =
      let state = openable.state in
      let fit = state.rises.book in
      record {
        masks_inside = masks_kept ∙ state.masks_inside;
        rows = omega (arith, cells_kept, state.cells_in);
        slots_fit = omega (arith, fit.slots_most);
        values_fit = fit.values_most;
        heights_fit = omega (arith, trail_kept, openable.heights_fit);
      }

  state_working : {L' U' : List ℕ} {h : ℕ} (heights : List ℕ) (limit : ℕ) → BookState b m' c' t' L' U' h
      → Working (book_table b) (rules_of b limit) [] m' c' t' heights (Layout.slots b) (Layout.values b) h
  state_working {h = h} heights limit state =
      let n = Layout.slots b in
      let k = Layout.values b in
      let T = view state.lowers state.uppers in
      let closes = state.closed in
      let settles : settling (table_bounds n k T) (Layout.masks b) ≡ some m' =
      sym (rules_of_closed b limit state.lowers state.uppers closes (Layout.masks b)) ∙ rules_of_settle b limit ∙ state.settled in
      subst⁻¹ (λ (X : Table). Working X (rules_of b limit) [] m' c' t' heights n k h) (book_table_closed b state.lowers state.uppers closes)
      (record {
        rules =
            record {
              closed = (closed_book_loosest b state.lowers state.uppers closes).closed;
              settle = rules_of_closed b limit state.lowers state.uppers closes;
              standing = rules_of_standing b limit state.lowers state.uppers closes;
            };
        mirror = state.mirror;
        base =
            record {
              size = opens_room.masks_inside;
              stable = (settling_largest (table_bounds n k T) (Layout.masks b) m' settles).stable;
              values = state.world.values;
              room = state.world.room;
            };
        pile = pile_none n k T t' heights m' c' h;
      })

  at_opening : {session : Session} {o : Rules × State} (heights : List ℕ)
      → o ≡ opened (rules_of b (length heights)) ((rules_of b (length heights)).settle (Layout.masks b))
      → Represents (book_table b) o.0 o.1 m' c' t' heights (Layout.slots b) (Layout.values b) session
      → Represents (book_table b) (opened_rules b (length heights)) (opened_state b (length heights)) m' c' t' heights (Layout.slots b) (Layout.values b) session
  at_opening {session} heights is represents =
      subst (λ (o : Rules × State). Represents (book_table b) o.0 o.1 m' c' t' heights (Layout.slots b) (Layout.values b) session) is represents

  live_represents : {L' U' : List ℕ} {h : ℕ} → BookState b m' c' t' L' U' h → (heights : List ℕ)
      → Represents (book_table b) (opened_rules b (length heights)) (opened_state b (length heights)) m' c' t' heights (Layout.slots b) (Layout.values b)
      (record { standing = Live; top = h; marks = 0; idle = Layout.idle b })
  live_represents state heights =
      at_opening heights (sym (opened_live (rules_of b (length heights)) (Layout.masks b) m' (rules_of_settle b (length heights) ∙ state.settled)))
      (record {
        room = opens_room;
        suits = record { slots = refl; values = refl; limit = refl; ones = λ M. refl; idle_known = openable.state.rises.book.idle_known };
        masks_are = refl;
        flag = refl;
        marks_are = refl;
        marks_in = omega arith;
        top_fits = omega (arith, (state_working heights (length heights) state).base.room, opens_room.heights_fit);
        stands = state_working heights (length heights) state;
      })

  pub opens_live_lem : (L' U' : List ℕ) {h : ℕ} (r : Outcome) → r ≡ Outcomes.Live h → OpensBook b m' c' t' L' U' r
      → Opens b m' c' t' (record { standing = Live; top = h; marks = 0; idle = Layout.idle b })
  opens_live_lem L' U' {h} r is opens =
      let state : BookState b m' c' t' L' U' h = subst (λ (o : Outcome). OpensBook b m' c' t' L' U' o) is opens in
      record { represents = live_represents state; standing = rw state.settled refl }

  dead_represents : settled_book b ≡ none → m' ≡ replicate (length m) 0 → (heights : List ℕ)
      → Represents (book_table b) (opened_rules b (length heights)) (opened_state b (length heights)) m' c' t' heights (Layout.slots b) (Layout.values b)
      (record { standing = OpenedDead; top = 0; marks = 0; idle = Layout.idle b })
  dead_represents dies cleared heights =
      at_opening heights (sym (opened_dead (rules_of b (length heights)) (Layout.masks b) (rules_of_settle b (length heights) ∙ dies)))
      (record {
        room = opens_room;
        suits = record { slots = refl; values = refl; limit = refl; ones = λ M. refl; idle_known = openable.state.rises.book.idle_known };
        masks_are = sym (cleared ∙ ap (λ (n : ℕ). replicate n 0) openable.state.masks_inside);
        flag = refl;
        marks_are = refl;
        marks_in = omega arith;
        top_fits = lit< tt;
        stands = record { saved_none = refl; standing = λ kind M v. refl };
      })

  pub opens_dead : (m₁ L' U' : List ℕ) {h : ℕ} (r : Outcome) → r ≡ Outcomes.Dead h → OpensBook b m₁ c' t' L' U' r → m' ≡ replicate (length m) 0
      → Opens b m' c' t' (record { standing = OpenedDead; top = 0; marks = 0; idle = Layout.idle b })
  opens_dead m₁ L' U' {h} r is opens cleared =
      let dies : settled_book b ≡ none = subst (λ (o : Outcome). OpensBook b m₁ c' t' L' U' o) is opens in
      record { represents = dead_represents dies cleared; standing = rw dies refl }

-- ---- BookRan
abbrev shut_model : Model.Standing → Bool
shut_model Model.OpenedDead = true
shut_model Model.Live = false
shut_model (Model.Dead call) = false

shut_model_lem : (standing : Standing) → is_shut standing ≡ shut_model (standing_of standing)
shut_model_lem OpenedDead = refl
shut_model_lem Live = refl
shut_model_lem (Dead call) = refl

opening_live : (settled : Option (List ℕ)) → not (shut_model (Model.opening settled)) ≡ opens_live settled
opening_live none = refl
opening_live (some M) = refl

-- the flag of the opening says whether the book opens live
shut_live : (standing : Standing) (settled : Option (List ℕ)) → standing_of standing ≡ Model.opening settled → not (is_shut standing) ≡ opens_live settled
shut_live standing settled is = ap not (shut_model_lem standing ∙ ap shut_model is) ∙ opening_live settled

-- after a live opening no call makes it opened dead
stand_opened : (St : Model.Standing) (i : ℕ) (c : Call) (r : Reply) → shut_model St ≡ false → shut_model (stand St i c r) ≡ false
unfolding stand
stand_opened St i c (Machine.live struck) opened = opened
stand_opened St i c Machine.dead opened = refl
stand_opened St i c (Machine.value x) opened = opened
stand_opened St i (Calls.decide d) Machine.done opened = opened
stand_opened St i Calls.mark Machine.done opened = opened
stand_opened St i Calls.back Machine.done opened = refl
stand_opened St i (Calls.show s) Machine.done opened = opened
stand_opened St i (Calls.walls kind v) Machine.done opened = opened
stand_opened St i Calls.unknown Machine.done opened = opened
stand_opened St i c (Machine.refused x) opened = opened

stand_from_opened : (St : Model.Standing) (i : ℕ) (cs : List Call) (rs : List Reply) → shut_model St ≡ false
    → shut_model (stand_from St i cs rs) ≡ false
unfolding stand_from
stand_from_opened St i [] rs opened = opened
stand_from_opened St i (c ∷ cs) [] opened = opened
stand_from_opened St i (c ∷ cs) (r ∷ rs) opened = stand_from_opened (stand St i c r) (suc i) cs rs (stand_opened St i c r opened)

run_opened : (b M : List ℕ) (limit : ℕ) (calls : List Call) (standing : Standing) → settled_book b ≡ some M
    → standing_of standing ≡ standing_after b limit calls → is_shut standing ≡ false
run_opened b M limit calls standing settles is =
    shut_model_lem standing ∙ ap shut_model is
    ∙ stand_from_opened (Model.opening (settled_book b)) 0 calls (replies_of b limit calls) (ap (λ (o : Option (List ℕ)). shut_model (Model.opening o)) settles)

-- ---- EngineDemand3
segments_walls : {kind : Bool} {n : ℕ} {line : ℕ → ℕ} {M : List ℕ} {v : ℕ} {row : List ℕ} → Segments kind n line M v row → (t : ℕ) → 0 < t → t ≤ n
    → (0 < get_or (gaps row) t 0) ↔ Stands n (corner_of kind n line) (slack_of kind line M v) t
segments_walls row t from upto = (segments_stands row t from upto, segments_holds row t from upto)

mirror_walls : {n k : ℕ} {T : Table} {M cells : List ℕ} → Mirror n k T M cells → (kind : Bool) (v t : ℕ) → v < k → 0 < t → t ≤ n
    → EndsAt kind n k v cells t ↔ Wall kind n T M v t
mirror_walls mirror true v t v<k from upto = segments_walls (mirror.rows true v v<k) t from upto
mirror_walls mirror false v t v<k from upto = segments_walls (mirror.rows false v v<k) t from upto

-- the first word of a call in the answers is that of the machine's answer to it
engine_word : (b : List ℕ) (calls : List Call) (limit : ℕ) (answers answers' : List ℕ) → answers' ≡ overlay (words_of (replies_of b limit calls)) answers
    → (before rest : List Call) (c : Call) → At calls before c rest
    → first_word answers' before ≡ (words (answer_to b limit calls before)).0
engine_word b calls limit answers answers' written before rest c at =
    let said = words_of (replies_of b limit calls) in
    let word = answer_word b limit calls before rest c at in
    ap (λ (l : List ℕ). first_word l before) written ∙ get_or-append said (drop (length said) answers) 0 (2 * length before) word.0 ∙ word.1

-- the machine's claim, over the engine's answers and masks, and the cells that mirror the closed table and them
engine_demand3 : (b : List ℕ) (calls : List Call) (limit : ℕ) (L U answers answers' masks cells : List ℕ) → closed_book b ≡ some (L, U)
    → Demand3 b limit calls → answers' ≡ overlay (words_of (replies_of b limit calls)) answers
    → (state_after b limit calls).masks ≡ masks → Mirror (Layout.slots b) (Layout.values b) (view L U) masks cells
    → EngineDemand3 b calls limit answers' masks cells
engine_demand3 b calls limit L U answers answers' masks cells closes claim written masks_are mirror =
    let force = force_after b limit calls in
    let one = closed_book_loosest b L U closes in
    let same = loosest_bounds (Layout.slots b) (Layout.values b) claim.loosest one in
    record {
      table = view L U;
      loosest = one;
      largest =
          subst (λ (N : List ℕ). LargestUnder (bounds_of b (view L U)) (Layout.masks b) force N) masks_are
          (subst (λ (bs : List Bound). LargestUnder bs (Layout.masks b) force (state_after b limit calls).masks) same claim.largest);
      walls = mirror_walls mirror;
      dies = λ before rest d at unrefused.
          let reply = answer_to b limit calls before in
          let word = engine_word b calls limit answers answers' written before rest (decide d) at in
          let dead_word_lem = first_word_dead reply in
          let exactly = claim.dies before rest d at (first_word_unrefused reply (rw word at unrefused)) in (
            λ one_word. subst (λ (bs : List Bound). UnstableUnder bs (Layout.masks b) (d ∷ force_after b limit before)) same
                (exactly.0 (dead_word_lem.1 (sym word ∙ one_word))),
            λ none. word ∙ dead_word_lem.0
                (exactly.1 (subst⁻¹ (λ (bs : List Bound). UnstableUnder bs (Layout.masks b) (d ∷ force_after b limit before)) same none)),
          );
    }

-- what the slices stand for after a list, on a book that opens live
pub represents_engine : (b : List ℕ) (calls : List Call) (limit : ℕ) (M answers answers' : List ℕ) {masks cells trail heights : List ℕ} {session : Session}
    → settled_book b ≡ some M → answers' ≡ overlay (words_of (replies_of b limit calls)) answers
    → standing_of session.standing ≡ standing_after b limit calls
    → Represents (book_table b) (opened_rules b limit) (state_after b limit calls) masks cells trail heights (Layout.slots b) (Layout.values b) session
    → EngineDemand3 b calls limit answers' masks cells
represents_engine b calls limit M answers answers' {masks} {cells} {session = session} settles written standing represents =
    let closes = settled_closed b M settles in
    let working = opened_working represents (run_opened b M limit calls session.standing settles standing) in
    engine_demand3 b calls limit closes.0 closes.1 answers answers' masks cells closes.2 (demand3 b limit M settles calls) written
    represents.masks_are
    (subst (λ (T : Table). Mirror (Layout.slots b) (Layout.values b) T masks cells) (book_table_closed b closes.0 closes.1 closes.2) working.mirror)

module _ {b m c t : List ℕ} {fresh : Session} (opens : Opens b m c t fresh) {n k : ℕ} (n_is : n ≡ Layout.slots b) (k_is : k ≡ Layout.values b)
    (heights : List ℕ) where
  opened_represents : Represents (book_table b) (opened_rules b (length heights)) (opened_state b (length heights)) m c t heights n k fresh
  opened_represents = rw (n_is, k_is) (opens.represents heights)

  pub opened_running : Running m c t heights n k fresh
  opened_running =
      record { table = book_table b; rules = opened_rules b (length heights); state = opened_state b (length heights); represents = opened_represents }

  pub book_ran : (calls : List ℕ) {answers answers' m' c' t' h' : List ℕ} {session : Session} (shut : Bool) → shut ≡ is_shut fresh.standing
      → Runs n k 0 (calls_of calls) fresh m c t heights answers session m' c' t' h' answers'
      → BookRan b calls (length heights) answers answers' m' c' t' h' (record { session = session; live = not shut })
  unfolding run
  book_ran calls {answers} {answers'} {m'} {c'} {t'} {h'} {session} shut shut_is ran =
      let limit = length heights in
      let done = ran.does (book_table b) (opened_rules b limit) (opened_state b limit) opened_represents in
      let represents : Represents (book_table b) (opened_rules b limit) (state_after b limit (calls_of calls)) m' c' t' h' (Layout.slots b) (Layout.values b)
      session = rw (n_is, k_is) at done.represents in
      let standing : standing_of session.standing ≡ standing_after b limit (calls_of calls) = done.standing
      ∙ ap (λ (s : Model.Standing).
      Model.stand_from s 0 (calls_of calls) (runs (opened_rules b limit) (opened_state b limit) (calls_of calls)).1) opens.standing in
      record {
        live = ap not shut_is ∙ shut_live fresh.standing (settled_book b) opens.standing;
        represents = represents;
        masks_are = sym represents.masks_are;
        words = done.words;
        standing = standing;
        engine = λ M settles. represents_engine b (calls_of calls) limit M answers answers' settles done.words standing represents;
        demand = λ M settles. demand3 b limit M settles (calls_of calls);
        opened_dead = λ dies. dead_opening b limit dies (calls_of calls);
      }

-- the cells mirror the closed table and the masks, in all that the engine keeps: the spent corners and the slacks too
pub bookran_mirror : {b calls : List ℕ} {limit : ℕ} {answers answers' masks cells trail heights : List ℕ} {r : Ended}
    → BookRan b calls limit answers answers' masks cells trail heights r → (L U M : List ℕ) → closed_book b ≡ some (L, U) → settled_book b ≡ some M
    → Mirror (Layout.slots b) (Layout.values b) (view L U) masks cells
bookran_mirror {b} {calls} {limit} {masks = masks} {cells} {r = r} ran L U M closes settles =
    subst (λ (T : Table). Mirror (Layout.slots b) (Layout.values b) T masks cells) (book_table_closed b L U closes)
    (opened_working ran.represents (run_opened b M limit (calls_of calls) r.session.standing settles ran.standing)).mirror
