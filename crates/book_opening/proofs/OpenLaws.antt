-- The laws of `specs/State.antt` on the state of a book. No contract cites this file. The ones that matter most: `unclosed_book` and `closed_book_lem`
-- (what the noted rises say of the book), `opened_book` (opening from the rises of its closed table settles its masks, or it does not settle).
-- Assumes nothing.
use mathlib.Core.Path.{◌≡◌, refl, sym, ap, ◌∙◌}
use mathlib.Core.Bool.{Bool, true, false}
use mathlib.Core.List.{List}
use mathlib.Core.Option.{Option, none, some}
use Prim.Native.Nat.{ℕ, ◌+◌, ◌*◌, ◌≤◌}
use native.Mathlib.Nat.{mul-le-mul}
use native.Mathlib.Omega.{arith}
use lib.ListN.{length}
use Rattle.book.specs.Layout.{slots, values, masks, list_of, mask_at}
use Rattle.closing_model.specs.Table.{view, Loosest}
use Rattle.settling_model.specs.Book.{book_start, closed_book, settled_book, none_closed, none_stable}
use Rattle.settling_model.proofs.BookLaws.{closed_book_loosest, closed_book_none, settles_settled_book, dead_settled_book}
use Rattle.filter_model.specs.Rises.{TableRises}
use Rattle.filter_model.specs.State.{World}
use Rattle.filter_model.proofs.StateLaws.{world_cells, world_moved}
use Rattle.outcomes.specs.declared.Outcome.{Outcome}
use Rattle.outcomes.specs.declared.Outcome.TheVariants.{Live, Dead}
use Rattle.opening.specs.Opened.{Rooms, OpenAnswer}
use Rattle.rises.proofs.RisesLaws.{closed_rises}
use Rattle.settle_fault.specs.Ready.{Ready}
use Rattle.book_rises.specs.BookRises.{is_closed, noted_rises, NotesRises}
use Rattle.book_opening.specs.State.{StateRoom, BookState, OpensBook}
use Rattle.book_opening.proofs.WorldLaws.{book_world}

-- ---- what the rises say

-- the book does not close, so it does not settle
pub unclosed_book : (b : List ℕ) {L U L' U' : List ℕ} {r : Bool} → NotesRises b L U L' U' r → r ≡ false → settled_book b ≡ none
unclosed_book b notes unclosed = go (closed_book b) refl (sym notes.answer ∙ unclosed)
  where
    go : (T : Option (List ℕ × List ℕ)) → closed_book b ≡ T → is_closed T ≡ false → settled_book b ≡ none
    go none is dead = dead_settled_book b (none_closed (closed_book_none b is))
    go (some T) is live = absurd (let z : ◌≡◌ {A = ℕ} 0 1 = cc in omega arith)

-- it closes, and the rises are those of its table
pub record ClosedBook (b L U : List ℕ) : Type 0 where
  pub lowers : List ℕ
  pub uppers : List ℕ
  pub closed : closed_book b ≡ some (lowers, uppers)
  pub rises : TableRises (slots b) (values b) (view lowers uppers) L U

pub closed_book_lem : (b : List ℕ) {L U L' U' : List ℕ} {r : Bool} → NotesRises b L U L' U' r → r ≡ true → ClosedBook b L' U'
closed_book_lem b {L} {U} {L'} {U'} notes closes = go (closed_book b) refl (sym notes.answer ∙ closes) notes.lowers notes.uppers
  where
    go : (T : Option (List ℕ × List ℕ)) → closed_book b ≡ T → is_closed T ≡ true → L' ≡ noted_rises (λ P. P.0) (slots b) (values b) T L
        → U' ≡ noted_rises (λ P. P.1) (slots b) (values b) T U → ClosedBook b L' U'
    go none is dead lowers uppers = absurd (let z : ◌≡◌ {A = ℕ} 0 1 = cc in omega arith)
    go (some T) is live lowers uppers =
        record {
          lowers = T.0;
          uppers = T.1;
          closed = is;
          rises = rw (lowers, uppers) (closed_rises (slots b) (values b) T.0 T.1 L U (closed_book_loosest b T.0 T.1 is).closed);
        }

-- ---- what opening says

module _ (b : List ℕ) {L U : List ℕ} (book : ClosedBook b L U) where
  loosest : Loosest (slots b) (values b) (book_start b) (view book.lowers book.uppers)
  loosest = closed_book_loosest b book.lowers book.uppers book.closed

  pub opened_book : {cells trail M' cells' trail' : List ℕ} (r : Outcome) → World (masks b) cells trail (slots b) (values b) 0
      → OpenAnswer (slots b) (values b) L U (masks b) cells trail M' cells' trail' r → OpensBook b M' cells' trail' L U r
  opened_book {M' = M'} (Live h) world answer =
      let opened = answer.meaning (view book.lowers book.uppers) book.rises in
      record {
        lowers = book.lowers;
        uppers = book.uppers;
        closed = book.closed;
        settled =
            settles_settled_book b M' (record { table = view book.lowers book.uppers; loosest = loosest; largest = opened.largest loosest.closed });
        rises = book.rises;
        mirror = opened.mirror;
        world = world_moved (world_cells answer.size world) answer.moved;
      }
  opened_book (Dead h) world answer =
      dead_settled_book b (none_stable (view book.lowers book.uppers) loosest (answer.meaning (view book.lowers book.uppers) book.rises))

-- ---- StateRoom

-- arrays for 256 slots and 32 values
pub state_room : {b M : List ℕ} (cells trail L U : List ℕ) → Ready b M → 16528 ≤ length cells → 25088 ≤ length trail → 257 ≤ length L → 257 ≤ length U
    → StateRoom b M cells trail L U
state_room {b} cells trail L U ready long_cells long_trail long_L long_U =
    let fit = ready.book in
    let rows : (values b + values b) * (slots b + 2) ≤ 64 * 258 =
    mul-le-mul {n₂ = 64} {m₂ = 258} (omega (arith, fit.values_most)) (omega (arith, fit.slots_most)) in
    record {
      rises = record { book = fit; lowers = omega (arith, fit.slots_most); uppers = omega (arith, fit.slots_most) };
      masks_inside = ready.masks;
      cells_in = omega (arith, long_cells, rows);
      trail_in = omega (arith, mul-le-mul {n₂ = 32} {m₂ = 256} fit.values_most fit.slots_most, fit.slots_most);
    }

-- ---- from the masks that are loaded, for the n and k that were read

module _ {b M cells trail L U M₁ : List ℕ} {n k : ℕ} (room : StateRoom b M cells trail L U) (loads : M₁ ≡ list_of (length M) (mask_at b))
    (n_is : n ≡ slots b) (k_is : k ≡ values b) where
  are_masks : M₁ ≡ masks b
  are_masks = loads ∙ ap (λ (j : ℕ). list_of j (mask_at b)) room.masks_inside

  world : World (masks b) cells trail (slots b) (values b) 0
  world = book_world b room.rises.book cells trail room.cells_in room.trail_in

  pub rooms_loaded : {L' U' : List ℕ} → length L' ≡ length L → length U' ≡ length U → Rooms M₁ cells trail L' U' n k
  rooms_loaded long long' =
      rw (are_masks, n_is, k_is)
      (record { world = world; lowers_in = omega (arith, room.rises.lowers); uppers_in = omega (arith, room.rises.uppers) })

  pub opened_loaded : {L' U' M' cells' trail' : List ℕ} (r : Outcome) → ClosedBook b L' U' → OpenAnswer n k L' U' M₁ cells trail M' cells' trail' r
      → OpensBook b M' cells' trail' L' U' r
  opened_loaded r closed answer = opened_book b closed r world (rw (are_masks, n_is, k_is) at answer)

-- ---- what the outcome says of the model

module _ (b masks cells trail L U : List ℕ) (r : Outcome) {h : ℕ} where
  pub opens_live_lem : r ≡ Live h → OpensBook b masks cells trail L U r → settled_book b ≡ some masks
  opens_live_lem live opens =
      let state : BookState b masks cells trail L U h = rw live at opens in
      state.settled

  pub opens_dead : r ≡ Dead h → OpensBook b masks cells trail L U r → settled_book b ≡ none
  opens_dead dead opens = rw dead at opens
