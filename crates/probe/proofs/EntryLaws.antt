-- From an opened book to the bytes of its probes: what the trials need (`opened_trying`), and that their bytes are those of the entry, live (`probes_live`) and
-- dead (`probes_dead`). No contract cites this file. Assumes nothing.
use mathlib.Core.Path.{◌≡◌, refl, sym, ap, ◌∙◌}
use mathlib.Core.List.{List, ◌++◌}
use mathlib.Core.Option.{Option, none, some}
use Prim.Native.Nat.{ℕ, ◌/◌, ◌<◌}
use lib.ListN.{length, get_or, drop, replicate, length-replicate, get_or-replicate}
use Rattle.book.specs.Layout.{slots, values, list_of}
use Rattle.book.specs.Layout as Layout
use Rattle.book.proofs.LayoutLaws.{length_list_of, get_d_list_of}
use Rattle.closing_model.specs.Table.{Table, view}
use Rattle.closing.proofs.CloseLaws.{overlay_front}
use Rattle.settling_model.specs.Stable.{table_bounds}
use Rattle.settling_model.specs.Settling.{settling}
use Rattle.settling_model.specs.Book.{settled_book}
use Rattle.settling_model.proofs.BookLaws.{closed_book_loosest}
use Rattle.settling_model.proofs.SettlingLaws.{settling_largest}
use Rattle.session_model.specs.Calls.{call_at, decide}
use Rattle.session_model.specs.Decisions.{assign, cut}
use Rattle.session_model.proofs.BookRunLaws.{rules_of_settle, rules_of_closed}
use Rattle.session_fault.specs.Entry.{most_marks, opened_word}
use Rattle.book_opening.specs.State.{BookState}
use Rattle.probe_model.specs.Probe.{call_slot, call_value, probe_byte, ProbesGood}
use Rattle.probe_model.proofs.ProbeLaws.{probe_settles, probe_unsettles, probe_shut, bytes_are, call_assigns}
use Rattle.probe_model.proofs.FaultLaws.{unrefused_slot, unrefused_value}
use Rattle.probe.specs.Trial.{unsettled, Ground, byte_of, AllTrying, AllTried}
use Rattle.probe.specs.Ready.{ProbeReady}

module _ {b calls D masks : List ℕ} (ready : ProbeReady b calls D masks) where
  -- a byte a call, in the front of the output
  written : {D' : List ℕ} (answer : ℕ) (xs : List ℕ) → answer ≡ opened_word (settled_book b) → length xs ≡ length calls / 4
      → ((i : ℕ) → i < length calls / 4 → get_or xs i 0 ≡ probe_byte b (call_at calls i)) → D' ≡ xs ++ drop (length calls / 4) D
      → ProbesGood b calls D answer D'
  written answer xs answers long each filled =
      rw (answers, filled, overlay_front (length calls / 4) xs D long, bytes_are b calls xs long each) refl

  module _ {M c t L' U' : List ℕ} {h : ℕ} (state : BookState b M c t L' U' h) where
    abbrev table : Table
    table = view state.lowers state.uppers

    opened_ground : Ground (view state.lowers state.uppers) M c (slots b) (values b)
    opened_ground =
        let settles : settling (table_bounds (slots b) (values b) table) (Layout.masks b) ≡ some M =
        sym (rules_of_closed b most_marks state.lowers state.uppers state.closed (Layout.masks b)) ∙ rules_of_settle b most_marks ∙ state.settled in
        record {
          closed = (closed_book_loosest b state.lowers state.uppers state.closed).closed;
          mirror = state.mirror;
          stable = (settling_largest (table_bounds (slots b) (values b) table) (Layout.masks b) M settles).stable;
        }

    pub opened_trying : {n k : ℕ} → n ≡ slots b → k ≡ values b → length M ≡ length masks → AllTrying calls D M c t n k h
    opened_trying n_is k_is long =
        rw (n_is, k_is)
        (record {
          table = view state.lowers state.uppers;
          ground = opened_ground;
          world = state.world;
          size = long ∙ ready.ready.masks;
          room = ready.room;
          slots_in_lem = λ i i<m. unrefused_slot (slots b) (values b) _ _ _ (ready.each i i<m);
          values_in = λ i i<m. unrefused_value (slots b) (values b) _ _ _ (ready.each i i<m);
        })

    -- the byte of call i
    live_byte : (i : ℕ) → i < length calls / 4 → byte_of (slots b) (values b) (view state.lowers state.uppers) M calls i ≡ probe_byte b (call_at calls i)
    live_byte i i<m =
        go (settling (table_bounds (slots b) (values b) table) (cut (assign (call_slot calls i) (call_value calls i)) M)) refl
        ∙ ap (probe_byte b) (sym (call_assigns b calls i (ready.each i i<m)))
      where
        slot_in : call_slot calls i < slots b
        slot_in = unrefused_slot (slots b) (values b) _ _ _ (ready.each i i<m)

        value_in : call_value calls i < values b
        value_in = unrefused_value (slots b) (values b) _ _ _ (ready.each i i<m)

        go : (o : Option (List ℕ)) → settling (table_bounds (slots b) (values b) table) (cut (assign (call_slot calls i) (call_value calls i)) M) ≡ o
            → unsettled o ≡ probe_byte b (decide (assign (call_slot calls i) (call_value calls i)))
        go none is =
            sym (probe_unsettles b M state.lowers state.uppers state.settled state.closed (call_slot calls i) (call_value calls i) slot_in value_in is)
        go (some N) is =
            sym (probe_settles b M state.lowers state.uppers state.settled state.closed (call_slot calls i) (call_value calls i) slot_in value_in N is)

    pub probes_live : {n k : ℕ} {D' : List ℕ} → n ≡ slots b → k ≡ values b → AllTried calls n k M c D D' → ProbesGood b calls D 0 D'
    probes_live {n} {k} {D'} n_is k_is tried =
        let all : AllTried calls (slots b) (values b) M c D D' = rw (n_is, k_is) at tried in
        let f = byte_of (slots b) (values b) table M calls in
        written 0 (list_of (length calls / 4) f) (sym (ap opened_word state.settled)) (length_list_of (length calls / 4) f)
        (λ i i<m. get_d_list_of (length calls / 4) f i 0 i<m ∙ live_byte i i<m) (all table opened_ground)

  pub probes_dead : {D' : List ℕ} → settled_book b ≡ none → D' ≡ replicate (length calls / 4) 1 ++ drop (length calls / 4) D → ProbesGood b calls D 1 D'
  probes_dead shut =
      written 1 (replicate (length calls / 4) 1) (sym (ap opened_word shut)) (length-replicate (length calls / 4) 1)
      (λ i i<m. get_or-replicate (length calls / 4) i 1 0 i<m ∙ sym (probe_shut b (call_at calls i) shut))
