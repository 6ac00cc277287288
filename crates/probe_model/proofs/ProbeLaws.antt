-- The laws of `probe_byte` and `probe_bytes` of `specs/Probe.antt`. To the code: a book opened dead gives 1 (`probe_shut`), and on one opened live the byte is
-- whether the settled masks, cut to the value, settle (`probe_settles`, `probe_unsettles`). To the meaning, `specs/Meaning.antt`: `byte_means`, and of no other
-- byte (`byte_means_unique`); so the byte is 1 exactly where the probe dies (`probe_dies`) and 0 exactly where it lives (`probe_lives`), and where it dies no
-- plan has that pick (`probe_no_plan`). Of a list: `bytes_are`, `call_means`. No contract cites this file. Assumes nothing.
use mathlib.Core.Path.{◌≡◌, refl, sym, ap, ◌∙◌}
use mathlib.Core.Logic.{◌↔◌}
use mathlib.Core.List.{List, [], ◌∷◌}
use mathlib.Core.Option.{Option, none, some}
use Prim.Native.Nat.{ℕ, ◌/◌, ◌<◌}
use native.Mathlib.Omega.{arith}
use lib.ListN.{length, get_or}
use lib.Seq.{ext_get_or}
use Rattle.book.specs.Layout.{slots, values, masks}
use Rattle.book.proofs.LayoutLaws.{length_list_of, get_d_list_of}
use Rattle.closing_model.specs.Table.{view}
use Rattle.settling_model.specs.Stable.{table_bounds}
use Rattle.settling_model.specs.Settling.{settling}
use Rattle.settling_model.specs.Plans.{singles}
use Rattle.settling_model.specs.Book.{closed_book, settled_book, DeadBook, BookPlan}
use Rattle.settling_model.specs.Book as Book
use Rattle.settling_model.proofs.BookLaws.{closed_book_loosest, settled_book_dead, loosest_bounds, unclosed_no_plan}
use Rattle.settling_model.proofs.PlansLaws.{plan_stable}
use Rattle.settling_model.proofs.SettlingLaws.{settling_largest, settling_unstable}
use Rattle.session_model.specs.Decisions.{Decision, assign, cut, cut_all, LargestUnder}
use Rattle.session_model.specs.Calls.{Call, decide, call_of, call_at}
use Rattle.session_model.specs.State.{State, Reply, done}
use Rattle.session_model.specs.Refusal.{refusal}
use Rattle.session_model.specs.Machine.{step, runs, fresh}
use Rattle.session_model.specs.BookRun.{rules_of, reply_of}
use Rattle.session_model.specs.Demand.{bounds_of, PlanMeets}
use Rattle.session_model.proofs.BookRunLaws.{live_run, rules_of_closed, rules_of_settle, settled_closed}
use Rattle.session_model.proofs.DecisionsLaws.{largest_under, largest_cut, unstable_cut}
use Rattle.session_model.proofs.PlanLaws.{plan_allowed}
use Rattle.session_model.proofs.RefusalLaws.{refusal_decide_none}
use Rattle.session_model.proofs.StepLaws.{step_live, step_dead}
use Rattle.session_fault.specs.Entry.{most_marks}
use Rattle.probe_model.specs.Probe.{dead_byte, byte_on, probe_byte, probe_bytes, call_slot, call_value, call_fault_at}
use Rattle.probe_model.proofs.FaultLaws.{unrefused_kind, unrefused_slot, unrefused_value}
use Rattle.probe_model.specs.Meaning.{ProbeDies, none_closed, none_stable, ProbeLives, ByteMeans, dies, lives}

-- ---- probe_byte, to the code
pub probe_shut : (b : List ℕ) (c : Call) → settled_book b ≡ none → probe_byte b c ≡ 1
probe_shut b c shut = ap (λ (o : Option (List ℕ)). byte_on o (reply_of b most_marks (c ∷ []) 0)) shut

module _ (b M L U : List ℕ) (settles : settled_book b ≡ some M) (closes : closed_book b ≡ some (L, U)) where
  -- the answer to a one-call list
  one_reply : (c : Call) → reply_of b most_marks (c ∷ []) 0 ≡ (step (rules_of b most_marks) (fresh M) c).1
  unfolding runs
  one_reply c = ap (λ (t : State × List Reply). get_or t.1 0 done) (live_run b most_marks M settles (c ∷ []))

  one_byte : (c : Call) → probe_byte b c ≡ dead_byte (step (rules_of b most_marks) (fresh M) c).1
  one_byte c = ap (λ (o : Option (List ℕ)). byte_on o (reply_of b most_marks (c ∷ []) 0)) settles ∙ ap dead_byte (one_reply c)

  module _ (s v : ℕ) (inside : s < slots b) (below : v < values b) where
    abbrev pick : Decision
    pick = assign s v

    abbrev settled_pick : Option (List ℕ)
    settled_pick = settling (bounds_of b (view L U)) (cut pick M)

    accepted : refusal (rules_of b most_marks) (fresh M) (decide pick) ≡ none
    accepted = refusal_decide_none (rules_of b most_marks) (fresh M) pick refl inside below

    pub probe_unsettles : settling (table_bounds (slots b) (values b) (view L U)) (cut (assign s v) M) ≡ none → probe_byte b (decide (assign s v)) ≡ 1
    probe_unsettles is =
        one_byte (decide pick)
        ∙ ap (λ (t : State × Reply). dead_byte t.1)
        (step_dead (rules_of b most_marks) (fresh M) pick accepted (rules_of_closed b most_marks L U closes (cut pick M) ∙ is))

    pub probe_settles : (N : List ℕ) → settling (table_bounds (slots b) (values b) (view L U)) (cut (assign s v) M) ≡ some N
        → probe_byte b (decide (assign s v)) ≡ 0
    probe_settles N is =
        one_byte (decide pick)
        ∙ ap (λ (t : State × Reply). dead_byte t.1)
        (step_live (rules_of b most_marks) (fresh M) pick accepted N (rules_of_closed b most_marks L U closes (cut pick M) ∙ is))

    -- ---- .. and to the meaning, of a book opened live
    opened_best : LargestUnder (bounds_of b (view L U)) (masks b) [] M
    unfolding cut_all
    opened_best =
        largest_under []
        (settling_largest (bounds_of b (view L U)) (masks b) M (sym (rules_of_closed b most_marks L U closes (masks b)) ∙ rules_of_settle b most_marks ∙ settles))

    live_means : ByteMeans b s v (probe_byte b (decide pick))
    live_means = go settled_pick refl
      where
        go : (o : Option (List ℕ)) → settled_pick ≡ o → ByteMeans b s v (probe_byte b (decide pick))
        go none is =
            dies (probe_unsettles is)
            (none_stable (view L U) (closed_book_loosest b L U closes) (unstable_cut opened_best pick (settling_unstable _ (cut pick M) is)))
        go (some N) is =
            lives (probe_settles N is)
            (record {
              table = view L U;
              loosest = closed_book_loosest b L U closes;
              list = N;
              largest = largest_cut opened_best pick (settling_largest _ (cut pick M) N is);
            })

-- a dead book: no stable list lies within its masks, nor within these and a pick
pub dead_probe : (b : List ℕ) (s v : ℕ) → DeadBook b → ProbeDies b s v
dead_probe b s v (Book.none_closed no_table) = none_closed no_table
dead_probe b s v (Book.none_stable T loosest unstable) = none_stable T loosest (λ N stable allowed. unstable N stable allowed.within)

-- ---- ByteMeans
module _ (b : List ℕ) (s v : ℕ) where
  pub dies_not_lives : ProbeDies b s v → ProbeLives b s v → ⊥
  dies_not_lives (none_closed no_table) alive = no_table alive.table alive.loosest.closed alive.loosest.within
  dies_not_lives (none_stable T loosest unstable) alive =
      let best : LargestUnder (bounds_of b T) (masks b) (assign s v ∷ []) alive.list =
      rw (loosest_bounds (slots b) (values b) alive.loosest loosest) at alive.largest in
      unstable alive.list best.stable best.allowed

  pub byte_means_unique : (x y : ℕ) → ByteMeans b s v x → ByteMeans b s v y → x ≡ y
  byte_means_unique x y (dies is_1 dead) (dies is_1' dead') = is_1 ∙ sym is_1'
  byte_means_unique x y (dies is_1 dead) (lives is_0 alive) = absurd (dies_not_lives dead alive)
  byte_means_unique x y (lives is_0 alive) (dies is_1' dead') = absurd (dies_not_lives dead' alive)
  byte_means_unique x y (lives is_0 alive) (lives is_0' alive') = is_0 ∙ sym is_0'

  module _ (inside : s < slots b) (below : v < values b) where
    pub byte_means : ByteMeans b s v (probe_byte b (decide (assign s v)))
    byte_means = go (settled_book b) refl
      where
        go : (o : Option (List ℕ)) → settled_book b ≡ o → ByteMeans b s v (probe_byte b (decide (assign s v)))
        go none shut = dies (probe_shut b (decide (assign s v)) shut) (dead_probe b s v (settled_book_dead b shut))
        go (some M) settles =
            let closes = settled_closed b M settles in
            live_means b M closes.0 closes.1 settles closes.2 s v inside below

    pub probe_dies : (probe_byte b (decide (assign s v)) ≡ 1) ↔ ProbeDies b s v
    probe_dies =
        (λ is_1. go is_1 byte_means, λ dead. byte_means_unique _ 1 byte_means (dies refl dead))
      where
        go : probe_byte b (decide (assign s v)) ≡ 1 → ByteMeans b s v (probe_byte b (decide (assign s v))) → ProbeDies b s v
        go is_1 (dies is dead) = dead
        go is_1 (lives is alive) = absurd (omega (arith, is_1, is))

    pub probe_lives : (probe_byte b (decide (assign s v)) ≡ 0) ↔ ProbeLives b s v
    probe_lives =
        (λ is_0. go is_0 byte_means, λ alive. byte_means_unique _ 0 byte_means (lives refl alive))
      where
        go : probe_byte b (decide (assign s v)) ≡ 0 → ByteMeans b s v (probe_byte b (decide (assign s v))) → ProbeLives b s v
        go is_0 (dies is dead) = absurd (omega (arith, is_0, is))
        go is_0 (lives is alive) = alive

  -- ---- plans
  pub probe_no_plan : ProbeDies b s v → (p : List ℕ) → BookPlan b p → PlanMeets p (assign s v ∷ []) → ⊥
  probe_no_plan (none_closed no_table) p plan meets = unclosed_no_plan b no_table p plan
  probe_no_plan (none_stable T loosest unstable) p plan meets = unstable (singles p) (plan_stable plan loosest) (plan_allowed b p plan _ meets)

-- ---- the bytes of a list
module _ (b calls : List ℕ) where
  -- a list with the byte of each call is the list of the bytes
  pub bytes_are : (xs : List ℕ) → length xs ≡ length calls / 4 → ((i : ℕ) → i < length calls / 4 → get_or xs i 0 ≡ probe_byte b (call_at calls i))
      → xs ≡ probe_bytes b calls
  bytes_are xs long each =
      ext_get_or 0 xs (probe_bytes b calls) (long ∙ sym (length_list_of (length calls / 4) _))
      (λ i i<m.
      let inside : i < length calls / 4 = omega (arith, i<m, long) in
      each i inside ∙ sym (get_d_list_of (length calls / 4) _ i 0 inside))

  module _ (i : ℕ) (unrefused : call_fault_at (slots b) (values b) calls i ≡ 0) where
    -- a call that no number refuses is an assign
    pub call_assigns : call_at calls i ≡ decide (assign (call_slot calls i) (call_value calls i))
    unfolding call_of
    call_assigns = rw (unrefused_kind (slots b) (values b) _ _ _ unrefused) refl

    pub call_means : ByteMeans b (call_slot calls i) (call_value calls i) (probe_byte b (call_at calls i))
    call_means =
        rw call_assigns
        (byte_means b (call_slot calls i) (call_value calls i) (unrefused_slot (slots b) (values b) _ _ _ unrefused)
        (unrefused_value (slots b) (values b) _ _ _ unrefused))
