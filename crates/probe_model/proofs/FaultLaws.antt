-- The laws of `call_fault`, `probe_fault` and `probe` of `specs/Probe.antt`: which test decides which number, what an accepted list has, and the answer by cases
-- (`probe_refused`, `probe_good_lem`). No contract cites this file. Assumes nothing.
use mathlib.Core.Path.{◌≡◌, refl, sym, ap, ◌∙◌}
use mathlib.Core.Bool.{Bool, true, false, not, ◌||◌}
use mathlib.Core.List.{List}
use Prim.Native.Nat.{ℕ, zero, suc, ◌+◌, ◌/◌, ◌%◌, ◌≤◌, ◌<◌}
use borrow.Author.Tests.{eq-eqb, ne_eqb, lt-ltb, le-ltb, ltb-false, leb-false, le-leb, lt-leb, eqb-true, not-false}
use lib.Dec.{eqb, ltb, leb, lit<}
use lib.ListN.{length}
use Rattle.book.specs.declared.Limits.{Limits}
use Rattle.book.specs.Layout.{slots, values}
use Rattle.book.specs.Refusal.{fault, ◌or_else◌, first_of, refusal}
use Rattle.book.specs.GoodFacts.{GoodFacts}
use Rattle.book.proofs.BookLaws.{good_facts}
use Rattle.book.proofs.RefusalLaws.{fault_none, or_else_none, or_else_some, none_of_or_else, first_none}
use Rattle.session_fault.specs.Entry.{bad_calls}
use Rattle.probe_model.specs.Probe.{call_fault, call_fault_at, probe_fault, probe_good, unless_refused, probe, Probes, ProbesGood}

-- ---- call_fault
module _ (n k kind v slot : ℕ) where
  pub call_fault_kind : (kind ≡ 1 → ⊥) → 11 ≡ call_fault n k kind v slot
  unfolding call_fault
  call_fault_kind other = rw (ne_eqb kind 1 other) refl

  module _ (assigns : kind ≡ 1) where
    pub call_fault_slot : n ≤ slot → 12 ≡ call_fault n k kind v slot
    unfolding call_fault
    call_fault_slot out = rw (eq-eqb kind 1 assigns, le-leb n slot out) refl

    pub call_fault_value : slot < n → k ≤ v → 13 ≡ call_fault n k kind v slot
    unfolding call_fault
    call_fault_value inside out = rw (eq-eqb kind 1 assigns, lt-leb n slot inside, le-leb k v out) refl

    pub call_fault_none : slot < n → v < k → 0 ≡ call_fault n k kind v slot
    unfolding call_fault
    call_fault_none inside below = rw (eq-eqb kind 1 assigns, lt-leb n slot inside, lt-leb k v below) refl

  module _ (unrefused : call_fault n k kind v slot ≡ 0) where
    parts : (fault 11 (not (eqb kind 1)) ≡ 0) × (fault 12 (leb n slot) or_else fault 13 (leb k v) ≡ 0)
    unfolding call_fault
    parts = none_of_or_else (fault 11 (not (eqb kind 1))) (fault 12 (leb n slot) or_else fault 13 (leb k v)) unrefused

    pub unrefused_kind : kind ≡ 1
    unrefused_kind = eqb-true kind 1 (not-false _ (fault_none 11 (not (eqb kind 1)) (lit< tt) parts.0))

    range_none : (fault 12 (leb n slot) ≡ 0) × (fault 13 (leb k v) ≡ 0)
    range_none = none_of_or_else (fault 12 (leb n slot)) (fault 13 (leb k v)) parts.1

    pub unrefused_slot : slot < n
    unrefused_slot = leb-false n slot (fault_none 12 (leb n slot) (lit< tt) range_none.0)

    pub unrefused_value : v < k
    unrefused_value = leb-false k v (fault_none 13 (leb k v) (lit< tt) range_none.1)

-- ---- probe_fault
or_second : (a b : Bool) → b ≡ true → a || b ≡ true
or_second true b is = refl
or_second false b is = is

module _ (limits : Limits) (b calls : List ℕ) (room : ℕ) where
  abbrev pub call_faults : ℕ
  call_faults = first_of (length calls / 4) (call_fault_at (slots b) (values b) calls)

  pub probe_fault_book : (refusal limits b ≡ 0 → ⊥) → probe_fault limits b calls room ≡ refusal limits b
  unfolding probe_fault
  probe_fault_book refusing = or_else_some (refusal limits b) _ refusing

  module _ (accepted : refusal limits b ≡ 0) where
    fault_list : bad_calls (length calls) ≡ true → probe_fault limits b calls room ≡ 10
    unfolding probe_fault
    fault_list bad = or_else_none (refusal limits b) _ accepted ∙ rw bad refl

    pub probe_fault_parts : (length calls % 4 ≡ 0 → ⊥) → probe_fault limits b calls room ≡ 10
    probe_fault_parts part = fault_list (rw (ne_eqb (length calls % 4) 0 part) refl)

    pub probe_fault_long : 16384 < length calls → probe_fault limits b calls room ≡ 10
    probe_fault_long long = fault_list (or_second (not (eqb (length calls % 4) 0)) _ (lt-ltb 16384 (length calls) long))

    module _ (whole : length calls % 4 ≡ 0) (short : length calls ≤ 16384) where
      after_list : probe_fault limits b calls room ≡ call_faults or_else fault 9 (ltb room (length calls / 4))
      unfolding probe_fault
      after_list =
          or_else_none (refusal limits b) _ accepted ∙ rw (eq-eqb (length calls % 4) 0 whole, le-ltb 16384 (length calls) short) refl

      pub probe_fault_call : (call_faults ≡ 0 → ⊥) → probe_fault limits b calls room ≡ call_faults
      probe_fault_call refusing = after_list ∙ or_else_some call_faults _ refusing

      pub probe_fault_room : call_faults ≡ 0 → room < length calls / 4 → probe_fault limits b calls room ≡ 9
      probe_fault_room none few = after_list ∙ or_else_none call_faults _ none ∙ rw (lt-ltb room (length calls / 4) few) refl

      pub probe_fault_none : call_faults ≡ 0 → length calls / 4 ≤ room → probe_fault limits b calls room ≡ 0
      probe_fault_none none enough = after_list ∙ or_else_none call_faults _ none ∙ rw (le-ltb room (length calls / 4) enough) refl

  module _ (unrefused : probe_fault limits b calls room ≡ 0) where
    pub probe_fault_good : GoodFacts limits b
    unfolding probe_fault
    probe_fault_good = good_facts limits b (none_of_or_else (refusal limits b) _ unrefused).0

    rest_none : (call_faults ≡ 0) × (fault 9 (ltb room (length calls / 4)) ≡ 0)
    unfolding probe_fault
    rest_none = none_of_or_else call_faults _ (none_of_or_else (fault 10 (bad_calls (length calls))) _ (none_of_or_else (refusal limits b) _ unrefused).1).1

    pub probe_fault_each : (i : ℕ) → i < length calls / 4 → call_fault_at (slots b) (values b) calls i ≡ 0
    probe_fault_each = first_none (length calls / 4) (call_fault_at (slots b) (values b) calls) rest_none.0

    pub probe_fault_enough : length calls / 4 ≤ room
    probe_fault_enough = ltb-false room (length calls / 4) (fault_none 9 _ (lit< tt) rest_none.1)

-- ---- probe
unless_some : (x : ℕ) (D : List ℕ) (good : ℕ × List ℕ) → (x ≡ 0 → ⊥) → unless_refused x D good ≡ (256 + x, D)
unless_some zero D good refusing = absurd (refusing refl)
unless_some (suc x) D good refusing = refl

module _ (limits : Limits) (b calls D : List ℕ) where
  -- refused: the output comes back as it was
  pub probe_refused : (x : ℕ) → x ≡ probe_fault limits b calls (length D) → (x ≡ 0 → ⊥) → Probes limits b calls D (256 + x) D
  unfolding probe
  probe_refused x is_fault refusing = rw (sym is_fault) (sym (unless_some x D (probe_good b calls D) refusing))

  pub probe_good_lem : {r : ℕ} {D' : List ℕ} → probe_fault limits b calls (length D) ≡ 0 → ProbesGood b calls D r D' → Probes limits b calls D r D'
  unfolding probe
  probe_good_lem unrefused good = good ∙ sym (ap (λ (x : ℕ). unless_refused x D (probe_good b calls D)) unrefused)
