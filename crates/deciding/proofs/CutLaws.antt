-- A decision from a stable list, in the words of the machine: Live, the cut masks settle to the masks at exit (`cut_live`), Dead, they do not settle
-- (`cut_dead`). No contract cites this file. Assumes nothing.
use mathlib.Core.Path.{◌≡◌}
use mathlib.Core.Bool.{Bool, true, false}
use mathlib.Core.Logic.{dite}
use mathlib.Core.List.{List}
use mathlib.Core.Option.{none, some}
use Prim.Native.Nat.{ℕ, ◌^◌, ◌<◌}
use native.Mathlib.Decide.{ℕ_discrete}
use native.Mathlib.Omega.{arith}
use lib.ListN.{length, get_or, set, length-set}
use lib.Seq.{get_or-set_same}
use Rattle.domains.specs.Mask.{test_bit}
use Rattle.domains.proofs.MaskLaws.{test_bit_lt}
use Rattle.closing_model.specs.Table.{Table, Closed}
use Rattle.settling_model.specs.Settling.{settling}
use Rattle.settling_model.specs.Stable.{Stable, Unstable, Largest, table_bounds}
use Rattle.settling_model.proofs.SettlingLaws.{largest_settling, unstable_settling}
use Rattle.settling_model.proofs.StableLaws.{empty_broken}
use Rattle.filter_model.specs.Mirror.{Mirror}
use Rattle.filter.specs.Filtered.{Filtered}
use Rattle.outcomes.specs.declared.Outcome.TheVariants.{Live, Dead}
use Rattle.filter.proofs.LargestLaws.{strike_largest, strike_unstable, fix_largest, fix_live_has, fix_unstable}
use Rattle.session_model.specs.Decisions.{keep_only, cut}
use Rattle.acts.specs.Given.{decision_of, CutOf}

-- ---- keep_only
keep_only_has : (m v : ℕ) → test_bit m v ≡ 1 → keep_only m v ≡ 2 ^ v
unfolding keep_only
keep_only_has m v has = rw has (omega arith)

keep_only_lacks : (m v : ℕ) → (test_bit m v ≡ 1 → ⊥) → keep_only m v ≡ 0
unfolding keep_only
keep_only_lacks m v lacks =
    let none : test_bit m v ≡ 0 = omega (arith, test_bit_lt m v, lacks) in
    rw none (omega arith)

-- ---- the two decisions
module _ {n k : ℕ} {M c t M' c' t' : List ℕ} {top h : ℕ} {T : Table} (closed : Closed n k T) (mirror : Mirror n k T M c)
    (stable : Stable (table_bounds n k T) M) (slot v : ℕ) (inside : slot < length M) where
  live_largest : (a : Bool) → Filtered n k (CutOf a slot v) (CutOf a slot v) M c t top M' c' t' (Live h)
      → Largest (table_bounds n k T) (cut (decision_of a slot v) M) M'
  unfolding cut
  live_largest true done =
      let has = fix_live_has mirror slot v inside done in
      rw (keep_only_has (get_or M slot 0) v has) (fix_largest mirror slot v inside has closed stable done)
  live_largest false done = strike_largest mirror slot v inside closed stable done

  dead_unstable : (a : Bool) → Filtered n k (CutOf a slot v) (CutOf a slot v) M c t top M' c' t' (Dead h)
      → Unstable (table_bounds n k T) (cut (decision_of a slot v) M)
  unfolding cut
  dead_unstable true done =
      dite (ℕ_discrete (test_bit (get_or M slot 0) v) 1)
      (λ has. rw (keep_only_has (get_or M slot 0) v has) (fix_unstable mirror slot v inside has done))
      (λ lacks.
      rw (keep_only_lacks (get_or M slot 0) v lacks)
      (empty_broken (table_bounds n k T) (set M slot 0) slot (omega (arith, length-set M slot 0, inside)) (get_or-set_same M slot 0 0 inside)))
  dead_unstable false done = strike_unstable mirror slot v inside done

  pub cut_live : (a : Bool) → Filtered n k (CutOf a slot v) (CutOf a slot v) M c t top M' c' t' (Live h)
      → settling (table_bounds n k T) (cut (decision_of a slot v) M) ≡ some M'
  cut_live a done = largest_settling (table_bounds n k T) (cut (decision_of a slot v) M) M' (live_largest a done)

  pub cut_dead : (a : Bool) → Filtered n k (CutOf a slot v) (CutOf a slot v) M c t top M' c' t' (Dead h)
      → settling (table_bounds n k T) (cut (decision_of a slot v) M) ≡ none
  cut_dead a done = unstable_settling (table_bounds n k T) (cut (decision_of a slot v) M) (dead_unstable a done)
