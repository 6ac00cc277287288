-- The loop over the values at eight prefixes. No contract cites this file. `BandInv` is its invariant; `band_start` its start, `band_more` its turn,
-- `band_done` its end. The rooms are those of the table at the start: a store makes them stale, and stale rooms demand no more than the rules.
-- Assumes nothing.
use mathlib.Core.Path.{◌≡◌}
use mathlib.Core.Bool.{◌||◌}
use mathlib.Core.List.{List}
use mathlib.Core.Logic.{dite}
use Prim.Native.Nat.{ℕ, ◌+◌, ◌≤◌, ◌<◌, min}
use native.Mathlib.Decide.{ℕ_discrete}
use native.Mathlib.Nat.{le_refl}
use native.Mathlib.Omega.{arith}
use borrow.Author.Count.{below_more}
use borrow.Author.Tests.{lt-ltb, le-ltb}
use lib.Dec.{ltb}
use lib.ListN.{length}
use Rattle.closing_model.specs.Table.{Table, view, size, place}
use Rattle.closing_model.specs.Sweep.{Crosswise, Ran, Did}
use Rattle.closing_model.proofs.RanLaws.{ran_none, ran_more}
use Rattle.lanes.specs.declared.Eight.{Eight}
use Rattle.lanes.specs.Lanes.{lane, Eightfold, total}
use Rattle.lanes.proofs.LanesLaws.{each, total_none, total_all, parts_none}
use Rattle.bands.specs.Band.{Band, BandFits, Rooms, Narrowed}
use Rattle.bands.proofs.TurnLaws.{turn_ran}

-- the first v values have been gone through, with these rooms
pub record Upto (n k t : ℕ) (above below : Eight) (v : ℕ) (T : Table) : Type 0 where
  pub rooms : Rooms n k t above below T
  pub rules : (w : ℕ) → w < v → (i : ℕ) → i < 8 → Crosswise n k (t + i) w T

pub record BandInv (n k t : ℕ) (above below : Eight) (L₀ U₀ L U : List ℕ) (moved : Eight) (v : ℕ) : Type 0 where
  pub rooms : Rooms n k t above below (view L₀ U₀)
  pub ran : Ran (size n k) (Band n k t) (Upto n k t above below v) L₀ U₀ L U (ltb 0 (total moved))

pub band_start : {n k t : ℕ} {above below : Eight} (L U : List ℕ) (moved : Eight) → Eightfold (λ i. lane moved i ≡ 0) → Rooms n k t above below (view L U)
    → BandInv n k t above below L U L U moved 0
band_start L U moved zeros rooms =
    let none : total moved ≡ 0 = total_all moved (each (λ i. lane moved i ≡ 0) zeros) in
    record {
      rooms = rooms;
      ran = rw (le-ltb 0 (total moved) (omega (arith, none))) (ran_none _ _ _ L U (record { rooms = rooms; rules = λ w w<0. absurd (omega arith) }));
    }

-- the flag of two turns
module _ (a b c : Eight) (summed : Eightfold (λ i. lane c i ≡ min 65535 (lane a i + lane b i))) where
  none_both : total a ≡ 0 → total b ≡ 0 → total c ≡ 0
  none_both a_none b_none =
      total_all c
      (λ i i<8. omega (arith, each (λ j. lane c j ≡ min 65535 (lane a j + lane b j)) summed i i<8, total_none a a_none i i<8, total_none b b_none i i<8))

  some_left : (total a ≡ 0 → ⊥) → 0 < total c
  some_left some =
      dite (ℕ_discrete (total c) 0)
      (λ none. absurd (some (total_all a (λ i i<8. (parts_none a b c summed i i<8 (total_none c none i i<8)).0)))) (λ more. omega arith)

  some_right : (total b ≡ 0 → ⊥) → 0 < total c
  some_right some =
      dite (ℕ_discrete (total c) 0)
      (λ none. absurd (some (total_all b (λ i i<8. (parts_none a b c summed i i<8 (total_none c none i i<8)).1)))) (λ more. omega arith)

  pub flag_sum : ltb 0 (total c) ≡ (ltb 0 (total a) || ltb 0 (total b))
  flag_sum =
      dite (ℕ_discrete (total a) 0)
      (λ a_none.
      dite (ℕ_discrete (total b) 0)
      (λ b_none. rw (le-ltb 0 (total a) (omega arith), le-ltb 0 (total b) (omega arith)) (le-ltb 0 (total c) (omega (arith, none_both a_none b_none))))
      (λ b_some. rw (le-ltb 0 (total a) (omega arith), lt-ltb 0 (total b) (omega arith)) (lt-ltb 0 (total c) (some_right b_some))))
      (λ a_some. rw (lt-ltb 0 (total a) (omega arith)) (lt-ltb 0 (total c) (some_left a_some)))

upto_more : {n k t : ℕ} {above below : Eight} {v : ℕ} {T : Table} → Upto n k t above below v T
    → (Rooms n k t above below T → (i : ℕ) → i < 8 → Crosswise n k (t + i) v T) → Upto n k t above below (v + 1) T
upto_more {n} {k} {t} {T = T} upto rule =
    record { rooms = upto.rooms; rules = below_more (λ w. (i : ℕ) → i < 8 → Crosswise n k (t + i) w T) _ upto.rules (rule upto.rooms) }

pub band_more : {n k t : ℕ} {above below : Eight} {L₀ U₀ L U L' U' : List ℕ} {moved : Eight} {v p : ℕ} (e moved' : Eight)
    → BandInv n k t above below L₀ U₀ L U moved v → v < k → p ≡ place n v t → BandFits n k t L₀ U₀ → Narrowed p above below L U L' U' e
    → Eightfold (λ i. lane moved' i ≡ min 65535 (lane moved i + lane e i)) → BandInv n k t above below L₀ U₀ L' U' moved' (v + 1)
band_more {n} {k} {t} {above} {below} {L₀} {U₀} {L} {U} {L'} {U'} {moved} {v} {p} e moved' inv v<k at fits turn summed =
    let since = (inv.ran.swept (size n k) (le_refl _)).narrows.within in
    let long_l : size n k ≤ length L = omega (arith, inv.ran.size_l, fits.lowers) in
    let long_u : size n k ≤ length U = omega (arith, inv.ran.size_u, fits.uppers) in
    record {
      rooms = inv.rooms;
      ran =
          ran_more inv.ran
          (turn_ran n k t v p above below e L₀ U₀ L U L' U' v<k fits.within at since inv.rooms turn long_l long_u)
          (le_refl _)
          (λ T rules. rules)
          (λ T upto rule. upto_more upto rule)
          (flag_sum moved e moved' summed);
    }

pub band_done : {n k t : ℕ} {above below : Eight} {L₀ U₀ L U : List ℕ} {moved : Eight} {v : ℕ} → k ≤ v → BandInv n k t above below L₀ U₀ L U moved v
    → Did (size n k) (Band n k t) L₀ U₀ L U (ltb 0 (total moved))
band_done k≤v inv =
    record {
      swept = inv.ran.swept;
      size_l = inv.ran.size_l;
      size_u = inv.ran.size_u;
      rules = λ none i i<8 w w<k. (inv.ran.rules none).rules w (omega arith) i i<8;
    }
