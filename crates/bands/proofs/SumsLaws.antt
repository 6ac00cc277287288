-- The laws of `SumsUpto` and `Rooms` of `specs/Band.antt`. No contract cites this file. `sums_none`, `sums_more`: start and turn of a loop that sums;
-- `rooms_made`: where the sums are on the right side of the prefixes and fit, their distances are the rooms.
-- Assumes nothing.
use mathlib.Core.Path.{◌≡◌}
use mathlib.Core.List.{List}
use Prim.Native.Nat.{ℕ, ◌+◌, ◌-◌, ◌<◌, min}
use native.Mathlib.Omega.{arith}
use lib.ListN.{get_or}
use Rattle.closing_model.specs.Table.{view, place}
use Rattle.closing_model.specs.Sweep.{column_sum}
use Rattle.closing_model.proofs.SumLaws.{column_sum_none, column_sum_next}
use Rattle.lanes.specs.declared.Eight.{Eight}
use Rattle.lanes.specs.Lanes.{lane, Eightfold, total}
use Rattle.lanes.proofs.LanesLaws.{each, total_none, parts_none}
use Rattle.bands.specs.Band.{SumsUpto, Rooms}

pub sums_none : (n t : ℕ) (l : List ℕ) (e : Eight) → Eightfold (λ i. lane e i ≡ 0) → SumsUpto n t l 0 e
sums_none n t l e zeros i i<8 = omega (arith, each (λ j. lane e j ≡ 0) zeros i i<8, column_sum_none n (t + i) (λ q. get_or l q 0))

pub sums_more : (n t : ℕ) (l : List ℕ) (v : ℕ) (e x e' : Eight) → SumsUpto n t l v e → Eightfold (λ i. lane x i ≡ get_or l (place n v t + i) 0)
    → Eightfold (λ i. lane e' i ≡ min 65535 (lane e i + lane x i)) → SumsUpto n t l (v + 1) e'
sums_more n t l v e x e' so_far loaded summed i i<8 =
    let here : place n v t + i ≡ place n v (t + i) = omega arith in
    let entry : lane x i ≡ get_or l (place n v t + i) 0 = each (λ j. lane x j ≡ get_or l (place n v t + j) 0) loaded i i<8 in
    let entry' : lane x i ≡ get_or l (place n v (t + i)) 0 = rw here at entry in
    let added : lane e' i ≡ min 65535 (lane e i + lane x i) = each (λ j. lane e' j ≡ min 65535 (lane e j + lane x j)) summed i i<8 in
    let before : lane e i ≡ min 65535 (column_sum n v (λ q. get_or l q 0) (t + i)) = so_far i i<8 in
    omega (arith, entry', added, before, column_sum_next n (t + i) (λ q. get_or l q 0) v)

pub rooms_made : (n k t : ℕ) (L U : List ℕ) (ends sl su over under both most wide bad above below : Eight) → t + 7 < 65535
    → Eightfold (λ i. lane ends i ≡ t + i)
    → SumsUpto n t L k sl → SumsUpto n t U k su → Eightfold (λ i. lane over i ≡ lane sl i - lane ends i)
    → Eightfold (λ i. lane under i ≡ lane ends i - lane su i) → Eightfold (λ i. lane both i ≡ min 65535 (lane over i + lane under i))
    → Eightfold (λ i. lane most i ≡ 65534) → Eightfold (λ i. lane wide i ≡ lane su i - lane most i)
    → Eightfold (λ i. lane bad i ≡ min 65535 (lane both i + lane wide i)) → total bad ≡ 0 → Eightfold (λ i. lane above i ≡ lane su i - lane ends i)
    → Eightfold (λ i. lane below i ≡ lane ends i - lane sl i) → Rooms n k t above below (view L U)
rooms_made n k t L U ends sl su over under both most wide bad above below t_fits ends_are lowers uppers overs unders boths mosts wides bads none aboves belows =
    record {
      uppers = λ i i<8.
          let sum : lane su i ≡ min 65535 (column_sum n k (λ q. get_or U q 0) (t + i)) = uppers i i<8 in
          let end : lane ends i ≡ t + i = each (λ j. lane ends j ≡ t + j) ends_are i i<8 in
          let short : lane under i ≡ lane ends i - lane su i = each (λ j. lane under j ≡ lane ends j - lane su j) unders i i<8 in
          let cap : lane most i ≡ 65534 = each (λ j. lane most j ≡ 65534) mosts i i<8 in
          let far : lane wide i ≡ lane su i - lane most i = each (λ j. lane wide j ≡ lane su j - lane most j) wides i i<8 in
          let room : lane above i ≡ lane su i - lane ends i = each (λ j. lane above j ≡ lane su j - lane ends j) aboves i i<8 in
          omega (arith, sum, end, short, cap, far, room, (sides_none i i<8).1, wide_none i i<8);
      lowers = λ i i<8.
          let sum : lane sl i ≡ min 65535 (column_sum n k (λ q. get_or L q 0) (t + i)) = lowers i i<8 in
          let end : lane ends i ≡ t + i = each (λ j. lane ends j ≡ t + j) ends_are i i<8 in
          let long : lane over i ≡ lane sl i - lane ends i = each (λ j. lane over j ≡ lane sl j - lane ends j) overs i i<8 in
          let room : lane below i ≡ lane ends i - lane sl i = each (λ j. lane below j ≡ lane ends j - lane sl j) belows i i<8 in
          omega (arith, sum, end, long, room, (sides_none i i<8).0);
    }
  where
    sides_none : (i : ℕ) → i < 8 → (lane over i ≡ 0) × (lane under i ≡ 0)
    sides_none i i<8 = parts_none over under both boths i i<8 (parts_none both wide bad bads i i<8 (total_none bad none i i<8)).0

    wide_none : (i : ℕ) → i < 8 → lane wide i ≡ 0
    wide_none i i<8 = (parts_none both wide bad bads i i<8 (total_none bad none i i<8)).1
