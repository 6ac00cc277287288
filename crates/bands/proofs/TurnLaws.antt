-- One value's turn at eight prefixes: the laws of `Narrowed` of `specs/Band.antt`. No contract cites this file. `narrowed_made`: what the code of `narrow`
-- did; `turn_ran`: it lost no table with the rules, and where nothing was stored, the rules hold at this value.
-- Assumes nothing.
use mathlib.Core.Path.{◌≡◌, subst}
use mathlib.Core.List.{List, [], ◌∷◌}
use mathlib.Core.Logic.{dite}
use Prim.Native.Nat.{ℕ, zero, suc, ◌+◌, ◌-◌, ◌≤◌, ◌<◌, min}
use native.Mathlib.Decide.{dec_lt}
use native.Mathlib.Nat.{le_refl}
use native.Mathlib.Omega.{arith}
use borrow.Author.Tests.{ltb-true, ltb-false}
use lib.Dec.{ltb}
use lib.ListN.{length, get_or}
use lib.Seq.{sets, length-sets, ext_get_or}
use Rattle.closing_model.specs.Table.{Table, view, size, place, Within}
use Rattle.closing_model.specs.Sweep.{column_sum, Crosswise, weigh, slack, Swept, Ran}
use Rattle.closing_model.proofs.PlaceLaws.{place_below}
use Rattle.closing_model.proofs.SumLaws.{column_sum_part}
use Rattle.closing_model.proofs.TableLaws.{within_trans, within_fewer}
use Rattle.closing_model.proofs.AcrossLaws.{lower_demand, upper_demand}
use Rattle.closing_model.proofs.RanLaws.{ran_of}
use Rattle.lanes.specs.declared.Eight.{Eight}
use Rattle.lanes.specs.Lanes.{lanes, lane, Eightfold, total}
use Rattle.lanes.proofs.LanesLaws.{each, total_none, total_all, sets_before, sets_here, sets_behind}
use Rattle.bands.specs.Band.{Band, Rooms, Narrowed, excess}

-- ---- Narrowed
pub narrowed_made : (p : ℕ) (L U L' U' : List ℕ) (above below a b gap low high x y e : Eight) → p + 7 < length L → p + 7 < length U
    → Eightfold (λ i. lane a i ≡ get_or L (p + i) 0) → Eightfold (λ i. lane b i ≡ get_or U (p + i) 0) → Eightfold (λ i. lane gap i ≡ lane b i - lane a i)
    → Eightfold (λ i. (lane low i ≡ lane a i + (lane b i - lane a i - lane above i)) × (lane low i < 65536)) → L' ≡ sets L p (lanes low)
    → Eightfold (λ i. lane high i ≡ lane b i - (lane b i - lane a i - lane below i)) → U' ≡ sets U p (lanes high)
    → Eightfold (λ i. lane x i ≡ lane gap i - lane above i) → Eightfold (λ i. lane y i ≡ lane gap i - lane below i)
    → Eightfold (λ i. lane e i ≡ min 65535 (lane x i + lane y i)) → Narrowed p above below L U L' U' e
narrowed_made p L U L' U' above below a b gap low high x y e room_l room_u lowers uppers gaps lows L'_is highs U'_is xs ys es =
    record {
      size_l = rw L'_is (length-sets L p (lanes low));
      size_u = rw U'_is (length-sets U p (lanes high));
      lowers = λ i i<8.
          omega (
            arith,
            lower_here i i<8,
            (each (λ j. (lane low j ≡ lane a j + (lane b j - lane a j - lane above j)) × (lane low j < 65536)) lows i i<8).0,
            a_is i i<8,
            b_is i i<8,
          );
      fits = λ i i<8.
          omega (arith, lower_here i i<8, (each (λ j. (lane low j ≡ lane a j + (lane b j - lane a j - lane above j)) × (lane low j < 65536)) lows i i<8).1);
      uppers = λ i i<8.
          omega (arith, upper_here i i<8, each (λ j. lane high j ≡ lane b j - (lane b j - lane a j - lane below j)) highs i i<8, a_is i i<8, b_is i i<8);
      before = λ q q<p. (rw L'_is (sets_before (lanes low) L p q q<p), rw U'_is (sets_before (lanes high) U p q q<p));
      behind = λ q q≥p. (rw L'_is (sets_behind (lanes low) L p q q≥p), rw U'_is (sets_behind (lanes high) U p q q≥p));
      excesses = λ i i<8.
          let both : lane e i ≡ min 65535 (lane x i + lane y i) = each (λ j. lane e j ≡ min 65535 (lane x j + lane y j)) es i i<8 in
          let first : lane x i ≡ lane gap i - lane above i = each (λ j. lane x j ≡ lane gap j - lane above j) xs i i<8 in
          let second : lane y i ≡ lane gap i - lane below i = each (λ j. lane y j ≡ lane gap j - lane below j) ys i i<8 in
          let wide : lane gap i ≡ lane b i - lane a i = each (λ j. lane gap j ≡ lane b j - lane a j) gaps i i<8 in
          rw (both, first, second, wide, a_is i i<8, b_is i i<8);
    }
  where
    a_is : (i : ℕ) → i < 8 → lane a i ≡ get_or L (p + i) 0
    a_is = each (λ i. lane a i ≡ get_or L (p + i) 0) lowers

    b_is : (i : ℕ) → i < 8 → lane b i ≡ get_or U (p + i) 0
    b_is = each (λ i. lane b i ≡ get_or U (p + i) 0) uppers

    lower_here : (i : ℕ) → i < 8 → get_or L' (p + i) 0 ≡ lane low i
    lower_here i i<8 = rw L'_is (sets_here (lanes low) L p i i<8 (omega arith))

    upper_here : (i : ℕ) → i < 8 → get_or U' (p + i) 0 ≡ lane high i
    upper_here i i<8 = rw U'_is (sets_here (lanes high) U p i i<8 (omega arith))

-- ---- weigh
module _ (f : ℕ → ℕ) where
  weigh_le : (l l' : List ℕ) → length l' ≡ length l → ((q : ℕ) → f (get_or l' q 0) ≤ f (get_or l q 0)) → weigh f l' ≤ weigh f l
  unfolding weigh
  weigh_le [] [] same_size no_more = le_refl _
  weigh_le [] (y ∷ l') same_size no_more = absurd (omega arith)
  weigh_le (x ∷ l) [] same_size no_more = absurd (omega arith)
  weigh_le (x ∷ l) (y ∷ l') same_size no_more = omega (arith, no_more 0, weigh_le l l' (omega arith) (λ q. no_more (suc q)))

  weigh_tight : (l l' : List ℕ) → length l' ≡ length l → ((q : ℕ) → f (get_or l' q 0) ≤ f (get_or l q 0)) → weigh f l ≤ weigh f l' → (q : ℕ) → q < length l
      → f (get_or l q 0) ≤ f (get_or l' q 0)
  unfolding weigh
  weigh_tight [] l' same_size no_more tight q q<0 = absurd (omega arith)
  weigh_tight (x ∷ l) [] same_size no_more tight q inside = absurd (omega arith)
  weigh_tight (x ∷ l) (y ∷ l') same_size no_more tight zero inside = omega (arith, weigh_le l l' (omega arith) (λ q. no_more (suc q)))
  weigh_tight (x ∷ l) (y ∷ l') same_size no_more tight (suc q) inside =
      weigh_tight l l' (omega arith) (λ j. no_more (suc j)) (omega (arith, no_more 0)) q (omega arith)

-- ---- a turn
raised_none : (a b x : ℕ) → 65536 - a ≤ 65536 - b → b ≡ a + x → b < 65536 → x ≡ 0
raised_none a b x tight b_is fits = omega arith

lowered_none : (a b x : ℕ) → a ≤ b → b ≡ a - x → x ≤ a → x ≡ 0
lowered_none a b x tight b_is x≤a = omega arith

excess_le : (a b room : ℕ) → b - a - room ≤ b
excess_le a b room = omega arith

over_none : (e x y : ℕ) → e ≡ min 65535 (x + y) → x ≡ 0 → y ≡ 0 → e ≡ 0
over_none e x y e_is first second = omega arith

-- what holds before the eight places, at them and behind them holds everywhere
everywhere : (C : ℕ → Type 0) (p : ℕ) → ((q : ℕ) → q < p → C q) → ((i : ℕ) → i < 8 → C (p + i)) → ((q : ℕ) → p + 8 ≤ q → C q) → (q : ℕ) → C q
everywhere C p before here behind q =
    dite (dec_lt q p) (before q)
    (λ q≥p. dite (dec_lt q (p + 8)) (λ q<p+8. let at : p + (q - p) ≡ q = omega arith in subst C at (here (q - p) (omega arith)))
    (λ q≥p+8. behind q (omega arith)))

module _ (n k t v p : ℕ) (above below e : Eight) (L₀ U₀ L U L' U' : List ℕ) (v<k : v < k) (t+7≤n : t + 7 ≤ n) (p_is : p ≡ place n v t)
    (since : Within (size n k) (view L₀ U₀) (view L U)) (rooms : Rooms n k t above below (view L₀ U₀)) (turn : Narrowed p above below L U L' U' e) where
  at_place : (i : ℕ) → p + i ≡ place n v (t + i)
  at_place i = omega (arith, p_is)

  inside : (i : ℕ) → i < 8 → p + i < size n k
  inside i i<8 = rw (at_place i) (place_below n k v (t + i) v<k (omega arith))

  lower_kept : (T : Table) → Band n k t T → Within (size n k) (view L₀ U₀) T → (i : ℕ) → i < 8 → get_or L (p + i) 0 ≤ T.lower (p + i)
      → get_or L (p + i) 0 + excess L U (p + i) (lane above i) ≤ T.lower (p + i)
  lower_kept T rules within i i<8 =
      let q = place n v (t + i) in
      let was : get_or U q 0 ≤ get_or U₀ q 0 = since.uppers q (place_below n k v (t + i) v<k (omega arith)) in
      let demand = lower_demand n k (t + i) v v<k (omega arith) (view L₀ U₀) T (rules i i<8) within (get_or U q 0) was in
      let part : get_or U₀ q 0 ≤ column_sum n k (λ j. get_or U₀ j 0) (t + i) = column_sum_part n (t + i) (λ j. get_or U₀ j 0) k v v<k in
      let sum : column_sum n k (λ j. get_or U₀ j 0) (t + i) ≡ t + i + lane above i = rooms.uppers i i<8 in
      rw (at_place i) (λ a≤lower. omega (arith, demand, was, part, sum))

  upper_kept : (T : Table) → Band n k t T → Within (size n k) (view L₀ U₀) T → (i : ℕ) → i < 8 → T.upper (p + i) ≤ get_or U (p + i) 0
      → T.upper (p + i) ≤ get_or U (p + i) 0 - excess L U (p + i) (lane below i)
  upper_kept T rules within i i<8 =
      let q = place n v (t + i) in
      let was : get_or L₀ q 0 ≤ get_or L q 0 = since.lowers q (place_below n k v (t + i) v<k (omega arith)) in
      let demand : T.upper q + column_sum n k (λ j. get_or L₀ j 0) (t + i) ≤ t + i + get_or L₀ q 0 =
      upper_demand n k (t + i) v v<k (omega arith) (view L₀ U₀) T (rules i i<8) within in
      let sum : column_sum n k (λ j. get_or L₀ j 0) (t + i) + lane below i ≡ t + i = rooms.lowers i i<8 in
      rw (at_place i) (λ upper≤b. omega (arith, demand, was, sum))

  lowers_rise : (q : ℕ) → get_or L q 0 ≤ get_or L' q 0
  lowers_rise =
      everywhere (λ q. get_or L q 0 ≤ get_or L' q 0) p (λ q q<p. omega (arith, (turn.before q q<p).0)) (λ i i<8. omega (arith, turn.lowers i i<8))
      (λ q q≥p. omega (arith, (turn.behind q q≥p).0))

  uppers_fall : (q : ℕ) → get_or U' q 0 ≤ get_or U q 0
  uppers_fall =
      everywhere (λ q. get_or U' q 0 ≤ get_or U q 0) p (λ q q<p. omega (arith, (turn.before q q<p).1)) (λ i i<8. omega (arith, turn.uppers i i<8))
      (λ q q≥p. omega (arith, (turn.behind q q≥p).1))

  -- no gap was too wide
  nothing : total e ≡ 0 → (i : ℕ) → i < 8 → (excess L U (p + i) (lane above i) ≡ 0) × (excess L U (p + i) (lane below i) ≡ 0)
  nothing none i i<8 =
      let Each_none = total_none e none i i<8 in
      let over : lane e i ≡ min 65535 (excess L U (p + i) (lane above i) + excess L U (p + i) (lane below i)) = turn.excesses i i<8 in
      (omega (arith, Each_none, over), omega (arith, Each_none, over))

  unmoved : total e ≡ 0 → (q : ℕ) → (get_or L' q 0 ≡ get_or L q 0) × (get_or U' q 0 ≡ get_or U q 0)
  unmoved none =
      everywhere (λ q. (get_or L' q 0 ≡ get_or L q 0) × (get_or U' q 0 ≡ get_or U q 0)) p turn.before
      (λ i i<8. (omega (arith, turn.lowers i i<8, (nothing none i i<8).0), omega (arith, turn.uppers i i<8, (nothing none i i<8).1))) turn.behind

  lighter : weigh (λ x. 65536 - x) L' ≤ weigh (λ x. 65536 - x) L
  lighter = weigh_le (λ x. 65536 - x) L L' turn.size_l (λ q. omega (arith, lowers_rise q))

  lower_weight : weigh (λ x. x) U' ≤ weigh (λ x. x) U
  lower_weight = weigh_le (λ x. x) U U' turn.size_u uppers_fall

  -- where what is left to fall stays, no gap was too wide
  moved_none : size n k ≤ length L → size n k ≤ length U → slack L U ≤ slack L' U' → total e ≡ 0
  moved_none long_l long_u tight =
      total_all e
      (λ i i<8.
      let lower =
      weigh_tight (λ x. 65536 - x) L L' turn.size_l (λ q. omega (arith, lowers_rise q)) (omega (arith, lighter, lower_weight))
      (p + i) (omega (arith, inside i i<8)) in
      let upper = weigh_tight (λ x. x) U U' turn.size_u uppers_fall (omega (arith, lighter, lower_weight)) (p + i) (omega (arith, inside i i<8)) in
      let low : get_or L' (p + i) 0 ≡ get_or L (p + i) 0 + excess L U (p + i) (lane above i) = turn.lowers i i<8 in
      let high : get_or U' (p + i) 0 ≡ get_or U (p + i) 0 - excess L U (p + i) (lane below i) = turn.uppers i i<8 in
      let over : lane e i ≡ min 65535 (excess L U (p + i) (lane above i) + excess L U (p + i) (lane below i)) = turn.excesses i i<8 in
      let first = raised_none (get_or L (p + i) 0) (get_or L' (p + i) 0) (excess L U (p + i) (lane above i)) lower low (turn.fits i i<8) in
      let second =
      lowered_none (get_or U (p + i) 0) (get_or U' (p + i) 0) (excess L U (p + i) (lane below i)) upper high
      (excess_le (get_or L (p + i) 0) (get_or U (p + i) 0) (lane below i)) in
      over_none (lane e i) (excess L U (p + i) (lane above i)) (excess L U (p + i) (lane below i)) over first second)

  swept : size n k ≤ length L → size n k ≤ length U → (m : ℕ) → size n k ≤ m → Swept m (Band n k t) L U L' U' (ltb 0 (total e))
  swept long_l long_u m edge≤m =
      record {
        narrows =
            record {
              within = record { lowers = λ q q<m. lowers_rise q; uppers = λ q q<m. uppers_fall q };
              keeps = λ T rules within.
                  let around = within_trans since (within_fewer edge≤m within) in
                  record {
                    lowers =
                        everywhere (λ q. q < m → get_or L' q 0 ≤ T.lower q) p (λ q q<p q<m. rw (turn.before q q<p).0 (within.lowers q q<m))
                        (λ i i<8 q<m. rw (turn.lowers i i<8) (lower_kept T rules around i i<8 (within.lowers (p + i) q<m)))
                        (λ q q≥p q<m. rw (turn.behind q q≥p).0 (within.lowers q q<m));
                    uppers =
                        everywhere (λ q. q < m → T.upper q ≤ get_or U' q 0) p (λ q q<p q<m. rw (turn.before q q<p).1 (within.uppers q q<m))
                        (λ i i<8 q<m. rw (turn.uppers i i<8) (upper_kept T rules around i i<8 (within.uppers (p + i) q<m)))
                        (λ q q≥p q<m. rw (turn.behind q q≥p).1 (within.uppers q q<m));
                  };
            };
        size_l = turn.size_l;
        size_u = turn.size_u;
        less = omega (arith, lighter, lower_weight);
        moved = λ stored.
            dite (dec_lt (slack L' U') (slack L U)) (λ falls. falls)
            (λ stays. absurd (omega (arith, ltb-true 0 (total e) stored, moved_none long_l long_u (omega arith))));
        still = λ none.
            let empty : total e ≡ 0 = omega (arith, ltb-false 0 (total e) none) in
            (ext_get_or 0 L' L turn.size_l (λ q q<. (unmoved empty q).0), ext_get_or 0 U' U turn.size_u (λ q q<. (unmoved empty q).1));
      }

  pub turn_ran : size n k ≤ length L → size n k ≤ length U
      → Ran (size n k) (Band n k t) (λ T. Rooms n k t above below T → (i : ℕ) → i < 8 → Crosswise n k (t + i) v T) L U L' U' (ltb 0 (total e))
  turn_ran long_l long_u =
      ran_of (swept long_l long_u)
      (λ none here i i<8.
      let empty : total e ≡ 0 = omega (arith, ltb-false 0 (total e) none) in
      let low : get_or L' (p + i) 0 ≡ get_or L (p + i) 0 = (unmoved empty (p + i)).0 in
      let high : get_or U' (p + i) 0 ≡ get_or U (p + i) 0 = (unmoved empty (p + i)).1 in
      let upper_sum : column_sum n k (λ j. get_or U' j 0) (t + i) ≡ t + i + lane above i = here.uppers i i<8 in
      let lower_sum : column_sum n k (λ j. get_or L' j 0) (t + i) + lane below i ≡ t + i = here.lowers i i<8 in
      let lower_rule : t + i + get_or U' (p + i) 0 ≤ get_or L' (p + i) 0 + column_sum n k (λ j. get_or U' j 0) (t + i) =
      omega (arith, low, high, upper_sum, (nothing empty i i<8).0) in
      let upper_rule : get_or U' (p + i) 0 + column_sum n k (λ j. get_or L' j 0) (t + i) ≤ t + i + get_or L' (p + i) 0 =
      omega (arith, low, high, lower_sum, (nothing empty i i<8).1) in
      record { lower = rw (at_place i) at lower_rule; upper = rw (at_place i) at upper_rule })
