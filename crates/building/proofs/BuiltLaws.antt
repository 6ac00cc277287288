-- The laws of `Built` of specs/Built.antt: the start of `fill` (`done_first`), one turn of it (`turn_broken`, `turn_onward`,
-- and `done_back`: the corners after the one that is found next are done) and its answers (`built_broken`, `built_all`), which hold for each line
-- with these rises as they do for `line_of` (`rising_line`). No contract cites this file. Assumes nothing.
use mathlib.Core.Path.{◌≡◌, sym, ◌∙◌, subst}
use mathlib.Core.Bool.{Bool, true, false, cond}
use mathlib.Core.List.{List}
use Prim.Native.Nat.{ℕ, zero, suc, ◌+◌, ◌-◌, ◌≤◌, ◌<◌}
use native.Mathlib.Nat.{add-zero}
use native.Mathlib.Omega.{arith}
use lib.ListN.{length, get_or}
use Rattle.segments_model.specs.Build.{Inserted, Done, Counts}
use Rattle.segments_model.specs.Links.{Fresh}
use Rattle.segments_model.specs.Lines.{line_of, corner_of, gain, loss, reserve, with_end, with_reserve, row_corners, BrokenAt}
use Rattle.segments_model.proofs.BuildLaws.{done_skip, done_end, broken_inner, segments_done}
use Rattle.segments_model.proofs.CountsLaws.{gain_is, loss_is}
use Rattle.segments_model.proofs.EndLaws.{with_end_inner, with_reserve_inner}
use Rattle.segments_model.proofs.LinesLaws.{rising_line, line_bound}
use Rattle.segments_model.proofs.SlackLaws.{segments_same, broken_same}
use Rattle.corners.specs.Turn.{PreviousCorner}
use Rattle.std.proofs.Common.{Option, Some, None}
use Rattle.inserting.specs.Visit.{VisitAnswer, Visit}
use Rattle.building.specs.Built.{DoneAfter, Built}

-- ---- one turn of `fill`, on the line that the rises give

abbrev TurnAnswer : Bool → ℕ → List ℕ → List ℕ → ℕ → ℕ → List ℕ → Option ℕ → Type 0
TurnAnswer kind n rises M v t cells' s =
    VisitAnswer (n + 1) (row_corners kind n (line_of rises v)) (with_reserve n (reserve kind M v n) (gain kind (line_of rises v) M v))
    (with_reserve n 0 (loss kind (line_of rises v) M v)) t cells' s

-- the right end at n + 1 is put in: x is its slack, by the count at n
reserve_is : (kind : Bool) {rises M : List ℕ} {v n r k x : ℕ} → Counts kind rises M v n r k
    → x ≡ cond kind (n + 2 + k) (n + 2 + (n - k)) → x ≡ reserve kind M v n
reserve_is true counts x_is = omega (arith, x_is, counts.counted_is)
reserve_is false counts x_is = omega (arith, x_is, counts.counted_is)

pub done_first : {kind : Bool} {rises M : List ℕ} {v n r k x : ℕ} → Counts kind rises M v n r k → x ≡ cond kind (n + 2 + k) (n + 2 + (n - k))
    → (l l' : List ℕ) (past q : ℕ) → past ≡ n + 2 → n + 1 < length l → get_or l 0 0 ≡ 0 → Fresh (n + 1) l → Inserted (n + 1) (n + 1) x past l l' q
    → DoneAfter kind n rises M v n l' q
done_first {kind} {rises} {M} {v} {n} counts x_is l l' past q past_is n<len none fresh inserted =
    let line = line_of rises v in
    let e = reserve_is kind counts x_is in
    done_end n (corner_of kind n line) (gain kind line M v) (loss kind line M v) (reserve kind M v n) l l' past q past_is n<len none fresh
    (rw e at inserted)

module _ (n : ℕ) {kind : Bool} {rises M : List ℕ} {v t r k : ℕ} (counts : Counts kind rises M v t r k)
    (l l' : List ℕ) (next : ℕ) (done : DoneAfter kind n rises M v t l next)
    {corner : Bool} (corner_is : corner ≡ corner_of kind n (line_of rises v) t)
    {gained lost : ℕ} (gained_is : gained ≡ cond kind k r) (lost_is : lost ≡ cond kind r k)
    {s : Option ℕ} (visit : Visit (n + 1) t corner gained lost next l l' s) (t≤n : t ≤ n) where
  turn_answer : TurnAnswer kind n rises M v t l' s
  turn_answer =
      visit.answer _ _ _ (with_end_inner n _ t t≤n ∙ sym corner_is) (with_reserve_inner n _ _ t t≤n ∙ sym (gained_is ∙ gain_is counts))
      (with_reserve_inner n _ _ t t≤n ∙ sym (lost_is ∙ loss_is counts)) done

  pub turn_broken : s ≡ None → BrokenAt kind n (line_of rises v) M v t
  turn_broken e =
      let line = line_of rises v in
      broken_inner n (corner_of kind n line) (gain kind line M v) (loss kind line M v) (reserve kind M v n) t t≤n
      (subst (TurnAnswer kind n rises M v t l') e turn_answer)

  pub turn_onward : {first : ℕ} → s ≡ Some first → DoneAfter kind n rises M v (t - 1) l' first
  turn_onward e = subst (TurnAnswer kind n rises M v t l') e turn_answer

-- ---- the corners after the one found are done

done_down : {n : ℕ} {C : ℕ → Bool} {g h : ℕ → ℕ} {l : List ℕ} {q : ℕ} (s d : ℕ) → Done n C g h (s + d) l q
    → ((i : ℕ) → s < i → i ≤ s + d → C i ≡ false) → Done n C g h s l q
done_down s zero done flat = rw (add-zero s) at done
done_down s (suc d) done flat =
    let back : s + suc d - 1 ≡ s + d = omega arith in
    done_down s d (rw back at (done_skip done (omega arith) (flat (s + suc d) (omega arith) (omega arith)))) (λ i s<i i≤. flat i s<i (omega arith))

pub done_back : {N n : ℕ} {C : ℕ → Bool} {g h : ℕ → ℕ} {l : List ℕ} {q t s : ℕ} → t ≤ n → Done N (with_end n C) g h (t - 1) l q
    → PreviousCorner C t s → Done N (with_end n C) g h s l q
done_back {n = n} {C = C} {t = t} {s = s} t≤n done found =
    let split : t - 1 ≡ s + (t - 1 - s) = omega (arith, found.before) in
    done_down s (t - 1 - s) (rw split at done)
    (λ i s<i i≤. with_end_inner n C i (omega (arith, found.before)) ∙ found.none i s<i (omega (arith, found.before)))

-- ---- Built

module _ (kind : Bool) (n v : ℕ) (rises M l l' : List ℕ) (size : length l' ≡ length l) where
  pub built_broken : (t : ℕ) → BrokenAt kind n (line_of rises v) M v t → Built kind n v rises M l l' false
  built_broken t broken = record { size = size; answer = λ u rising. (t, broken_same kind (rising_line rising) M v t broken) }

  pub built_all : (t next : ℕ) → t ≡ 0 → DoneAfter kind n rises M v t l' next → Built kind n v rises M l l' true
  built_all t next e done =
      let all : DoneAfter kind n rises M v 0 l' next = rw e at done in
      let line = segments_done all (λ w w≤n. omega (arith, line_bound rises v w)) in
      record { size = size; answer = λ u rising. segments_same kind (rising_line rising) M v line }
