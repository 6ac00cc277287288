-- Adequacy of `settling` of `specs/Settling.antt`, for every list of bounds and masks: `settling_largest` and `largest_settling` (the answer
-- is N exactly where N is the largest stable list within the masks), `settling_unstable` and `unstable_settling` (the answer is none
-- exactly where no stable list lies within). The list that the passes end in has every stable list within it; so where it passes the two
-- tests it is the largest, and where it fails one there is none. No contract cites this file. Assumes nothing.
use mathlib.Core.Path.{◌≡◌, refl, sym, ap, ◌∙◌}
use mathlib.Core.Bool.{Bool, true, false, not, ◌&&◌, true≢false, and-eq-true_iff}
use mathlib.Core.List.{List, [], ◌∷◌}
use mathlib.Core.Option.{some, none, some-injective, some-ne-none, none-ne-some}
use Prim.Native.Nat.{ℕ, zero, suc, ◌<◌}
use native.Mathlib.Omega.{arith}
use lib.Dec.{eqb, leb}
use lib.ListN.{length, get_or}
use borrow.Author.Tests.{ne_eqb, eqb-false, leb-true, le-leb, not-true}
use Rattle.domains.specs.Masks.{Alive, Subset}
use Rattle.domains.specs.Counts.{count_has, count_fixed}
use Rattle.domains.proofs.MasksLaws.{alive_superset}
use Rattle.book.specs.Lists.{All}
use Rattle.settling_model.specs.Stable.{Bound, Unbroken, Stable, Largest, Unstable}
use Rattle.settling_model.specs.Settling.{fixpoint, none_empty, none_broken, settling}
use Rattle.settling_model.proofs.StableLaws.{stable_unbroken, largest_unique}
use Rattle.settling_model.proofs.PassesLaws.{still_stable, fixpoint_subset, fixpoint_keeps, fixpoint_still}

-- ---- none_empty
none_empty_at : (M : List ℕ) → none_empty M ≡ true → (s : ℕ) → s < length M → get_or M s 0 ≡ 0 → ⊥
unfolding none_empty
none_empty_at [] e s inside = absurd (omega arith)
none_empty_at (m ∷ ms) e zero inside = eqb-false m 0 (not-true (eqb m 0) ((and-eq-true_iff (not (eqb m 0)) (none_empty ms)).0 e).0)
none_empty_at (m ∷ ms) e (suc s) inside = none_empty_at ms ((and-eq-true_iff (not (eqb m 0)) (none_empty ms)).0 e).1 s (omega arith)

none_empty_alive : (M : List ℕ) → none_empty M ≡ true → Alive M
none_empty_alive M e = record { each = none_empty_at M e }

alive_none_empty : (M : List ℕ) → Alive M → none_empty M ≡ true
unfolding none_empty
alive_none_empty [] alive = refl
alive_none_empty (m ∷ ms) alive =
    (and-eq-true_iff (not (eqb m 0)) (none_empty ms)).1
    (ap not (ne_eqb m 0 (alive.each 0 (omega arith))), alive_none_empty ms (record { each = λ s inside. alive.each (suc s) (omega arith) }))

-- ---- none_broken
module _ (M : List ℕ) where
  none_broken_unbroken : (bs : List Bound) → none_broken bs M ≡ true → All (Unbroken M) bs
  unfolding none_broken
  none_broken_unbroken [] e = tt
  none_broken_unbroken (b ∷ bs) e =
      let low = leb b.lower (count_has M b.value b.end) in
      let high = leb (count_fixed M b.value b.end) b.upper in
      let here = (and-eq-true_iff (low && high) (none_broken bs M)).0 e in
      let sides = (and-eq-true_iff low high).0 here.0 in
      (record { low = leb-true _ _ sides.0; high = leb-true _ _ sides.1 }, none_broken_unbroken bs here.1)

  unbroken_none_broken : (bs : List Bound) → All (Unbroken M) bs → none_broken bs M ≡ true
  unfolding none_broken
  unbroken_none_broken [] all = refl
  unbroken_none_broken (b ∷ bs) all =
      let low = leb b.lower (count_has M b.value b.end) in
      let high = leb (count_fixed M b.value b.end) b.upper in
      (and-eq-true_iff (low && high) (none_broken bs M)).1
      ((and-eq-true_iff low high).1 (le-leb _ _ all.0.low, le-leb _ _ all.0.high), unbroken_none_broken bs all.1)

-- ---- settling
module _ (bs : List Bound) (M : List ℕ) where
  -- the two tests of the list that the passes end in
  abbrev tests : Bool
  tests = none_empty (fixpoint bs M) && none_broken bs (fixpoint bs M)

  settling_passed : tests ≡ true → settling bs M ≡ some (fixpoint bs M)
  unfolding settling
  settling_passed passed = rw (settling, passed)

  settling_failed : tests ≡ false → settling bs M ≡ none
  unfolding settling
  settling_failed failed = rw (settling, failed)

  -- passed: it is the largest; a stable list within M: it passes
  passed_largest : tests ≡ true → Largest bs M (fixpoint bs M)
  passed_largest passed =
      let N = fixpoint bs M in
      let both = (and-eq-true_iff (none_empty N) (none_broken bs N)).0 passed in
      record {
        stable = still_stable bs N (fixpoint_still bs M) (none_empty_alive N both.0) (none_broken_unbroken N bs both.1);
        within = fixpoint_subset bs M;
        largest = fixpoint_keeps bs M;
      }

  stable_passes : (X : List ℕ) → Stable bs X → Subset X M → tests ≡ true
  stable_passes X stable X⊆M =
      let N = fixpoint bs M in
      let X⊆N = fixpoint_keeps bs M X stable X⊆M in
      (and-eq-true_iff (none_empty N) (none_broken bs N)).1
      (alive_none_empty N (alive_superset X⊆N stable.alive), unbroken_none_broken N bs (stable_unbroken bs X N stable X⊆N))

  -- both answers, each with what it means
  data Answer : Type 0 where
    live : (N : List ℕ) → settling bs M ≡ some N → Largest bs M N → Answer
    dead : settling bs M ≡ none → Unstable bs M → Answer

  settling_answer : Answer
  settling_answer = go tests refl
    where
      go : (passed : Bool) → tests ≡ passed → Answer
      go true e = live (fixpoint bs M) (settling_passed e) (passed_largest e)
      go false e = dead (settling_failed e) (λ X stable X⊆M. true≢false (sym (stable_passes X stable X⊆M) ∙ e))

  -- ---- adequacy
  pub settling_largest : (N : List ℕ) → settling bs M ≡ some N → Largest bs M N
  settling_largest N e = go settling_answer
    where
      go : Answer → Largest bs M N
      go (live N' is largest) =
          let same : N' ≡ N = some-injective N' N (sym is ∙ e) in
          rw same at largest
      go (dead is unstable) = absurd (none-ne-some N (sym is ∙ e))

  pub largest_settling : (N : List ℕ) → Largest bs M N → settling bs M ≡ some N
  largest_settling N largest = go settling_answer
    where
      go : Answer → settling bs M ≡ some N
      go (live N' is largest') = is ∙ ap some (largest_unique largest' largest)
      go (dead is unstable) = absurd (unstable N largest.stable largest.within)

  pub settling_unstable : settling bs M ≡ none → Unstable bs M
  settling_unstable e = go settling_answer
    where
      go : Answer → Unstable bs M
      go (live N is largest) = absurd (some-ne-none N (sym is ∙ e))
      go (dead is unstable) = unstable

  pub unstable_settling : Unstable bs M → settling bs M ≡ none
  unstable_settling unstable = go settling_answer
    where
      go : Answer → settling bs M ≡ none
      go (live N is largest) = absurd (unstable N largest.stable largest.within)
      go (dead is unstable') = is
