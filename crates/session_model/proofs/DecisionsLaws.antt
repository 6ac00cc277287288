-- The laws of many decisions (`specs/Decisions.antt`). A list lies within the masks cut by each exactly where it is allowed by all of them
-- (`cut_all_allowed`, `allowed_cut_all`); so the largest list under decisions is the settling's within the cut masks (`largest_under`,
-- `under_largest`, `unstable_under`, `under_unstable`), and one decision more may be cut from it (`largest_cut`, `unstable_cut`).
-- No contract cites this file. Assumes nothing.
use mathlib.Core.Path.{◌≡◌}
use mathlib.Core.List.{List, [], ◌∷◌}
use Prim.Native.Nat.{ℕ}
use Rattle.domains.specs.Masks.{Subset}
use Rattle.domains.proofs.MasksLaws.{subset_trans, subset_antisym}
use Rattle.settling_model.specs.Stable.{Bound, Largest, Unstable}
use Rattle.settling_model.proofs.StableLaws.{largest_narrow, unstable_narrow}
use Rattle.session_model.specs.Decisions.{Decision, cut, cut_all, Allowed, LargestUnder, UnstableUnder}
use Rattle.session_model.proofs.CutLaws.{meets_subset, cut_subset, cut_meets, subset_cut}

-- ---- cut_all, Allowed
module _ (M : List ℕ) where
  pub cut_all_allowed : (ds : List Decision) (N : List ℕ) → Subset N (cut_all ds M) → Allowed M ds N
  unfolding cut_all
  cut_all_allowed [] N within = record { within = within; meets = tt }
  cut_all_allowed (d ∷ ds) N within =
      let rest = cut_all_allowed ds N (subset_trans within (cut_subset d (cut_all ds M))) in
      record { within = rest.within; meets = (meets_subset d within (cut_meets d (cut_all ds M)), rest.meets) }

  pub allowed_cut_all : (ds : List Decision) (N : List ℕ) → Allowed M ds N → Subset N (cut_all ds M)
  unfolding cut_all
  allowed_cut_all [] N allowed = allowed.within
  allowed_cut_all (d ∷ ds) N allowed =
      subset_cut d N (cut_all ds M) (allowed_cut_all ds N (record { within = allowed.within; meets = allowed.meets.1 })) allowed.meets.0

-- ---- LargestUnder, UnstableUnder
module _ {bs : List Bound} {M : List ℕ} (ds : List Decision) where
  pub largest_under : {N : List ℕ} → Largest bs (cut_all ds M) N → LargestUnder bs M ds N
  largest_under {N} best =
      record {
        stable = best.stable;
        allowed = cut_all_allowed M ds N best.within;
        largest = λ X stable allowed. best.largest X stable (allowed_cut_all M ds X allowed);
      }

  pub under_largest : {N : List ℕ} → LargestUnder bs M ds N → Largest bs (cut_all ds M) N
  under_largest {N} best =
      record {
        stable = best.stable;
        within = allowed_cut_all M ds N best.allowed;
        largest = λ X stable within. best.largest X stable (cut_all_allowed M ds X within);
      }

  pub unstable_under : Unstable bs (cut_all ds M) → UnstableUnder bs M ds
  unstable_under none_within X stable allowed = none_within X stable (allowed_cut_all M ds X allowed)

  pub under_unstable : UnstableUnder bs M ds → Unstable bs (cut_all ds M)
  under_unstable none_allowed X stable within = none_allowed X stable (cut_all_allowed M ds X within)

-- there is one only
pub largest_under_unique : {bs : List Bound} {M N N' : List ℕ} {ds : List Decision} → LargestUnder bs M ds N → LargestUnder bs M ds N' → N ≡ N'
largest_under_unique {N} {N'} one other =
    subset_antisym (other.largest N one.stable one.allowed) (one.largest N' other.stable other.allowed)

-- N is the largest under ds: what is largest within N cut by d is so under d and ds
module _ {bs : List Bound} {M N : List ℕ} {ds : List Decision} (best : LargestUnder bs M ds N) (d : Decision) where
  shared : (X : List ℕ) → Subset X (cut d (cut_all ds M)) → Subset X N → Subset X (cut d N)
  shared X X⊆A X⊆N = subset_cut d X N X⊆N (meets_subset d X⊆A (cut_meets d (cut_all ds M)))

  pub largest_cut : {X : List ℕ} → Largest bs (cut d N) X → LargestUnder bs M (d ∷ ds) X
  unfolding cut_all
  largest_cut within_cut =
      let inner = under_largest ds best in
      largest_under (d ∷ ds)
      (largest_narrow inner (cut_subset d (cut_all ds M)) shared
      (subset_cut d (cut d N) (cut_all ds M) (subset_trans (cut_subset d N) inner.within) (cut_meets d N)) within_cut)

  pub unstable_cut : Unstable bs (cut d N) → UnstableUnder bs M (d ∷ ds)
  unfolding cut_all
  unstable_cut none_within = unstable_under (d ∷ ds) (unstable_narrow (under_largest ds best) (cut_subset d (cut_all ds M)) shared none_within)
