-- The laws of `QuietValue` and `QuietBelow` of `specs/Opened.antt`: one value's rows (`value_dead`, `value_pruned`), one value more
-- (`quiet_more`), and that a spent corner is an end (`mirrored_spent`). No contract cites this file. Assumes nothing.
use mathlib.Core.Path.{◌≡◌}
use mathlib.Core.Bool.{Bool, true, false}
use mathlib.Core.Logic.{dite}
use mathlib.Core.List.{List}
use Prim.Native.Nat.{ℕ, ◌+◌, ◌*◌, ◌≤◌, ◌<◌}
use native.Mathlib.Decide.{ℕ_discrete}
use native.Mathlib.Omega.{arith}
use lib.ListN.{get_or}
use Rattle.closing_model.specs.Table.{Table}
use Rattle.settling_model.specs.Settled.{Settled}
use Rattle.filter_model.specs.Cuts.{BoundCut}
use Rattle.filter_model.specs.Mirror.{row, Mirror, Quiet}
use Rattle.filter_model.proofs.MirrorLaws.{progress_trans, progress_quiet}
use Rattle.filter_model.proofs.SpentLaws.{spent_row, spent_cut, spent_quiet}
use Rattle.filter_model.proofs.StateLaws.{moved_trans, world_moved}
use Rattle.outcomes.specs.Codes.{Lived}
use Rattle.filter.specs.Filtered.{Filtered}
use Rattle.outcomes.specs.declared.Outcome.{Outcome}
use Rattle.outcomes.specs.declared.Outcome.TheVariants.{Live, Dead}
use Rattle.filter.proofs.FilteredLaws.{filtered_more}
use Rattle.opening.specs.Opened.{Anything, Mirrored, Opening, QuietValue, QuietBelow}

-- ---- Opening
pub opening_more : {n k : ℕ} {Q G : List ℕ → Type 0} {m c t m' c' t' : List ℕ} {h : ℕ} {top : ℕ} → Opening m c t n k top
    → Filtered n k Q G m c t top m' c' t' (Live h) → Opening m' c' t' n k h
opening_more opening done =
    record {
      world = world_moved opening.world done.moved;
      mirrored = record { table = opening.mirrored.table; mirror = done.mirror opening.mirrored.table opening.mirrored.mirror };
    }

pub mirrored_spent : {n k : ℕ} {m c : List ℕ} → Mirrored n k m c → (kind : Bool) (v z : ℕ) → v < k → z ≡ get_or c (row kind k v * (n + 2)) 0 → z ≤ n
mirrored_spent mirrored kind v z v<k z_is = (spent_row mirrored.mirror kind v v<k z z_is).inside

-- ---- QuietValue: a and b are the spent corners of the two rows of v
module _ {n k : ℕ} {m₀ c₀ t₀ : List ℕ} {top v a : ℕ} (v<k : v < k) (a_is : a ≡ get_or c₀ (v * (n + 2)) 0) {m₁ c₁ t₁ : List ℕ} where
  pub value_dead : {h : ℕ} → Filtered n k (BoundCut true m₀ v a) (λ M. Settled M v a) m₀ c₀ t₀ top m₁ c₁ t₁ (Dead h)
      → Filtered n k Anything (QuietValue n k m₀ c₀ v) m₀ c₀ t₀ top m₁ c₁ t₁ (Dead h)
  value_dead low =
      record {
        moved = low.moved;
        mirror = low.mirror;
        progress = λ no. absurd no;
        keeps = λ T mirror N stable N⊆m any. low.keeps T mirror N stable N⊆m (spent_cut mirror true v v<k a a_is N stable N⊆m);
        goal = λ no. absurd no;
      }

  module _ {h b : ℕ} (low : Filtered n k (BoundCut true m₀ v a) (λ M. Settled M v a) m₀ c₀ t₀ top m₁ c₁ t₁ (Live h))
      (b_is : b ≡ get_or c₁ ((k + v) * (n + 2)) 0) {m₂ c₂ t₂ : List ℕ} {r : Outcome}
      (high : Filtered n k (BoundCut false m₁ v b) (λ M. Settled M v b) m₁ c₁ t₁ h m₂ c₂ t₂ r) where
    rows_quiet : Lived r → (T : Table) → Mirror n k T m₀ c₀ → (kind : Bool) → Quiet kind n T m₂ v
    rows_quiet live T mirror true =
        progress_quiet v<k high.moved.within (high.progress live T (low.mirror T mirror))
        (spent_quiet mirror true v v<k a a_is (low.progress tt T mirror) (low.goal tt))
    rows_quiet live T mirror false =
        spent_quiet (low.mirror T mirror) false v v<k b b_is (high.progress live T (low.mirror T mirror)) (high.goal live)

    pub value_pruned : Filtered n k Anything (QuietValue n k m₀ c₀ v) m₀ c₀ t₀ top m₂ c₂ t₂ r
    value_pruned =
        record {
          moved = moved_trans low.moved high.moved;
          mirror = λ T mirror. high.mirror T (low.mirror T mirror);
          progress = λ live T mirror.
              progress_trans high.moved.within (low.progress tt T mirror) (high.progress live T (low.mirror T mirror));
          keeps = λ T mirror N stable N⊆m any.
              let within = low.keeps T mirror N stable N⊆m (spent_cut mirror true v v<k a a_is N stable N⊆m) in
              high.keeps T (low.mirror T mirror) N stable within (spent_cut (low.mirror T mirror) false v v<k b b_is N stable within);
          goal = λ live. record { quiet = λ T mirror. rows_quiet live T mirror };
        }

-- ---- QuietBelow
pub quiet_none : (n k : ℕ) (m c : List ℕ) → QuietBelow n k m c 0 m
quiet_none n k m c = record { quiet = λ T mirror kind x x<0. absurd (omega arith) }

pub quiet_more : {n k : ℕ} {m₀ c₀ t₀ m₁ c₁ t₁ m₂ c₂ t₂ : List ℕ} {h₀ h₁ v : ℕ} {r : Outcome} → v < k
    → Filtered n k Anything (QuietBelow n k m₀ c₀ v) m₀ c₀ t₀ h₀ m₁ c₁ t₁ (Live h₁)
    → Filtered n k Anything (QuietValue n k m₁ c₁ v) m₁ c₁ t₁ h₁ m₂ c₂ t₂ r
    → Filtered n k Anything (QuietBelow n k m₀ c₀ (v + 1)) m₀ c₀ t₀ h₀ m₂ c₂ t₂ r
quiet_more {v = v} v<k done more =
    filtered_more done more (λ N any. any)
    (λ live below value.
    record {
      quiet = λ T mirror kind x x≤v.
          dite (ℕ_discrete x v) (λ last. rw last (value.quiet T (done.mirror T mirror) kind))
          (λ before.
          progress_quiet (omega arith) more.moved.within (more.progress live T (done.mirror T mirror))
          (below.quiet T mirror kind x (omega arith)));
    })
