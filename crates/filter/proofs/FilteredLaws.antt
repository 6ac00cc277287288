-- The laws of `Filtered` of `specs/Filtered.antt`: a call that is not dead (`filtered_live`), no call (`filtered_refl`), a call after others that were Live (`filtered_more`, `filtered_stop`), another goal
-- (`filtered_goal`), a narrower cut (`filtered_asks`). No contract cites this file. Assumes nothing.
use mathlib.Core.Path.{◌≡◌, sym, ap, ◌∙◌, subst}
use mathlib.Core.Bool.{Bool, true, false}
use mathlib.Core.List.{List}
use Prim.Native.Nat.{ℕ}
use Rattle.filter_model.specs.Cuts.{BoundCut}
use Rattle.filter_model.proofs.MirrorLaws.{progress_refl, progress_trans}
use Rattle.filter_model.proofs.StateLaws.{moved_refl, moved_trans}
use Rattle.outcomes.specs.Codes.{Lived, height_of, is_dead}
use Rattle.outcomes.proofs.CodeLaws.{live_is, dead_not_lived}
use Rattle.filter.specs.Filtered.{Filtered}
use Rattle.outcomes.specs.declared.Outcome.{Outcome}
use Rattle.outcomes.specs.declared.Outcome.TheVariants.{Live}

pub filtered_at : {n k : ℕ} {Q G : List ℕ → Type 0} {m₀ c₀ t₀ m₁ c₁ t₁ : List ℕ} {h₀ : ℕ} {r r' : Outcome}
    → r ≡ r' → Filtered n k Q G m₀ c₀ t₀ h₀ m₁ c₁ t₁ r → Filtered n k Q G m₀ c₀ t₀ h₀ m₁ c₁ t₁ r'
filtered_at {n} {k} {Q} {G} {m₀} {c₀} {t₀} {m₁} {c₁} {t₁} {h₀} is done = subst (λ (r : Outcome). Filtered n k Q G m₀ c₀ t₀ h₀ m₁ c₁ t₁ r) is done

-- a call that is not dead, at the height that it tells
pub filtered_live : {n k : ℕ} {Q G : List ℕ → Type 0} {m₀ c₀ t₀ m₁ c₁ t₁ : List ℕ} {h₀ h : ℕ} {dead : Bool} {r : Outcome} → dead ≡ is_dead r
    → dead ≡ false → h ≡ height_of r → Filtered n k Q G m₀ c₀ t₀ h₀ m₁ c₁ t₁ r → Filtered n k Q G m₀ c₀ t₀ h₀ m₁ c₁ t₁ (Live h)
filtered_live {r = r} dead_is live h_is done = filtered_at (live_is r (sym dead_is ∙ live) ∙ ap Live (sym h_is)) done

pub filtered_refl : {n k : ℕ} {Q G : List ℕ → Type 0} (m c t : List ℕ) (h : ℕ) → G m → Filtered n k Q G m c t h m c t (Live h)
filtered_refl {n} {k} m c t h goal =
    record {
      moved = moved_refl n k m c t h;
      mirror = λ T mirror. mirror;
      progress = λ live T mirror. progress_refl n k T m;
      keeps = λ T mirror N stable N⊆m cut. N⊆m;
      goal = λ live. goal;
    }

-- the second call asks what the first cut gives, and both goals give the new one
pub filtered_more : {n k : ℕ} {Q R G H K : List ℕ → Type 0} {m₀ c₀ t₀ m₁ c₁ t₁ m₂ c₂ t₂ : List ℕ} {h₀ h₁ : ℕ} {r : Outcome}
    → Filtered n k Q G m₀ c₀ t₀ h₀ m₁ c₁ t₁ (Live h₁) → Filtered n k R H m₁ c₁ t₁ h₁ m₂ c₂ t₂ r
    → ((N : List ℕ) → Q N → R N) → (Lived r → G m₁ → H m₂ → K m₂) → Filtered n k Q K m₀ c₀ t₀ h₀ m₂ c₂ t₂ r
filtered_more first second asks gives =
    record {
      moved = moved_trans first.moved second.moved;
      mirror = λ T mirror. second.mirror T (first.mirror T mirror);
      progress = λ live T mirror.
          progress_trans second.moved.within (first.progress tt T mirror) (second.progress live T (first.mirror T mirror));
      keeps = λ T mirror N stable N⊆m cut.
          second.keeps T (first.mirror T mirror) N stable (first.keeps T mirror N stable N⊆m cut) (asks N cut);
      goal = λ live. gives live (first.goal tt) (second.goal live);
    }

-- a second call that is dead
pub filtered_stop : {n k : ℕ} {Q R G H K : List ℕ → Type 0} {m₀ c₀ t₀ m₁ c₁ t₁ m₂ c₂ t₂ : List ℕ} {h₀ h₁ : ℕ} {dead : Bool} {r : Outcome}
    → dead ≡ is_dead r → dead ≡ true → Filtered n k Q G m₀ c₀ t₀ h₀ m₁ c₁ t₁ (Live h₁) → Filtered n k R H m₁ c₁ t₁ h₁ m₂ c₂ t₂ r
    → ((N : List ℕ) → Q N → R N) → Filtered n k Q K m₀ c₀ t₀ h₀ m₂ c₂ t₂ r
filtered_stop {r = r} dead_is dead first second asks = filtered_more first second asks (λ live. absurd (dead_not_lived r (sym dead_is ∙ dead) live))

pub filtered_goal : {n k : ℕ} {Q G K : List ℕ → Type 0} {m₀ c₀ t₀ m₁ c₁ t₁ : List ℕ} {h₀ : ℕ} {r : Outcome}
    → Filtered n k Q G m₀ c₀ t₀ h₀ m₁ c₁ t₁ r → (Lived r → G m₁ → K m₁) → Filtered n k Q K m₀ c₀ t₀ h₀ m₁ c₁ t₁ r
filtered_goal done gives =
    record {
      moved = done.moved;
      mirror = done.mirror;
      progress = done.progress;
      keeps = done.keeps;
      goal = λ live. gives live (done.goal live);
    }

-- a narrower cut
pub filtered_asks : {n k : ℕ} {P Q G : List ℕ → Type 0} {m₀ c₀ t₀ m₁ c₁ t₁ : List ℕ} {h₀ : ℕ} {r : Outcome}
    → ((N : List ℕ) → P N → Q N) → Filtered n k Q G m₀ c₀ t₀ h₀ m₁ c₁ t₁ r → Filtered n k P G m₀ c₀ t₀ h₀ m₁ c₁ t₁ r
filtered_asks asks done =
    record {
      moved = done.moved;
      mirror = done.mirror;
      progress = done.progress;
      keeps = λ T mirror N stable N⊆m cut. done.keeps T mirror N stable N⊆m (asks N cut);
      goal = done.goal;
    }

-- a met bound of one kind, where the kind is known
pub filtered_bound : {n k : ℕ} {G : List ℕ → Type 0} {m₀ c₀ t₀ m₁ c₁ t₁ : List ℕ} {h₀ : ℕ} {r : Outcome} (b kind : Bool) (v end : ℕ) → kind ≡ b
    → Filtered n k (BoundCut b m₀ v end) G m₀ c₀ t₀ h₀ m₁ c₁ t₁ r → Filtered n k (BoundCut kind m₀ v end) G m₀ c₀ t₀ h₀ m₁ c₁ t₁ r
filtered_bound b kind v end is done = rw is done
