-- What a visit of a prefix answers.
--   VisitAnswer, Visit    a visit of t: the corner t is broken, or the corners from t on are done
-- Assumes nothing.
use Rattle.std.specs.Prelude.{◌≡◌, Bool, List, Option, Some, None, ℕ, ◌-◌, length}
use Rattle.segments_model.specs.Build.{Done}
use Rattle.segments_model.specs.Lines.{Broken}

-- C tells the corners, g is the gain and h the loss
abbrev pub VisitAnswer : ℕ → (ℕ → Bool) → (ℕ → ℕ) → (ℕ → ℕ) → ℕ → List ℕ → Option ℕ → Type 0
VisitAnswer n C g h t cells' None = Broken n C g h t
VisitAnswer n C g h t cells' (Some next) = Done n C g h (t - 1) cells' next

pub record Visit (n t : ℕ) (corner : Bool) (gained lost next : ℕ) (cells cells' : List ℕ) (r : Option ℕ) : Type 0 where
  pub size : length cells' ≡ length cells
  pub answer : (C : ℕ → Bool) (g h : ℕ → ℕ) → C t ≡ corner → g t ≡ gained → h t ≡ lost → Done n C g h t cells next
      → VisitAnswer n C g h t cells' r
