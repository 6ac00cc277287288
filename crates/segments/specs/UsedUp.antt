-- What becomes of the first right end t after a slot when its gap is used up, by the answer.
--   UsedUp n z slot t ..   t is joined to p, the last right end after z up to the slot; or t is spent, and if the links pass no right end, there is none
-- Assumes nothing.
use Rattle.std.specs.Prelude.{◌≡◌, List, ℕ, ◌+◌, ◌-◌, ◌<◌, get_or, set}
use Rattle.segments_model.specs.Links.{gaps, Linked}
use Rattle.segments_model.specs.Search.{Latest}
use Rattle.segments.specs.declared.Hit.{Hit}
use Rattle.segments.specs.declared.Hit.TheVariants.{Lowered, Still, Joined, Clash, Reached}

abbrev pub UsedUp : ℕ → ℕ → ℕ → ℕ → List ℕ → List ℕ → Hit → Type 0
UsedUp n z slot t cells cells' (Lowered u) = ⊥
UsedUp n z slot t cells cells' Still = ⊥
UsedUp n z slot t cells cells' (Joined p) = (z < p) × Latest z slot (gaps cells) p × (cells' ≡ set (set cells t (get_or cells p 0)) p (1024 + (t - p - 1)))
UsedUp n z slot t cells cells' Clash = ⊥
UsedUp n z slot t cells cells' (Reached u x) =
    (u ≡ t) × (x ≡ z) × (Linked n cells → Latest z slot (gaps cells) z) × (cells' ≡ set (set cells t 1024) 0 t)
