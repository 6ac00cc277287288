-- What `fall` does to the cells, by its answer. The answers' meaning is in `specs/Fall.antt` of segments_model, that of tags and notes in `specs/Raise.antt`.
--   Inside n r             the prefix that the answer names, if any, is at most n
--   Quiets r               the answer is one of the three for which no corner loses its last slack
--   Answer n C f slot ..   the answer, for corners C and the slack f before the fall
--   Reverses n slot ..     the answer's tag and note take the fall back; or there was none, since the slot is before the spent corner
--   Barred slot cells ..   at a Clash the cells stay; else the slot is not before the spent corner, which is the note where another is reached
--   Fell n slot ..         the cells keep their number, the answer holds for each C and f that the cells hold, and it tells how the fall is taken back
-- Assumes nothing.
use Rattle.std.specs.Prelude.{◌≡◌, Bool, List, ℕ, ◌≤◌, ◌<◌, length, get_or}
use Rattle.segments_model.specs.Fall.{Quieted, Clashed, ReachedAt}
use Rattle.segments_model.specs.Links.{Held}
use Rattle.segments_model.specs.Raise.{end_of, Reversal}
use Rattle.segments.specs.declared.Hit.{Hit}
use Rattle.segments.specs.declared.Hit.TheVariants.{Lowered, Still, Joined, Clash, Reached}

abbrev pub Inside : ℕ → Hit → Type 0
Inside n (Lowered t) = (0 < t) × (t ≤ n)
Inside n Still = Unit {0}
Inside n (Joined p) = Unit {0}
Inside n Clash = Unit {0}
Inside n (Reached t z) = t ≤ n

abbrev pub Quiets : Hit → Type 0
Quiets (Lowered t) = Unit {0}
Quiets Still = Unit {0}
Quiets (Joined p) = Unit {0}
Quiets Clash = ⊥
Quiets (Reached t z) = ⊥

abbrev pub Answer : ℕ → (ℕ → Bool) → (ℕ → ℕ) → ℕ → List ℕ → List ℕ → Hit → Type 0
Answer n C f slot cells cells' (Lowered t) = Quieted n C f slot cells'
Answer n C f slot cells cells' Still = Quieted n C f slot cells'
Answer n C f slot cells cells' (Joined p) = Quieted n C f slot cells'
Answer n C f slot cells cells' Clash = Clashed n C f slot cells cells'
Answer n C f slot cells cells' (Reached t z) = ReachedAt n C f slot cells' t

abbrev pub Reverses : ℕ → ℕ → List ℕ → List ℕ → Hit → Type 0
Reverses n slot cells cells' (Lowered t) = (tag note : ℕ) → tag < 2 → end_of tag note ≡ t → Reversal n slot tag note cells cells'
Reverses n slot cells cells' Still = Reversal n slot 2 0 cells cells'
Reverses n slot cells cells' (Joined p) = Reversal n slot 2 p cells cells'
Reverses n slot cells cells' Clash = slot < get_or cells 0 0
Reverses n slot cells cells' (Reached t z) = Reversal n slot 3 z cells cells'

abbrev pub Barred : ℕ → List ℕ → List ℕ → Hit → Type 0
Barred slot cells cells' (Lowered t) = get_or cells 0 0 ≤ slot
Barred slot cells cells' Still = get_or cells 0 0 ≤ slot
Barred slot cells cells' (Joined p) = get_or cells 0 0 ≤ slot
Barred slot cells cells' Clash = cells' ≡ cells
Barred slot cells cells' (Reached t z) = (get_or cells 0 0 ≤ slot) × (z ≡ get_or cells 0 0)

pub record Fell (n slot : ℕ) (cells cells' : List ℕ) (r : Hit) : Type 0 where
  pub size : length cells' ≡ length cells
  pub inside : Inside n r
  pub answer : (C : ℕ → Bool) (f : ℕ → ℕ) → Held n C f cells → Answer n C f slot cells cells' r
  pub reverses : Reverses n slot cells cells' r
  pub barred : Barred slot cells cells' r
