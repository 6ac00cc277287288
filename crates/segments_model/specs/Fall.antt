-- A fall of the slack by one after a slot, over bare functions: C tells the corners, f is the slack before the fall.
--   fallen f slot          the slack after it
--   MoreThan n C f slot d  every corner after the slot has more slack than d
--   Meets n C f slot d t   t is a corner after the slot with slack d
--   Quieted                no corner after the slot loses its last slack, and the cells hold what is left
--   Clashed                the spent corner is after the slot, and the cells stay
--   ReachedAt .. t         t is the last corner that loses its last slack, and the cells hold what is left
-- Assumes nothing.
use Rattle.std.specs.Prelude.{◌≡◌, Bool, true, List, ℕ, ◌-◌, ◌≤◌, ◌<◌, ltb, get_or}
use Rattle.domains.specs.Counts.{bit}
use Rattle.segments_model.specs.Links.{Held}

abbrev pub fallen : (ℕ → ℕ) → ℕ → ℕ → ℕ
fallen f slot u = f u - bit (ltb slot u)

abbrev pub MoreThan : ℕ → (ℕ → Bool) → (ℕ → ℕ) → ℕ → ℕ → Type 0
MoreThan n C f slot d = (u : ℕ) → slot < u → u ≤ n → C u ≡ true → d < f u

pub record Meets (n : ℕ) (C : ℕ → Bool) (f : ℕ → ℕ) (slot d t : ℕ) : Type 0 where
  pub after : slot < t
  pub inside : t ≤ n
  pub corner : C t ≡ true
  pub slack : f t ≡ d

pub record Quieted (n : ℕ) (C : ℕ → Bool) (f : ℕ → ℕ) (slot : ℕ) (cells' : List ℕ) : Type 0 where
  pub held : Held n C (fallen f slot) cells'
  pub more : MoreThan n C f slot 1

pub record Clashed (n : ℕ) (C : ℕ → Bool) (f : ℕ → ℕ) (slot : ℕ) (cells cells' : List ℕ) : Type 0 where
  pub same : cells' ≡ cells
  pub meets : Meets n C f slot 0 (get_or cells 0 0)

pub record ReachedAt (n : ℕ) (C : ℕ → Bool) (f : ℕ → ℕ) (slot : ℕ) (cells' : List ℕ) (t : ℕ) : Type 0 where
  pub held : Held n C (fallen f slot) cells'
  pub more : MoreThan n C f slot 0
  pub meets : Meets n C f slot 1 t
  pub past : MoreThan n C f t 1
