-- A fall taken back: how the cells were before it, from the cells after it and two numbers, a tag that tells what the fall did and a note of where.
-- All cells here are stored ones.
--   tags 0, 1, lowered   the gap of the right end `end_of tag note`, note + 2 - tag, fell by one; tag 1 is for the right end 1 alone
--   tag 2, joined    the right end at the note gave its cell to the one that it links to now; where it is no link, or leads past n, no cell changed
--   tag 3, spent     the first segment was spent; the note is the spent corner before
--   risen n tag note cells       the cells before the fall
--   Raisable                     the places that `risen` stores at are places of cells, and what it adds one to fits
--   Reversal n slot tag note ..  a fall from cells to cells' is taken back by the tag and the note
-- Assumes nothing.
use Rattle.std.specs.Prelude.{◌≡◌, cond, List, ℕ, ◌+◌, ◌-◌, ◌≤◌, ◌<◌, eqb, ltb, get_or, set}
use Rattle.segments_model.specs.Links.{target}

abbrev pub end_of : ℕ → ℕ → ℕ
end_of tag note = note + 2 - tag

abbrev pub lifted : ℕ → List ℕ → List ℕ
lifted t cells = set cells t (get_or cells t 0 + 1)

abbrev pub parted : ℕ → ℕ → List ℕ → List ℕ
parted n note cells =
    let c = get_or cells note 0 in
    let t = target note c in
    cond (ltb c 1024) cells (cond (ltb n t) cells (set (set cells note (get_or cells t 0)) t 0))

unfoldable pub risen : ℕ → ℕ → ℕ → List ℕ → List ℕ
risen n tag note cells =
    cond (ltb tag 2) (lifted (end_of tag note) cells) (cond (eqb tag 2) (parted n note cells) (set (set cells (get_or cells 0 0) 0) 0 note))

pub record Raisable (n slot tag note : ℕ) (cells : List ℕ) : Type 0 where
  pub known : tag ≤ 3
  pub inside : tag < 2 → end_of tag note ≤ n
  pub fits : tag < 2 → get_or cells (end_of tag note) 0 < 1024
  pub low : 2 ≤ tag → note ≤ slot
  pub spent : get_or cells 0 0 ≤ n

pub record Reversal (n slot tag note : ℕ) (cells cells' : List ℕ) : Type 0 where
  pub raisable : Raisable n slot tag note cells'
  pub back : risen n tag note cells' ≡ cells
