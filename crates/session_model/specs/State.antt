-- What the plain machine of document 01 is given, what it has, and what it answers.
--   Rules    what it has of the book: sizes, the limit on open marks, settling, wall counts, the count of ones
--   State    masks, dead flag and saved masks (document 01: pile), the latest first
--   Reply    an answer; words: document 01's two words of each
--   words_of  the words of a list of answers, as the session entry writes them
-- Assumes nothing.
use Rattle.std.specs.Prelude.{Bool, List, [], ◌∷◌, ℕ, ◌+◌}
use Rattle.std.proofs.Math.Option.{Option}

pub record Rules : Type 0 where
  pub slots : ℕ
  pub values : ℕ
  pub limit : ℕ
  -- the largest stable list within, or none
  pub settle : List ℕ → Option (List ℕ)
  -- how many walls of a value stand, lower (true) or upper (false)
  pub standing : Bool → List ℕ → ℕ → ℕ
  pub ones : List ℕ → ℕ

pub record State : Type 0 where
  pub masks : List ℕ
  pub dead : Bool
  pub saved : List (List ℕ)

pub data Reply : Type 0 where
  live : (struck : ℕ) → Reply
  dead : Reply
  value : ℕ → Reply
  done : Reply
  refused : (number : ℕ) → Reply

abbrev pub words : Reply → ℕ × ℕ
words (live struck) = (0, struck)
words dead = (1, 0)
words (value x) = (2, x)
words done = (3, 0)
words (refused number) = (256 + number, 0)

unfoldable pub words_of : List Reply → List ℕ
words_of [] = []
words_of (r ∷ rs) = (words r).0 ∷ (words r).1 ∷ words_of rs
