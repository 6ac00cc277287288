-- Where the lines of a table grow, as a mask for each prefix length (document 01: end). The table is a list of lowers, or of uppers, with
-- entry (v, t) at place v * (n + 1) + t.
--   grows n l v t       the entry of value v at t differs from the one at t - 1; at prefix length 0 there is none before it
--   rise_mask n l k t    the mask of the values below k that grow at t
--   rise_masks n k l       the masks at the prefix lengths 0 to n
--   over_rises           a list with its front replaced by these
--   Holds n k l         l has a table of k values and the prefix lengths 0 to n, and a mask has room for the values
--   Marks n v l s       the first n + 1 masks of s are those of the values below v
-- Assumes nothing.
use Rattle.std.specs.Prelude.{Bool, not, List, ◌++◌, ◌≡◌, ℕ, zero, suc, ◌+◌, ◌-◌, ◌*◌, ◌^◌, ◌≤◌, ◌<◌, eqb, length, get_or, drop}
use Rattle.domains.specs.Counts.{bit}
use Rattle.book.specs.Layout.{list_of}
use Rattle.closing_model.specs.Table.{size, place}

unfoldable pub grows : ℕ → List ℕ → ℕ → ℕ → Bool
grows n l v t = not (eqb (get_or l (place n v t) 0) (get_or l (place n v (t - 1)) 0))

unfoldable pub rise_mask : ℕ → List ℕ → ℕ → ℕ → ℕ
rise_mask n l zero t = 0
rise_mask n l (suc v) t = rise_mask n l v t + bit (grows n l v t) * 2 ^ v

abbrev pub rise_masks : ℕ → ℕ → List ℕ → List ℕ
rise_masks n k l = list_of (n + 1) (rise_mask n l k)

abbrev pub over_rises : ℕ → ℕ → List ℕ → List ℕ → List ℕ
over_rises n k l lent = rise_masks n k l ++ drop (n + 1) lent

pub record Holds (n k : ℕ) (l : List ℕ) : Type 0 where
  pub values : k ≤ 32
  pub entries : size n k ≤ length l

pub record Marks (n v : ℕ) (l s : List ℕ) : Type 0 where
  pub long : n < length s
  pub each : (t : ℕ) → t ≤ n → get_or s t 0 ≡ rise_mask n l v t
