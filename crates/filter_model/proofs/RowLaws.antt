-- The rows of cells: rows lie apart (`lent_row`), and what the store of one mask does to one row, where it costs the row's slack nothing
-- (`row_stays`) or one after the slot (`row_falls`, `reach_met`). No contract cites this file. Assumes nothing.
use mathlib.Core.Path.{◌≡◌, ap, ◌∙◌}
use mathlib.Core.Bool.{Bool, true}
use mathlib.Core.Logic.{◌⊎◌, inl, inr, ⊎_elim, dite}
use mathlib.Core.List.{List}
use Prim.Native.Nat.{ℕ, ◌+◌, ◌*◌, ◌≤◌, ◌<◌}
use native.Mathlib.Nat.{mul-le-mul_right}
use native.Mathlib.Decide.{dec_lt}
use native.Mathlib.Omega.{arith}
use lib.ListN.{length, get_or, set, drop}
use lib.Seq.{get_or-take, get_or-drop}
use Rattle.closing_model.specs.Table.{Table}
use Rattle.closing_model.specs.Corners.{bound_line}
use Rattle.segments_model.specs.Lines.{corner_of, gain, loss, Change, reserve, row_corners, row_slack, Segments}
use Rattle.segments_model.specs.Part.{part, Lent}
use Rattle.segments_model.proofs.EndLaws.{with_end_inner, with_reserve_inner}
use Rattle.segments_model.proofs.PartLaws.{lent_apart}
use Rattle.segments_model.proofs.SlackLaws.{change_before, change_after, slack_of_stays, segments_stays, segments_falls}
use Rattle.filter_model.specs.Mirror.{Corner, slack_at, cells_of, Mirror}
use Rattle.filter_model.specs.Strike.{Reach}

-- ---- rows of n + 2 cells each
pub row_inside : (n rows r : ℕ) → r < rows → r * (n + 2) + (n + 2) ≤ rows * (n + 2)
row_inside n rows r r<rows = omega (arith, mul-le-mul_right (n + 2) r<rows)

-- the first cell of a row
pub row_first : (n r : ℕ) (cells : List ℕ) → get_or (part (r * (n + 2)) (n + 2) cells) 0 0 ≡ get_or cells (r * (n + 2)) 0
row_first n r cells =
    let start : r * (n + 2) + 0 ≡ r * (n + 2) = omega arith in
    get_or-take (n + 2) (drop (r * (n + 2)) cells) 0 0 (omega arith) ∙ get_or-drop (r * (n + 2)) cells 0 0 ∙ ap (λ (i : ℕ). get_or cells i 0) start

-- a row that was lent leaves the others as they were
pub lent_row : {P : List ℕ → List ℕ → Type 0} {cells cells' : List ℕ} (n rows r q : ℕ) → Lent (r * (n + 2)) (n + 2) P cells cells'
    → rows * (n + 2) ≤ length cells → q < rows → (q ≡ r → ⊥) → part (q * (n + 2)) (n + 2) cells' ≡ part (q * (n + 2)) (n + 2) cells
lent_row n rows r q lent fits q<rows q≢r =
    lent_apart lent (q * (n + 2)) (n + 2) (omega (arith, row_inside n rows q q<rows))
    (dite (dec_lt q r) (λ before. inl (omega (arith, row_inside n r q before))) (λ after. inr (omega (arith, row_inside n q r (omega arith)))))

-- ---- one row after a strike; D t where the corner t newly has no slack
pub record Row (kind : Bool) (n k : ℕ) (T : Table) (M M' cells' : List ℕ) (x : ℕ) (D : ℕ → Type 0) : Type 0 where
  pub segments : Segments kind n (bound_line kind n T x) M' x (cells_of kind n k x cells')
  pub spent : (t : ℕ) → Corner kind n T x t → slack_at kind n T M' x t ≡ 0 → (slack_at kind n T M x t ≡ 0) ⊎ D t

pub row_weaken : {kind : Bool} {n k : ℕ} {T : Table} {M M' cells' : List ℕ} {x : ℕ} {D E : ℕ → Type 0} → ((t : ℕ) → D t → E t)
    → Row kind n k T M M' cells' x D → Row kind n k T M M' cells' x E
row_weaken D_E r = record { segments = r.segments; spent = λ t corner none. ⊎_elim inl (λ d. inr (D_E t d)) (r.spent t corner none) }

pub row_cells : {kind : Bool} {n k : ℕ} {T : Table} {M M' cells' cells'' : List ℕ} {x : ℕ} {D : ℕ → Type 0}
    → cells_of kind n k x cells'' ≡ cells_of kind n k x cells' → Row kind n k T M M' cells' x D → Row kind n k T M M' cells'' x D
row_cells same r = record { segments = rw same r.segments; spent = r.spent }

-- the mask m stored at the slot
module _ {n k : ℕ} {T : Table} {M cells : List ℕ} (mirror : Mirror n k T M cells) (cells' : List ℕ) (slot m : ℕ) (inside : slot < length M)
    (kind : Bool) (x : ℕ) (x<k : x < k) where
  pub row_stays : (D : ℕ → Type 0) → Change kind (get_or M slot 0) m x 0 → cells_of kind n k x cells' ≡ cells_of kind n k x cells
      → Row kind n k T M (set M slot m) cells' x D
  row_stays D change same =
      record {
        segments = rw same (segments_stays (bound_line kind n T x) M slot m inside x kind (mirror.rows kind x x<k) change);
        spent = λ t corner none. inl (slack_of_stays (bound_line kind n T x) M slot m inside x kind change t ∙ none);
      }

  module _ (slot<n : slot < n) (r : ℕ) (r≤n : r ≤ n) (change : Change kind (get_or M slot 0) m x 1)
      (reach : Reach (n + 1) (row_corners kind n (bound_line kind n T x)) (row_slack kind n (bound_line kind n T x) M x) slot (cells_of kind n k x cells') r) where
    -- a prefix up to n: its corner and its slack in the row are the line's
    corner_in : (t : ℕ) → t ≤ n → corner_of kind n (bound_line kind n T x) t ≡ true → row_corners kind n (bound_line kind n T x) t ≡ true
    corner_in t t≤n corner = with_end_inner n (corner_of kind n (bound_line kind n T x)) t t≤n ∙ corner

    slack_in : (t : ℕ) → t ≤ n → row_slack kind n (bound_line kind n T x) M x t ≡ slack_at kind n T M x t
    slack_in t t≤n = with_reserve_inner n (reserve kind M x n) (slack_at kind n T M x) t t≤n

    fell : (t : ℕ) → slot < t
        → gain kind (bound_line kind n T x) M x t + loss kind (bound_line kind n T x) (set M slot m) x t
        ≡ gain kind (bound_line kind n T x) (set M slot m) x t + loss kind (bound_line kind n T x) M x t + 1
    fell t slot<t = change_after (bound_line kind n T x) M slot m inside x kind t 1 change slot<t

    pub row_falls : Row kind n k T M (set M slot m) cells' x (λ t. t ≤ r)
    row_falls =
        record {
          segments =
              segments_falls (bound_line kind n T x) M slot m inside x kind (mirror.rows kind x x<k) slot<n change (cells_of kind n k x cells') reach.held
              (λ t slot<t t≤n corner. omega (arith, slack_in t t≤n, reach.more t slot<t (omega arith) (corner_in t t≤n corner)));
          spent = λ t corner none.
              dite (dec_lt slot t)
              (λ slot<t.
              dite (dec_lt r t)
              (λ r<t.
              let past = reach.past t slot<t r<t (omega (arith, corner.upto)) (corner_in t corner.upto corner.turns) in
              absurd (omega (arith, none, past, slack_in t corner.upto, fell t slot<t)))
              (λ t≤r. inr (omega arith)))
              (λ t≤slot. inl (omega (arith, none, change_before (bound_line kind n T x) M slot m inside x kind t (omega arith))));
        }

    -- the bound is met at the reach
    pub reach_met : 0 < r → gain kind (bound_line kind n T x) (set M slot m) x r ≡ loss kind (bound_line kind n T x) (set M slot m) x r
    reach_met 0<r =
        let meets = reach.meets 0<r in
        omega (arith, meets.slack, slack_in r r≤n, fell r meets.after)
