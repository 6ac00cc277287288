-- A whole sweep: every value's line, then every prefix across the values. No contract cites this file. `LinesInv` is the invariant of the loop
-- over the values, `SweepsInv` that of the sweeps; `lines_turn` and `sweep_ran` are their turns; `sweeps_loosest`: a sweep that stored nothing;
-- `sweeps_crossed`, `sweeps_none`: a crossed entry, as the code finds it on a line or across the values.
-- Assumes nothing.
use mathlib.Core.Path.{◌≡◌, refl, ◌∙◌}
use mathlib.Core.Bool.{Bool, false, ◌||◌}
use mathlib.Core.List.{List}
use mathlib.Core.Logic.{dite}
use Prim.Native.Nat.{ℕ, ◌+◌, ◌-◌, ◌*◌, ◌≤◌, ◌<◌}
use native.Mathlib.Decide.{dec_lt}
use native.Mathlib.Nat.{le_refl}
use native.Mathlib.Omega.{arith}
use lib.ListN.{length, get_or}
use borrow.Author.Count.{below_more}
use Rattle.closing_model.specs.Table.{Table, view, size, Within, Loosest, NoneClosed}
use Rattle.closing_model.specs.Sweep.{Line, Columns, ClosedBySums, Narrows, Ran, Did}
use Rattle.closing_model.proofs.PlaceLaws.{line_below}
use Rattle.closing_model.proofs.TableLaws.{closed_by_sums}
use Rattle.closing_model.proofs.SweptLaws.{narrows_refl, narrows_trans, narrows_loosest, crossed_none}
use Rattle.closing_model.proofs.RanLaws.{ran_none, ran_more}

-- ---- the loop over the values
-- no entry of the line at base is crossed at the prefixes below e
abbrev pub Uncrossed : ℕ → ℕ → Table → Type 0
Uncrossed base e T = (t : ℕ) → t < e → T.lower (base + t) ≤ T.upper (base + t)

-- and at the next m
pub uncrossed_more : (base t m : ℕ) (T : Table) → Uncrossed base t T → Uncrossed (base + t) m T → Uncrossed base (t + m) T
uncrossed_more base t m T upto more i i<t+m =
    dite (dec_lt i t) (upto i)
    (λ beyond.
    let there : base + t + (i - t) ≡ base + i = omega arith in
    rw there at (more (i - t) (omega arith)))

pub record LineKept (n v : ℕ) (T : Table) : Type 0 where
  pub line : Line (v * (n + 1)) n T
  pub uncrossed : Uncrossed (v * (n + 1)) (n + 1) T

-- of the first v values
abbrev pub Lines : ℕ → ℕ → Table → Type 0
Lines n v T = (w : ℕ) → w < v → LineKept n w T

pub record LinesInv (n k : ℕ) (L₀ U₀ L U : List ℕ) (r : Bool) (v base : ℕ) : Type 0 where
  pub upto : v ≤ k
  pub at : base ≡ v * (n + 1)
  pub ran : Ran (size n k) (ClosedBySums n k) (Lines n v) L₀ U₀ L U r

pub lines_start : (n k : ℕ) (L U : List ℕ) → LinesInv n k L U L U false 0 0
lines_start n k L U = record { upto = omega arith; at = omega arith; ran = ran_none _ _ _ L U (λ w w<0. absurd (omega arith)) }

-- what holds of the table that a run left, besides
ran_also : {edge : ℕ} {P Q Q' : Table → Type 0} {L U L' U' : List ℕ} {r : Bool} → Ran edge P Q L U L' U' r → (Q (view L' U') → Q' (view L' U'))
    → Ran edge P Q' L U L' U' r
ran_also ran also = record { swept = ran.swept; size_l = ran.size_l; size_u = ran.size_u; rules = λ none. also (ran.rules none) }

module _ {n k v base : ℕ} {L U L' U' L'' U'' : List ℕ} {r s : Bool} (v<k : v < k) (inv : LinesInv n k L U L' U' r v base) (did : Did
    (base + n + 1) (Line base n) L' U' L'' U'' s) where
  pub lines_turn : {b : Bool} → Uncrossed base (n + 1) (view L'' U'') → b ≡ (r || s) → LinesInv n k L U L'' U'' b (v + 1) (base + (n + 1))
  lines_turn uncrossed flag =
      record {
        upto = omega arith;
        at = omega (arith, inv.at);
        ran =
            ran_more inv.ran (ran_also (rw inv.at at did) (λ line. record { line = line; uncrossed = rw inv.at at uncrossed }))
            (omega (arith, line_below v k (n + 1) v<k)) (λ T closed. closed.along v v<k) (λ T lines kept. below_more (λ w. LineKept n w T) v lines kept) flag;
      }

  -- the tables as that loop has them after its call of line
  lines_narrow : Narrows (size n k) (ClosedBySums n k) (view L U) (view L'' U'')
  lines_narrow =
      ((ran_more {Q' = λ T. Lines n v T} inv.ran (rw inv.at at did) (omega (arith, line_below v k (n + 1) v<k)) (λ T closed. closed.along v v<k)
      (λ T lines line. lines) refl).swept (size n k) (le_refl _)).narrows

-- ---- the sweeps
pub record SweepsInv (n k : ℕ) (L₀ U₀ L U : List ℕ) : Type 0 where
  pub size_l : length L ≡ length L₀
  pub size_u : length U ≡ length U₀
  pub narrows : Narrows (size n k) (ClosedBySums n k) (view L₀ U₀) (view L U)

pub sweeps_start : (n k : ℕ) (L U : List ℕ) → SweepsInv n k L U L U
sweeps_start n k L U = record { size_l = refl; size_u = refl; narrows = narrows_refl _ _ _ }

-- every line, then every prefix
pub sweep_ran : {n k v base : ℕ} {L U L' U' L'' U'' : List ℕ} {r s b : Bool} → k ≤ v → LinesInv n k L U L' U' r v base
    → Did (size n k) (Columns n k (n + 1)) L' U' L'' U'' s → b ≡ (r || s) → Did (size n k) (ClosedBySums n k) L U L'' U'' b
sweep_ran {n} {k} {v} k≤v inv did flag =
    let all : v ≡ k = omega (arith, inv.upto) in
    ran_more (rw all at inv.ran) did (le_refl _) (λ T closed t t<n+1. closed.across t (omega arith))
    (λ T lines columns.
    record { along = λ w w<k. (lines w w<k).line; across = λ t t≤n. columns t (omega arith); uncrossed = λ w t w<k t≤n. (lines w w<k).uncrossed t (omega arith) })
    flag

module _ {n k : ℕ} {L₀ U₀ L U : List ℕ} (inv : SweepsInv n k L₀ U₀ L U) where
  pub sweeps_turn : {L' U' : List ℕ} {r : Bool} → Did (size n k) (ClosedBySums n k) L U L' U' r → SweepsInv n k L₀ U₀ L' U'
  sweeps_turn did =
      record {
        size_l = did.size_l ∙ inv.size_l;
        size_u = did.size_u ∙ inv.size_u;
        narrows = narrows_trans inv.narrows (did.swept (size n k) (le_refl _)).narrows;
      }

  pub sweeps_loosest : {L' U' : List ℕ} {r : Bool} → Did (size n k) (ClosedBySums n k) L U L' U' r → r ≡ false → Loosest n k (view L₀ U₀) (view L' U')
  sweeps_loosest did none = narrows_loosest n k _ _ (sweeps_turn did).narrows (did.rules none)

  -- the lower is above the upper at prefix t of the line at base
  pub sweeps_crossed : {v base : ℕ} (t : ℕ) {L' U' L'' U'' : List ℕ} {r s : Bool} → v < k → t ≤ n → LinesInv n k L U L' U' r v base
      → Did (base + n + 1) (Line base n) L' U' L'' U'' s → get_or U'' (base + t) 0 < get_or L'' (base + t) 0 → NoneClosed n k (view L₀ U₀)
  sweeps_crossed {v} t {L'' = L''} {U''} v<k t≤n lines did crossed =
      crossed_none n k _ (view L'' U'') (narrows_trans inv.narrows (lines_narrow v<k lines did)) v t v<k t≤n (rw lines.at at crossed)

  -- no table with the rules across the values lies within what the lines left
  pub sweeps_none : {v base : ℕ} {L' U' : List ℕ} {r : Bool} → LinesInv n k L U L' U' r v base
      → ((T : Table) → Columns n k (n + 1) T → Within (size n k) (view L' U') T → ⊥) → NoneClosed n k (view L₀ U₀)
  sweeps_none lines empty T closed within =
      let sums = closed_by_sums n k T closed in
      empty T (λ t t<n+1. sums.across t (omega arith)) ((lines.ran.swept (size n k) (le_refl _)).narrows.keeps T sums (inv.narrows.keeps T sums within))
