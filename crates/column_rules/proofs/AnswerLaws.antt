-- The laws of `specs/Answer.antt`. No contract cites this file. `SumsInv`: the invariant of a loop that sums a column, `sums_start`,
-- `sums_more` and `sums_done` its start, turn and end; `between_turn`: the rules at one prefix more; `ran_empty`: none are left.
-- Assumes nothing.
use mathlib.Core.Path.{◌≡◌, refl, sym}
use mathlib.Core.Bool.{Bool, ◌||◌}
use mathlib.Core.List.{List}
use mathlib.Core.Logic.{dite}
use Prim.Native.Nat.{ℕ, ◌+◌, ◌-◌, ◌*◌, ◌≤◌, ◌<◌, max}
use native.Mathlib.Decide.{ℕ_discrete}
use native.Mathlib.Nat.{le_refl}
use native.Mathlib.Omega.{arith}
use Rattle.closing_model.specs.Table.{Table, view, size, place, Within}
use Rattle.closing_model.specs.Sweep.{column_sum, widest, Across, Ran, Did}
use Rattle.closing_model.proofs.SumLaws.{column_sum_none, column_sum_more, widest_none, widest_more}
use Rattle.closing_model.proofs.RanLaws.{ran_more}
use Rattle.column_rules.specs.Answer.{SumsMatch, Between}

-- ---- SumsMatch
-- the invariant of the loop over the values: the sums and the gap are those of the first v
pub record SumsInv (n t : ℕ) (T : Table) (sl su gap v : ℕ) : Type 0 where
  pub lowers : sl ≡ column_sum n v T.lower t
  pub lowers_fit : sl ≤ 65535 * v
  pub uppers : su ≡ column_sum n v T.upper t
  pub uppers_fit : su ≤ 65535 * v
  pub gap_is : gap ≡ widest n v T t
  pub gap_fits : gap < 65536

pub sums_start : (n t : ℕ) (T : Table) → SumsInv n t T 0 0 0 0
sums_start n t T =
    record {
      lowers = column_sum_none n t T.lower;
      lowers_fit = omega arith;
      uppers = column_sum_none n t T.upper;
      uppers_fit = omega arith;
      gap_is = widest_none n t T;
      gap_fits = omega arith;
    }

pub sums_more : {n t : ℕ} (T : Table) {sl su gap v a b d gap' : ℕ} → SumsInv n t T sl su gap v → a ≡ T.lower (place n v t) → a < 65536
    → b ≡ T.upper (place n v t) → b < 65536 → d ≡ b - a → gap' ≡ max gap d → SumsInv n t T (sl + a) (su + b) gap' (v + 1)
sums_more {n} {t} T {v = v} inv a_is a_fits b_is b_fits d_is gap_is =
    let p = place n v t in
    record {
      lowers = column_sum_more n t T.lower v p inv.lowers refl a_is;
      lowers_fit = omega (arith, inv.lowers_fit);
      uppers = column_sum_more n t T.upper v p inv.uppers refl b_is;
      uppers_fit = omega (arith, inv.uppers_fit);
      gap_is = widest_more n t T v p inv.gap_is refl a_is b_is d_is gap_is;
      gap_fits = omega (arith, inv.gap_fits);
    }

pub sums_done : {n k t : ℕ} (T : Table) {sl su gap v : ℕ} → v ≡ k → SumsInv n t T sl su gap v
    → SumsMatch n k t T (record { lowers = sl; uppers = su; gap = gap })
sums_done T whole inv =
    record {
      sums = record { uppers = sym (rw whole at inv.uppers); lowers = sym (rw whole at inv.lowers) };
      gap = rw whole at inv.gap_is;
      gap_fits = inv.gap_fits;
      lowers_fit = rw whole at inv.lowers_fit;
    }

-- ---- Between
-- where what a run left holds no table with some of the rules, what it began with holds none with all
pub ran_empty : {edge : ℕ} {P Q R : Table → Type 0} {L U L' U' : List ℕ} {r : Bool} → Ran edge P Q L U L' U' r → ((T : Table) → P T → R T)
    → ((T : Table) → R T → Within edge (view L' U') T → ⊥) → (T : Table) → P T → Within edge (view L U) T → ⊥
ran_empty {edge} ran p⇒r empty T rules within = empty T (p⇒r T rules) ((ran.swept edge (le_refl edge)).narrows.keeps T rules within)

-- one prefix more
pub between_turn : (n k from end t : ℕ) {L U L' U' L'' U'' : List ℕ} {r s b : Bool} → from ≤ t → t < end
    → Ran (size n k) (Between n k from end) (Between n k from t) L U L' U' r → Did (size n k) (Across n k t) L' U' L'' U'' s → b ≡ (r || s)
    → Ran (size n k) (Between n k from end) (Between n k from (t + 1)) L U L'' U'' b
between_turn n k from end t from≤t t<end ran did flag =
    ran_more ran did (le_refl _) (λ T rules. rules t from≤t t<end)
    (λ T upto rule i from≤i i≤t. dite (ℕ_discrete i t) (λ same. rw same rule) (λ other. upto i from≤i (omega arith))) flag
