-- The rules along a line (`Fwd`, `Bwd`, `Fwds`, `Bwds`, `Stairs`, `Line` of `specs/Sweep.antt`). No contract cites this file.
-- `forward_made`, `backward_made`: what two stores at one pair do. `StairsInv`, `ForwardInv`, `BackwardInv`: the invariants of the loops, `stairs_more`,
-- `forward_more` and `backward_more` their turns. `line_kept`: no pass over a line that keeps its rules; `line_moved`: both over one that does not.
-- Assumes nothing.
use mathlib.Core.Path.{◌≡◌, refl, ◌∙◌}
use mathlib.Core.Bool.{Bool, true, false, ◌||◌}
use mathlib.Core.List.{List}
use Prim.Native.Nat.{ℕ, ◌+◌, ◌-◌, ◌≤◌, ◌<◌, zero-le}
use native.Mathlib.Nat.{le_refl, le_trans, add-zero}
use native.Mathlib.Decide.{ℕ_discrete}
use native.Mathlib.Omega.{arith}
use lib.Bits.{bit_or}
use lib.Dec.{ltb}
use lib.ListN.{length, get_or}
use borrow.Author.Count.{below_more}
use borrow.Author.Tests.{ltb-false}
use Rattle.closing_model.specs.Table.{Table, view}
use Rattle.closing_model.specs.Sweep.{Fwd, Bwd, Fwds, Bwds, Stairs, Decides, Line, raised, lowered, Stored, Ran, Did, Passed}
use Rattle.closing_model.proofs.EitherLaws.{either_gathers, either_one}
use Rattle.closing_model.proofs.SweptLaws.{raise_swept, lower_swept, swept_trans}
use Rattle.closing_model.proofs.RanLaws.{or_false, ran_of, ran_none, ran_more, ran_weaken}

-- ---- one pair of a line
module _ (L U : List ℕ) (p : ℕ) (inside_l : p + 1 < length L) (inside_u : p + 1 < length U) where
  forward_did : get_or L p 0 < 65536
      → Did (p + 2) (Fwd p) L U (raised L (p + 1) (get_or L p 0)) (lowered U (p + 1) (get_or U p 0 + 1))
      (ltb (get_or L (p + 1) 0) (get_or L p 0) || ltb (get_or U p 0 + 1) (get_or U (p + 1) 0))
  forward_did fits =
      ran_of
      (λ m edge≤m.
      swept_trans (raise_swept m (Fwd p) L U (p + 1) (get_or L p 0) inside_l fits (λ T rules within. le_trans (within.lowers p (omega arith)) rules.lower))
      (lower_swept m (Fwd p) (raised L (p + 1) (get_or L p 0)) U (p + 1) (get_or U p 0 + 1) inside_u
      (λ T rules within. omega (arith, within.uppers p (omega arith), rules.upper))))
      (λ none.
      let each = or_false (ltb (get_or L (p + 1) 0) (get_or L p 0)) (ltb (get_or U p 0 + 1) (get_or U (p + 1) 0)) none in
      rw (each.0, each.1) (record { lower = ltb-false _ _ each.0; upper = ltb-false _ _ each.1 }))

  backward_did : get_or L (p + 1) 0 - 1 < 65536
      → Did (p + 2) (Bwd p) L U (raised L p (get_or L (p + 1) 0 - 1)) (lowered U p (get_or U (p + 1) 0))
      (ltb (get_or L p 0) (get_or L (p + 1) 0 - 1) || ltb (get_or U (p + 1) 0) (get_or U p 0))
  backward_did fits =
      ran_of
      (λ m edge≤m.
      swept_trans
      (raise_swept m (Bwd p) L U p (get_or L (p + 1) 0 - 1) (omega arith) fits
      (λ T rules within. omega (arith, within.lowers (p + 1) (omega arith), rules.lower)))
      (lower_swept m (Bwd p) (raised L p (get_or L (p + 1) 0 - 1)) U p (get_or U (p + 1) 0) (omega arith)
      (λ T rules within. le_trans rules.upper (within.uppers (p + 1) (omega arith)))))
      (λ none.
      let each = or_false (ltb (get_or L p 0) (get_or L (p + 1) 0 - 1)) (ltb (get_or U (p + 1) 0) (get_or U p 0)) none in
      rw (each.0, each.1) (record { lower = omega (arith, ltb-false (get_or L p 0) (get_or L (p + 1) 0 - 1) each.0); upper = ltb-false _ _ each.1 }))

  -- the same of what the code reads and stores
  pub forward_made : {L' U' : List ℕ} {a b : ℕ} {r : Bool} → a ≡ get_or L p 0 → a < 65536 → b ≡ get_or U p 0 → Stored L U L' U' (p + 1) a (b + 1) r
      → Did (p + 2) (Fwd p) L U L' U' r
  forward_made a_is fits b_is stored = rw (stored.flag, stored.lowers, stored.uppers, a_is, b_is) (forward_did (rw a_is at fits))

  pub backward_made : {L' U' : List ℕ} {a b d : ℕ} {r : Bool} → a ≡ get_or L (p + 1) 0 → a < 65536 → b ≡ get_or U (p + 1) 0 → d ≡ a - 1
      → Stored L U L' U' p d b r → Did (p + 2) (Bwd p) L U L' U' r
  backward_made a_is fits b_is d_is stored =
      rw (stored.flag, stored.lowers, stored.uppers, d_is, a_is, b_is) (backward_did (let fits' = rw a_is at fits in omega arith))

-- ---- stairs
-- the first t pairs rise by at most rise and fall by at most fall, and these are at most 1 and 0 where the pairs are stairs
pub record StairsInv (f : ℕ → ℕ) (base n rise fall t : ℕ) : Type 0 where
  pub upto : t ≤ n
  pub rises : (i : ℕ) → i < t → f (base + i + 1) ≤ f (base + i) + rise
  pub falls : (i : ℕ) → i < t → f (base + i) ≤ f (base + i + 1) + fall
  pub exact : Stairs f base t → (rise ≤ 1) × (fall ≤ 0)

pub stairs_start : (f : ℕ → ℕ) (base n : ℕ) → StairsInv f base n 0 0 0
stairs_start f base n =
    record { upto = omega arith; rises = λ i i<0. absurd (omega arith); falls = λ i i<0. absurd (omega arith); exact = λ stairs. (omega arith, omega arith) }

pub stairs_more : (f : ℕ → ℕ) {base n rise fall t a b d e rise' fall' : ℕ} → StairsInv f base n rise fall t → t < n → a ≡ f (base + t) → b ≡ f (base + t + 1)
    → d ≡ b - a → rise' ≡ bit_or rise d → e ≡ a - b → fall' ≡ bit_or fall e → StairsInv f base n rise' fall' (t + 1)
stairs_more f {base} {rise = rise} {fall = fall} {t = t} {d = d} {e = e} {rise' = rise'} {fall' = fall'} inv t<n a_is b_is d_is rise_is e_is fall_is =
    let rises = either_gathers rise d rise_is in
    let falls = either_gathers fall e fall_is in
    record {
      upto = omega arith;
      rises = below_more (λ i. f (base + i + 1) ≤ f (base + i) + rise') t (λ i i<t. omega (arith, inv.rises i i<t, rises)) (omega (arith, rises));
      falls = below_more (λ i. f (base + i) ≤ f (base + i + 1) + fall') t (λ i i<t. omega (arith, inv.falls i i<t, falls)) (omega (arith, falls));
      exact = λ stairs.
          let before = inv.exact (λ i i<t. stairs i (omega arith)) in
          let last = stairs t (omega arith) in
          (either_one rise d rise_is before.0 (omega (arith, last.slowly)), omega (arith, before.1, last.grows, falls));
    }

module _ (f : ℕ → ℕ) {base n rise fall t : ℕ} (n≤t : n ≤ t) (inv : StairsInv f base n rise fall t) where
  pub stairs_done : rise ≤ 1 → fall ≤ 0 → Stairs f base n
  stairs_done rise≤1 fall≤0 i i<n =
      record { grows = omega (arith, inv.falls i (omega arith)); slowly = omega (arith, inv.rises i (omega arith)) }

  pub stairs_steep : 1 < rise → Stairs f base n → ⊥
  stairs_steep 1<rise stairs = omega (arith, (inv.exact (λ i i<t. stairs i (omega (arith, inv.upto)))).0)

  pub stairs_fall : 0 < fall → Stairs f base n → ⊥
  stairs_fall 0<fall stairs = omega (arith, (inv.exact (λ i i<t. stairs i (omega (arith, inv.upto)))).1)

-- ---- a line that keeps its rules
stairs_line : (base n : ℕ) (T : Table) → Stairs T.lower base n → Stairs T.upper base n → Line base n T
stairs_line base n T lowers uppers =
    record {
      fwd = λ t t<n. record { lower = (lowers t t<n).grows; upper = (uppers t t<n).slowly };
      bwd = λ t 0≤t t<n. record { lower = (lowers t t<n).slowly; upper = (uppers t t<n).grows };
    }

line_stairs_lower : (base n : ℕ) (T : Table) → Line base n T → Stairs T.lower base n
line_stairs_lower base n T line t t<n = record { grows = (line.fwd t t<n).lower; slowly = (line.bwd t zero-le t<n).lower }

line_stairs_upper : (base n : ℕ) (T : Table) → Line base n T → Stairs T.upper base n
line_stairs_upper base n T line t t<n = record { grows = (line.bwd t zero-le t<n).upper; slowly = (line.fwd t t<n).upper }

-- it keeps them where both of its bounds are stairs
pub line_decided : (base n : ℕ) (T : Table) (r : Bool) → Stairs T.lower base n → Decides (Stairs T.upper base n) r → Decides (Line base n T) r
line_decided base n T true lowers uppers = stairs_line base n T lowers uppers
line_decided base n T false lowers no_uppers = λ line. no_uppers (line_stairs_upper base n T line)

pub line_broken : (base n : ℕ) (T : Table) → (Stairs T.lower base n → ⊥) → Line base n T → ⊥
line_broken base n T no_lowers line = no_lowers (line_stairs_lower base n T line)

pub line_kept : (base n : ℕ) (L U : List ℕ) → Line base n (view L U) → Did (base + n + 1) (Line base n) L U L U false
line_kept base n L U line = ran_none _ _ _ L U line

-- ---- a pass
-- a and b are the bounds at t, and the run so far kept the rules of the line, which hold at the first t pairs where nothing was stored
pub record ForwardInv (base n : ℕ) (L₀ U₀ L U : List ℕ) (a b t : ℕ) : Type 0 where
  pub upto : t ≤ n
  pub lower : a ≡ get_or L (base + t) 0
  pub lower_fits : a < 65536
  pub upper : b ≡ get_or U (base + t) 0
  pub upper_fits : b < 65536
  pub stored : Bool
  pub ran : Ran (base + n + 1) (Fwds base n) (Fwds base t) L₀ U₀ L U stored
  pub size_l : length L ≡ length L₀
  pub size_u : length U ≡ length U₀

pub forward_start : (base n : ℕ) (L U : List ℕ) {a b : ℕ} → a ≡ get_or L base 0 → a < 65536 → b ≡ get_or U base 0 → b < 65536 → ForwardInv base n L U L U a b 0
forward_start base n L U lower lower_fits upper upper_fits =
    record {
      upto = omega arith;
      lower = rw (add-zero base) lower;
      lower_fits = lower_fits;
      upper = rw (add-zero base) upper;
      upper_fits = upper_fits;
      stored = false;
      ran = ran_none _ _ _ L U (λ i i<0. absurd (omega arith));
      size_l = refl;
      size_u = refl;
    }

pub forward_more : {base n : ℕ} {L₀ U₀ L U L' U' : List ℕ} {a b t a' b' : ℕ} → ForwardInv base n L₀ U₀ L U a b t → t < n
    → base + n < length L₀ → base + n < length U₀ → L' ≡ raised L (base + t + 1) a → U' ≡ lowered U (base + t + 1) (b + 1)
    → a' ≡ get_or L' (base + t + 1) 0 → a' < 65536 → b' ≡ get_or U' (base + t + 1) 0 → b' < 65536 → ForwardInv base n L₀ U₀ L' U' a' b' (t + 1)
forward_more {base} {n} {L} {U} {L'} {U'} {a} {b} {t} {a'} {b'} inv t<n long_l long_u raised_is lowered_is lower lower_fits upper upper_fits =
    let next : base + t + 1 ≡ base + (t + 1) = omega arith in
    let stored : Stored L U L' U' (base + t + 1) a (b + 1) (ltb (get_or L (base + t + 1) 0) a || ltb (b + 1) (get_or U (base + t + 1) 0)) =
    record { lowers = raised_is; uppers = lowered_is; flag = refl } in
    let made = forward_made L U (base + t) (omega (arith, inv.size_l)) (omega (arith, inv.size_u)) inv.lower inv.lower_fits inv.upper stored in
    record {
      upto = omega arith;
      lower = rw next at lower;
      lower_fits = lower_fits;
      upper = rw next at upper;
      upper_fits = upper_fits;
      stored = inv.stored || (ltb (get_or L (base + t + 1) 0) a || ltb (b + 1) (get_or U (base + t + 1) 0));
      ran = ran_more inv.ran made (omega arith) (λ T rules. rules t t<n) (λ T upto rule. below_more (λ i. Fwd (base + i) T) t upto rule) refl;
      size_l = made.size_l ∙ inv.size_l;
      size_u = made.size_u ∙ inv.size_u;
    }

pub forward_done : {base n : ℕ} {L₀ U₀ L U : List ℕ} {a b t : ℕ} → n ≤ t → ForwardInv base n L₀ U₀ L U a b t → Passed (base + n + 1) (Fwds base n) L₀ U₀ L U
forward_done n≤t inv = record { stored = inv.stored; did = ran_weaken (λ T rules. rules) (λ T upto i i<n. upto i (omega arith)) inv.ran }

-- the same with the pairs from t on
pub record BackwardInv (base n : ℕ) (L₀ U₀ L U : List ℕ) (a b t : ℕ) : Type 0 where
  pub upto : t ≤ n
  pub lower : a ≡ get_or L (base + t) 0
  pub lower_fits : a < 65536
  pub upper : b ≡ get_or U (base + t) 0
  pub stored : Bool
  pub ran : Ran (base + n + 1) (Bwds base 0 n) (Bwds base t n) L₀ U₀ L U stored
  pub size_l : length L ≡ length L₀
  pub size_u : length U ≡ length U₀

pub backward_start : (base n : ℕ) (L U : List ℕ) {a b : ℕ} → a ≡ get_or L (base + n) 0 → a < 65536 → b ≡ get_or U (base + n) 0 → BackwardInv base n L U L U a b n
backward_start base n L U lower lower_fits upper =
    record {
      upto = le_refl n;
      lower = lower;
      lower_fits = lower_fits;
      upper = upper;
      stored = false;
      ran = ran_none _ _ _ L U (λ i n≤i i<n. absurd (omega arith));
      size_l = refl;
      size_u = refl;
    }

-- what holds from t on, and at t - 1, holds from t - 1 on
from_more : (C : ℕ → Type 0) (n t : ℕ) → 0 < t → ((i : ℕ) → t ≤ i → i < n → C i) → C (t - 1) → (i : ℕ) → t - 1 ≤ i → i < n → C i
from_more C n t 0<t later first i t_1≤i i<n = go (ℕ_discrete i (t - 1))
  where
    go : Dec (i ≡ t - 1) → C i
    go (yes e) = rw e first
    go (no ne) = later i (omega arith) i<n

pub backward_more : {base n : ℕ} {L₀ U₀ L U L' U' : List ℕ} {a b t d a' b' : ℕ} → BackwardInv base n L₀ U₀ L U a b t → 0 < t
    → base + n < length L₀ → base + n < length U₀ → d ≡ a - 1 → L' ≡ raised L (base + (t - 1)) d → U' ≡ lowered U (base + (t - 1)) b
    → a' ≡ get_or L' (base + (t - 1)) 0 → a' < 65536 → b' ≡ get_or U' (base + (t - 1)) 0 → BackwardInv base n L₀ U₀ L' U' a' b' (t - 1)
backward_more {base} {n} {L} {U} {L'} {U'} {a} {b} {t} {d} inv 0<t long_l long_u d_is raised_is lowered_is lower lower_fits upper =
    let here : base + t ≡ base + (t - 1) + 1 = omega arith in
    let stored : Stored L U L' U' (base + (t - 1)) d b (ltb (get_or L (base + (t - 1)) 0) d || ltb b (get_or U (base + (t - 1)) 0)) =
    record { lowers = raised_is; uppers = lowered_is; flag = refl } in
    let made =
    backward_made L U (base + (t - 1)) (omega (arith, inv.size_l, inv.upto)) (omega (arith, inv.size_u, inv.upto)) (rw here at inv.lower)
    inv.lower_fits (rw here at inv.upper) d_is stored in
    record {
      upto = omega (arith, inv.upto);
      lower = lower;
      lower_fits = lower_fits;
      upper = upper;
      stored = inv.stored || (ltb (get_or L (base + (t - 1)) 0) d || ltb b (get_or U (base + (t - 1)) 0));
      ran =
          ran_more inv.ran made (omega (arith, inv.upto)) (λ T rules. rules (t - 1) zero-le (omega (arith, inv.upto)))
          (λ T later rule. from_more (λ i. Bwd (base + i) T) n t 0<t later rule) refl;
      size_l = made.size_l ∙ inv.size_l;
      size_u = made.size_u ∙ inv.size_u;
    }

pub backward_done : {base n : ℕ} {L₀ U₀ L U : List ℕ} {a b t : ℕ} → t ≤ 0 → BackwardInv base n L₀ U₀ L U a b t → Passed (base + n + 1) (Bwds base 0 n) L₀ U₀ L U
backward_done t≤0 inv = record { stored = inv.stored; did = ran_weaken (λ T rules. rules) (λ T upto i 0≤i i<n. upto i (omega arith) i<n) inv.ran }

-- ---- both passes
line_did : (base n : ℕ) {L U L' U' L'' U'' : List ℕ} {r s b : Bool} → Did (base + n + 1) (Fwds base n) L U L' U' r
    → Did (base + n + 1) (Bwds base 0 n) L' U' L'' U'' s → b ≡ (r || s) → Did (base + n + 1) (Line base n) L U L'' U'' b
line_did base n forth back flag =
    ran_more (ran_weaken (λ T line. line.fwd) (λ T fwd. fwd) forth) back (le_refl _) (λ T line. line.bwd) (λ T fwd bwd. record { fwd = fwd; bwd = bwd }) flag

-- passes that store nothing leave a line that keeps its rules: over another line they store
pub line_moved : (base n : ℕ) {L U L' U' L'' U'' : List ℕ} → (Line base n (view L U) → ⊥) → Passed (base + n + 1) (Fwds base n) L U L' U'
    → Passed (base + n + 1) (Bwds base 0 n) L' U' L'' U'' → Did (base + n + 1) (Line base n) L U L'' U'' true
line_moved base n {L} {U} {L'} {U'} {L''} {U''} broken forth back = go (forth.stored || back.stored) (line_did base n forth.did back.did refl)
  where
    go : (b : Bool) → Did (base + n + 1) (Line base n) L U L'' U'' b → Did (base + n + 1) (Line base n) L U L'' U'' true
    go true did = did
    go false did =
        let still = (did.swept (base + n + 1) (le_refl (base + n + 1))).still refl in
        absurd (broken (rw (still.0, still.1) at (did.rules refl)))
