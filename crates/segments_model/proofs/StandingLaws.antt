-- The laws of `standing_in`, `stands_at` and `standing` of specs/Cells.antt. The one that matters: `standing_words`, cells that are above 0
-- just where a prefix from 1 to n stands hold as many segments as there are such prefixes. No contract cites this file. Assumes nothing.
use mathlib.Core.Path.{◌≡◌, refl, sym, ap, ◌∙◌}
use mathlib.Core.Bool.{Bool, true, false, ◌&&◌, and-eq-true_iff}
use mathlib.Core.Logic.{dite}
use mathlib.Core.List.{List}
use Prim.Native.Nat.{ℕ, ◌+◌, ◌≤◌, ◌<◌}
use native.Mathlib.Decide.{dec_lt}
use native.Mathlib.Omega.{arith}
use lib.ListN.{get_or}
use lib.Dec.{eqb, ltb, leb}
use borrow.Author.Tests.{lt-ltb, le-ltb, ltb-true, le-leb, leb-true, eq-eqb, eqb-true}
use Rattle.domains.specs.Counts.{bit}
use Rattle.segments_model.specs.Cells.{up_to, Stands, standing_in, stands_at, standing}
use Rattle.segments_model.proofs.SumLaws.{up_to_none, up_to_next, up_to_grows, up_to_above, up_to_ext, up_to_flat}

-- ---- standing_in

pub standing_in_more : (cells : List ℕ) (t : ℕ) → 0 < get_or cells (t + 1) 0 → standing_in cells (t + 1) ≡ standing_in cells t + 1
standing_in_more cells t some =
    up_to_next (λ i. bit (ltb 0 (get_or cells i 0))) t ∙ ap (λ (b : Bool). standing_in cells t + bit b) (lt-ltb 0 (get_or cells (t + 1) 0) some)

pub standing_in_same : (cells : List ℕ) (t : ℕ) → get_or cells (t + 1) 0 ≡ 0 → standing_in cells (t + 1) ≡ standing_in cells t
standing_in_same cells t none =
    up_to_next (λ i. bit (ltb 0 (get_or cells i 0))) t ∙ ap (λ (b : Bool). standing_in cells t + bit b) (le-ltb 0 (get_or cells (t + 1) 0) (omega arith))
    ∙ omega arith

-- ---- stands_at

bit_false : (b : Bool) → (b ≡ true → ⊥) → bit b ≡ 0
bit_false true never = absurd (never refl)
bit_false false never = refl

module _ (n : ℕ) (C : ℕ → Bool) (f : ℕ → ℕ) (t : ℕ) where
  -- u is a later corner with no more slack
  abbrev lower : ℕ → Bool
  lower u = ltb t u && C u && leb (f u) (f t)

  lower_later : (u : ℕ) → lower u ≡ true → (t < u) × (C u ≡ true) × (f u ≤ f t)
  lower_later u e =
      let both = (and-eq-true_iff (ltb t u && C u) (leb (f u) (f t))).0 e in
      let later = (and-eq-true_iff (ltb t u) (C u)).0 both.0 in
      (ltb-true t u later.0, later.1, leb-true (f u) (f t) both.1)

  later_lower : (u : ℕ) → t < u → C u ≡ true → f u ≤ f t → lower u ≡ true
  later_lower u t<u corner less = rw (lt-ltb t u t<u, corner) (le-leb (f u) (f t) less)

  pub stands_at_stands : stands_at n C f t ≡ true → Stands n C f t
  unfolding stands_at
  stands_at_stands e =
      let both = (and-eq-true_iff (C t && ltb 0 (f t)) (eqb (up_to (λ u. bit (lower u)) n) 0)).0 e in
      let here = (and-eq-true_iff (C t) (ltb 0 (f t))).0 both.0 in
      let none = eqb-true (up_to (λ u. bit (lower u)) n) 0 both.1 in
      record {
        corner = here.0;
        slack = ltb-true 0 (f t) here.1;
        least = λ u t<u u≤n corner.
            dite (dec_lt (f t) (f u)) (λ less. less)
            (λ more.
            absurd
            (omega (
              arith,
              none,
              ap bit (later_lower u t<u corner (omega arith)),
              up_to_above (λ w. bit (lower w)) 0 u (omega arith),
              up_to_grows (λ w. bit (lower w)) u n u≤n,
            )));
      }

  pub stands_stands_at : Stands n C f t → stands_at n C f t ≡ true
  unfolding stands_at
  stands_stands_at stands =
      let none : up_to (λ u. bit (lower u)) n ≡ 0 =
      up_to_flat (λ u. bit (lower u)) 0 n (omega arith)
      (λ u 0<u u≤n.
      bit_false (lower u)
      (λ e. let later = lower_later u e in omega (arith, stands.least u later.0 u≤n later.1, later.2)))
      ∙ up_to_none (λ u. bit (lower u)) in
      rw (stands.corner, lt-ltb 0 (f t) stands.slack) (eq-eqb (up_to (λ u. bit (lower u)) n) 0 none)

-- ---- standing

pub standing_words : (n : ℕ) (C : ℕ → Bool) (f : ℕ → ℕ) (cells : List ℕ)
    → ((t : ℕ) → 0 < t → t ≤ n → 0 < get_or cells t 0 → Stands n C f t) → ((t : ℕ) → 0 < t → t ≤ n → Stands n C f t → 0 < get_or cells t 0)
    → standing_in cells n ≡ standing n C f
standing_words n C f cells stands held =
    up_to_ext (λ t. bit (ltb 0 (get_or cells t 0))) (λ t. bit (stands_at n C f t)) n
    (λ t 0<t t≤n.
    dite (dec_lt 0 (get_or cells t 0))
    (λ some. ap bit (lt-ltb 0 (get_or cells t 0) some ∙ sym (stands_stands_at n C f t (stands t 0<t t≤n some))))
    (λ none.
    ap bit (le-ltb 0 (get_or cells t 0) (omega arith))
    ∙ sym (bit_false (stands_at n C f t) (λ e. none (held t 0<t t≤n (stands_at_stands n C f t e))))))
