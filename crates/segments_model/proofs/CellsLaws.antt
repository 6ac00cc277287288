-- The laws of `Spent` and `Cells` of specs/Cells.antt. `cells_unique`, `cells_unique_list`: one list of cells for each n, C and f.
-- `cells_same`, `held_same`: only the corners and slacks of the prefixes 1 to n matter. No contract cites this file. Assumes nothing.
use mathlib.Core.Path.{◌≡◌, sym, ◌∙◌}
use mathlib.Core.Bool.{Bool}
use mathlib.Core.Logic.{dite}
use mathlib.Core.List.{List}
use Prim.Native.Nat.{ℕ, zero, suc, ◌+◌, ◌≤◌, ◌<◌}
use native.Mathlib.Decide.{dec_lt}
use native.Mathlib.Omega.{arith}
use lib.ListN.{length, get_or}
use lib.Seq.{ext_get_or}
use Rattle.segments_model.specs.Cells.{sum_to, Stands, Spent, Cells}
use Rattle.segments_model.specs.Links.{gaps, Held}
use Rattle.segments_model.proofs.SumLaws.{up_to_none, up_to_suc}

-- ---- one list of cells

spent_least : {n : ℕ} {C : ℕ → Bool} {f : ℕ → ℕ} {y z : ℕ} → Spent n C f y → Spent n C f z → z ≤ y
spent_least {y = y} {z = z} a b =
    dite (dec_lt y z) (λ y<z. absurd (omega (arith, a.last z y<z b.inside (b.corner (omega arith)), b.none (omega arith)))) (λ z≤y. omega arith)

module _ (n : ℕ) (C : ℕ → Bool) (f : ℕ → ℕ) (a b : List ℕ) (held_a : Cells n C f a) (held_b : Cells n C f b) where
  sums_unique : (t : ℕ) → t ≤ n → sum_to a t ≡ sum_to b t
  sums_unique zero t≤n = up_to_none (λ i. get_or a i 0) ∙ sym (up_to_none (λ i. get_or b i 0))
  sums_unique (suc t) t≤n =
      dite (dec_lt 0 (get_or a (suc t) 0))
      (λ some.
      let stands = held_a.stands (suc t) (omega arith) t≤n some in
      held_a.sums (suc t) (omega arith) t≤n stands ∙ sym (held_b.sums (suc t) (omega arith) t≤n stands))
      (λ none_a.
      dite (dec_lt 0 (get_or b (suc t) 0))
      (λ some. absurd (none_a (held_a.held (suc t) (omega arith) t≤n (held_b.stands (suc t) (omega arith) t≤n some))))
      (λ none_b. omega (arith, up_to_suc (λ i. get_or a i 0) t, up_to_suc (λ i. get_or b i 0) t, sums_unique t (omega arith))))

  pub cells_unique : (t : ℕ) → t ≤ n → get_or a t 0 ≡ get_or b t 0
  cells_unique zero t≤n = omega (arith, spent_least held_a.spent held_b.spent, spent_least held_b.spent held_a.spent)
  cells_unique (suc t) t≤n =
      omega (arith, up_to_suc (λ i. get_or a i 0) t, up_to_suc (λ i. get_or b i 0) t, sums_unique (suc t) t≤n, sums_unique t (omega arith))

pub cells_unique_list : (n : ℕ) (C : ℕ → Bool) (f : ℕ → ℕ) (a b : List ℕ) → Cells n C f a → Cells n C f b → length a ≡ n + 1 → length b ≡ n + 1 → a ≡ b
cells_unique_list n C f a b held_a held_b size_a size_b =
    ext_get_or 0 a b (size_a ∙ sym size_b) (λ i inside. cells_unique n C f a b held_a held_b i (omega arith))

-- ---- the same corners and slacks from 1 to n, the same cells

stands_same : {n t : ℕ} {C D : ℕ → Bool} {f g : ℕ → ℕ} → ((i : ℕ) → 0 < i → i ≤ n → C i ≡ D i) → ((i : ℕ) → 0 < i → i ≤ n → f i ≡ g i)
    → 0 < t → t ≤ n → Stands n C f t → Stands n D g t
stands_same {t = t} corners slacks 0<t t≤n stands =
    record {
      corner = sym (corners t 0<t t≤n) ∙ stands.corner;
      slack = omega (arith, slacks t 0<t t≤n, stands.slack);
      least = λ u t<u u≤n corner.
          omega (arith, slacks t 0<t t≤n, slacks u (omega arith) u≤n, stands.least u t<u u≤n (corners u (omega arith) u≤n ∙ corner));
    }

module _ (n : ℕ) (C D : ℕ → Bool) (f g : ℕ → ℕ) (cells : List ℕ) where
  pub cells_same : ((i : ℕ) → 0 < i → i ≤ n → C i ≡ D i) → ((i : ℕ) → 0 < i → i ≤ n → f i ≡ g i) → Cells n C f cells → Cells n D g cells
  cells_same corners slacks held =
      let spent = held.spent in
      let corners_back : (i : ℕ) → 0 < i → i ≤ n → D i ≡ C i = λ i 0<i i≤n. sym (corners i 0<i i≤n) in
      let slacks_back : (i : ℕ) → 0 < i → i ≤ n → g i ≡ f i = λ i 0<i i≤n. sym (slacks i 0<i i≤n) in
      record {
        spent = record {
          inside = spent.inside;
          corner = λ 0<z. corners_back (get_or cells 0 0) 0<z spent.inside ∙ spent.corner 0<z;
          none = λ 0<z. slacks_back (get_or cells 0 0) 0<z spent.inside ∙ spent.none 0<z;
          last = λ u z<u u≤n corner. omega (arith, slacks u (omega arith) u≤n, spent.last u z<u u≤n (corners u (omega arith) u≤n ∙ corner));
        };
        stands = λ t 0<t t≤n some. stands_same corners slacks 0<t t≤n (held.stands t 0<t t≤n some);
        held = λ t 0<t t≤n stands. held.held t 0<t t≤n (stands_same corners_back slacks_back 0<t t≤n stands);
        sums = λ t 0<t t≤n stands. held.sums t 0<t t≤n (stands_same corners_back slacks_back 0<t t≤n stands) ∙ slacks t 0<t t≤n;
      }

pub held_same : (n : ℕ) (C D : ℕ → Bool) (f g : ℕ → ℕ) (cells : List ℕ)
    → ((i : ℕ) → 0 < i → i ≤ n → C i ≡ D i) → ((i : ℕ) → 0 < i → i ≤ n → f i ≡ g i) → Held n C f cells → Held n D g cells
held_same n C D f g cells corners slacks held =
    record { cells = cells_same n C D f g (gaps cells) corners slacks held.cells; linked = held.linked }
