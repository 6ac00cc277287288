-- The laws of `specs/Built.antt`: one row more (`rows_more`), a broken row (`rows_broken`), the set of open slots (`word_more`,
-- `marked_more`), and all together (`all_broken_low`, `all_broken_high`, `all_built`). No contract cites this file. Assumes nothing.
use mathlib.Core.Path.{◌≡◌, refl, ap, subst, ◌∙◌}
use mathlib.Core.Bool.{Bool, true, false, not}
use mathlib.Core.Logic.{inl, dite}
use mathlib.Core.List.{List}
use Prim.Native.Nat.{ℕ, suc, ◌+◌, ◌*◌, ◌/◌, ◌%◌, ◌^◌, ◌≤◌, ◌<◌}
use native.Mathlib.Nat.{le_refl, pow-suc}
use native.Mathlib.Decide.{ℕ_discrete}
use native.Mathlib.Omega.{arith}
use lib.Count.{ones}
use lib.ListN.{length, get_or, set, length-set}
use lib.Seq.{get_or-set_same, get_or-set_other}
use Rattle.domains.specs.Mask.{test_bit}
use Rattle.domains.proofs.MaskLaws.{test_bit_high, test_bit_put_same, test_bit_put_other}
use Rattle.closing_model.specs.Table.{Table}
use Rattle.closing_model.specs.Corners.{bound_line}
use Rattle.segments_model.specs.Lines.{Rising, Segments}
use Rattle.segments_model.specs.Part.{Lent}
use Rattle.segments_model.proofs.PartLaws.{lent_apart}
use Rattle.building.specs.Built.{BuildAnswer, Built}
use Rattle.filter_model.specs.Mirror.{row, cells_of}
use Rattle.filter_model.specs.Open.{words_at, cells_size, OpenSlots}
use Rattle.filter_model.specs.Rises.{rises_of, TableRises}
use Rattle.filter_model.proofs.RisesLaws.{rises_mirror}
use Rattle.filter_model.proofs.RowLaws.{row_inside, lent_row}
use Rattle.mirroring.specs.Built.{Building, RowsBuilt, WordOf, Marked, BuildMeaning, AllBuilt}

-- ---- row
row_below : (kind : Bool) (k v : ℕ) → v < k → row kind k v < k + k
row_below true k v v<k = omega arith
row_below false k v v<k = omega arith

row_apart : (kind : Bool) (k v x : ℕ) → (x ≡ v → ⊥) → row kind k x ≡ row kind k v → ⊥
row_apart true k v x x≢v same = x≢v same
row_apart false k v x x≢v same = x≢v (omega arith)

row_kinds : (kind : Bool) (k v x : ℕ) → v < k → x < k → row (not kind) k x ≡ row kind k v → ⊥
row_kinds true k v x v<k x<k same = omega arith
row_kinds false k v x v<k x<k same = omega arith

row_from : (kind : Bool) (k v first : ℕ) → first ≡ row kind k 0 → first + v ≡ row kind k v
row_from true k v first first_is = omega arith
row_from false k v first first_is = omega arith

pub row_from_below : (kind : Bool) (k v first : ℕ) → first ≡ row kind k 0 → v < k → first + v < k + k
row_from_below kind k v first first_is v<k = rw (row_from kind k v first first_is) (row_below kind k v v<k)

-- a row of the kind lies within the cells
pub row_fits : {cells rises masks : List ℕ} {n k : ℕ} → Building cells rises masks n k → (kind : Bool) (v first : ℕ) → first ≡ row kind k 0 → v < k
    → (first + v) * (n + 2) + n + 1 < length cells
row_fits {n = n} {k = k} building kind v first first_is v<k =
    rw (row_from kind k v first first_is) (omega (arith, row_inside n (k + k) (row kind k v) (row_below kind k v v<k), building.rows))

-- ---- RowsBuilt
pub rows_none : (kind : Bool) (n k : ℕ) (rises masks cells : List ℕ) → RowsBuilt kind n k rises masks cells cells 0 true
rows_none kind n k rises masks cells = record { size = refl; others = λ x x<k. refl; answer = λ x x<0. absurd (omega arith) }

-- the row of v, after those of the values below it
module _ {kind : Bool} {n k : ℕ} {rises masks cells cells₁ cells₂ : List ℕ} {v first : ℕ} {b : Bool} (building : Building cells rises masks n k)
    (first_is : first ≡ row kind k 0) (v<k : v < k) (done : RowsBuilt kind n k rises masks cells cells₁ v true)
    (built : Lent ((first + v) * (n + 2)) (n + 2) (λ l l'. Built kind n v rises masks l l' b) cells₁ cells₂) where
  lent : Lent (row kind k v * (n + 2)) (n + 2) (λ l l'. Built kind n v rises masks l l' b) cells₁ cells₂
  lent = rw (row_from kind k v first first_is) at built

  other_row : (kind' : Bool) (x : ℕ) → x < k → (row kind' k x ≡ row kind k v → ⊥) → cells_of kind' n k x cells₂ ≡ cells_of kind' n k x cells₁
  other_row kind' x x<k apart =
      lent_row n (k + k) (row kind k v) (row kind' k x) lent (omega (arith, building.rows, done.size)) (row_below kind' k x x<k) apart

  others_same : (x : ℕ) → x < k → cells_of (not kind) n k x cells₂ ≡ cells_of (not kind) n k x cells
  others_same x x<k = other_row (not kind) x x<k (row_kinds kind k v x v<k x<k) ∙ done.others x x<k

  answer_at : (r : Bool) → b ≡ r → (u : ℕ → ℕ) → Rising n v rises u → BuildAnswer kind n u masks v (cells_of kind n k v cells₂) r
  answer_at r is u rising = subst (λ (x : Bool). BuildAnswer kind n u masks v (cells_of kind n k v cells₂) x) is (lent.does.answer u rising)

  pub rows_more : b ≡ true → RowsBuilt kind n k rises masks cells cells₂ (v + 1) true
  rows_more is_true =
      record {
        size = lent.size ∙ done.size;
        others = others_same;
        answer = λ x x≤v.
            dite (ℕ_discrete x v) (λ last. rw last (answer_at true is_true))
            (λ before. rw (other_row kind x (omega arith) (row_apart kind k v x before)) (done.answer x (omega arith)));
      }

  pub rows_broken : b ≡ false → RowsBuilt kind n k rises masks cells cells₂ k false
  rows_broken is_false = record { size = lent.size ∙ done.size; others = others_same; answer = (v, v<k, answer_at false is_false) }

pub rows_all : {kind : Bool} {n k : ℕ} {rises masks cells cells' : List ℕ} {v : ℕ} → k ≤ v → RowsBuilt kind n k rises masks cells cells' v true
    → RowsBuilt kind n k rises masks cells cells' k true
rows_all k≤v done = record { size = done.size; others = done.others; answer = λ x x<k. done.answer x (omega arith) }

pub rows_at : {kind : Bool} {n k : ℕ} {rises masks cells cells' : List ℕ} {v : ℕ} {r r' : Bool} → r ≡ r'
    → RowsBuilt kind n k rises masks cells cells' v r → RowsBuilt kind n k rises masks cells cells' v r'
rows_at {kind} {n} {k} {rises} {masks} {cells} {cells'} {v} is done =
    subst (λ (b : Bool). RowsBuilt kind n k rises masks cells cells' v b) is done

-- ---- WordOf
pub word_none : (masks : List ℕ) (n base : ℕ) → WordOf masks n base 0 0
word_none masks n base = record { below = omega arith; each = λ j j<0. absurd (omega arith) }

module _ {masks : List ℕ} {n base i x : ℕ} (word : WordOf masks n base i x) where
  pow_next : 2 ^ (i + 1) ≡ 2 ^ suc i
  pow_next = let next : i + 1 ≡ suc i = omega arith in ap (λ (j : ℕ). 2 ^ j) next

  -- slot base + i is not open, or it is put in
  pub word_skip : (base + i < n → 1 < ones (get_or masks (base + i) 0) → ⊥) → WordOf masks n base (i + 1) x
  word_skip closed =
      record {
        below = omega (arith, word.below, pow-suc 2 i, pow_next);
        each = λ j j≤i inside many.
            dite (ℕ_discrete j i) (λ last. absurd (closed (rw last at inside) (rw last at many))) (λ before. word.each j (omega arith) inside many);
      }

  pub word_lacks : test_bit x i ≡ 0
  word_lacks = test_bit_high i x i word.below (le_refl i)

  pub word_more : WordOf masks n base (i + 1) (x + 2 ^ i)
  word_more =
      record {
        below = omega (arith, word.below, pow-suc 2 i, pow_next);
        each = λ j j≤i inside many.
            dite (ℕ_discrete j i) (λ last. rw last (test_bit_put_same x i word_lacks))
            (λ before. test_bit_put_other x i j word_lacks before ∙ word.each j (omega arith) inside many);
      }

pub word_all : {masks : List ℕ} {n base i x : ℕ} → i ≡ 16 → WordOf masks n base i x → WordOf masks n base 16 x
word_all i_is word = rw i_is at word

-- ---- Marked
pub marked_none : (n k : ℕ) (masks cells : List ℕ) → Marked n k masks cells cells 0
marked_none n k masks cells =
    record { size = refl; before = λ i i<. refl; after = λ i past. refl; opens = λ s s<0. absurd (omega arith) }

-- one word more
pub marked_more : {n k : ℕ} {masks cells cells₁ : List ℕ} {b x : ℕ} → b < 16 → cells_size n k ≤ length cells → Marked n k masks cells cells₁ b
    → WordOf masks n (16 * b) 16 x → Marked n k masks cells (set cells₁ (words_at n k + b) x) (b + 1)
marked_more {n} {k} {masks} {cells} {cells₁} {b} {x} b<16 fits marked word =
    let at = words_at n k + b in
    record {
      size = length-set cells₁ at x ∙ marked.size;
      before = λ i i<. get_or-set_other cells₁ at i x 0 (λ e. absurd (omega arith)) ∙ marked.before i i<;
      after = λ i past. get_or-set_other cells₁ at i x 0 (λ e. absurd (omega arith)) ∙ marked.after i (omega arith);
      opens = λ s s<end s<n many.
          dite (ℕ_discrete (s / 16) b)
          (λ here.
          let place : 16 * b + s % 16 ≡ s = omega arith in
          rw (here, get_or-set_same cells₁ at x 0 (omega (arith, marked.size)))
          (word.each (s % 16) (omega arith) (rw place s<n) (rw place many)))
          (λ other.
          ap (λ (m : ℕ). test_bit m (s % 16)) (get_or-set_other cells₁ at (words_at n k + s / 16) x 0 (λ e. absurd (omega arith)))
          ∙ marked.opens s (omega arith) s<n many);
    }

pub marked_all : {n k : ℕ} {masks cells cells' : List ℕ} {b : ℕ} → b ≡ 16 → Marked n k masks cells cells' b → Marked n k masks cells cells' 16
marked_all b_is marked = rw b_is at marked

marked_open : {n k : ℕ} {masks cells cells' : List ℕ} → n ≤ 256 → Marked n k masks cells cells' 16 → OpenSlots n k masks cells'
marked_open n≤256 marked = record { each = λ s s<n many. marked.opens s (omega arith) s<n many }

-- the rows stay
marked_row : {n k : ℕ} {masks cells cells' : List ℕ} → Marked n k masks cells cells' 16 → (kind : Bool) (v : ℕ) → v < k → cells_size n k ≤ length cells
    → cells_of kind n k v cells' ≡ cells_of kind n k v cells
marked_row {n} {k} {masks} {cells} {cells'} marked kind v v<k fits =
    let lent : Lent (words_at n k) 16 (λ a b. Unit {0}) cells cells' =
    record { does = tt; size = marked.size; before = marked.before; after = marked.after } in
    let below = row_inside n (k + k) (row kind k v) (row_below kind k v v<k) in
    lent_apart lent (row kind k v * (n + 2)) (n + 2) (omega arith) (inl (omega arith))

-- ---- AllBuilt
pub built_at : {n k : ℕ} {L U masks cells cells' : List ℕ} {r r' : Bool} → r ≡ r' → AllBuilt n k L U masks cells cells' r
    → AllBuilt n k L U masks cells cells' r'
built_at {n} {k} {L} {U} {masks} {cells} {cells'} is built = subst (λ (b : Bool). AllBuilt n k L U masks cells cells' b) is built

-- a row that is broken for every line with the rises is so for the table's
rows_broken_at : {n k : ℕ} {T : Table} {L U masks cells cells' : List ℕ} {v : ℕ} (kind : Bool) → TableRises n k T L U
    → RowsBuilt kind n k (rises_of kind L U) masks cells cells' v false → BuildMeaning n k T masks cells' false
rows_broken_at {n} {k} {T} kind rises done =
    let x = done.answer.0 in
    let x<k = done.answer.1 in
    let broken = done.answer.2 (bound_line kind n T x) (rises.rises kind x x<k) in
    (kind, x, broken.0, x<k, broken.1)

module _ {n k : ℕ} {L U masks cells cells₁ : List ℕ} where
  pub all_broken_low : RowsBuilt true n k L masks cells cells₁ k false → AllBuilt n k L U masks cells cells₁ false
  all_broken_low low = record { size = low.size; meaning = λ T rises. rows_broken_at {U = U} true rises low }

  module _ {cells₂ : List ℕ} (low : RowsBuilt true n k L masks cells cells₁ k true) where
    pub all_broken_high : RowsBuilt false n k U masks cells₁ cells₂ k false → AllBuilt n k L U masks cells cells₂ false
    all_broken_high high = record { size = high.size ∙ low.size; meaning = λ T rises. rows_broken_at {L = L} false rises high }

    pub all_built : {cells₃ : List ℕ} → Building cells L masks n k → RowsBuilt false n k U masks cells₁ cells₂ k true
        → Marked n k masks cells₂ cells₃ 16 → AllBuilt n k L U masks cells cells₃ true
    all_built {cells₃} building high marked =
        record {
          size = marked.size ∙ high.size ∙ low.size;
          meaning = λ T rises.
              rises_mirror rises (λ kind v v<k u rising. rw (same kind v v<k) (rows kind v v<k u rising)) (marked_open building.slots_fit marked);
        }
      where
        rows : (kind : Bool) (v : ℕ) → v < k → (u : ℕ → ℕ) → Rising n v (rises_of kind L U) u → Segments kind n u masks v (cells_of kind n k v cells₂)
        rows true v v<k u rising = rw (high.others v v<k) (low.answer v v<k u rising)
        rows false v v<k u rising = high.answer v v<k u rising

        same : (kind : Bool) (v : ℕ) → v < k → cells_of kind n k v cells₃ ≡ cells_of kind n k v cells₂
        same kind v v<k = marked_row marked kind v v<k (omega (arith, building.rows, high.size, low.size))
