-- The laws of `Narrows` and `Swept` of `specs/Sweep.antt`: both are reflexive and transitive, and a store of a rule makes them. No contract
-- cites this file. `raise_swept`, `lower_swept`: one store; `crossed_none`: a crossed entry; `narrows_loosest`: narrowed and closed.
-- Assumes nothing.
use mathlib.Core.Path.{◌≡◌, refl, sym, ◌∙◌}
use mathlib.Core.Bool.{Bool, true, false, cond, ◌||◌, true≢false}
use mathlib.Core.List.{List}
use Prim.Native.Nat.{ℕ, ◌-◌, ◌≤◌, ◌<◌}
use native.Mathlib.Nat.{le_refl, le_trans}
use native.Mathlib.Omega.{arith}
use lib.Dec.{ltb}
use lib.ListN.{length, get_or, set, length-set}
use borrow.Author.Tests.{ltb-true}
use Rattle.closing_model.specs.Table.{Table, view, size, place, Within, Loosest, NoneClosed}
use Rattle.closing_model.specs.Sweep.{ClosedBySums, Narrows, raised, lowered, slack, Swept}
use Rattle.closing_model.proofs.PlaceLaws.{place_below}
use Rattle.closing_model.proofs.StoreLaws.{set_tightens, set_keeps, weigh_set}
use Rattle.closing_model.proofs.TableLaws.{closed_by_sums, by_sums_closed, within_refl, within_trans}

-- ---- Narrows
pub narrows_refl : (m : ℕ) (P : Table → Type 0) (A : Table) → Narrows m P A A
narrows_refl m P A = record { within = within_refl m A; keeps = λ T rules within. within }

pub narrows_trans : {m : ℕ} {P : Table → Type 0} {A B C : Table} → Narrows m P A B → Narrows m P B C → Narrows m P A C
narrows_trans ab bc = record { within = within_trans ab.within bc.within; keeps = λ T rules within. bc.keeps T rules (ab.keeps T rules within) }

pub narrows_weaken : {m : ℕ} {P Q : Table → Type 0} {A B : Table} → ((T : Table) → Q T → P T) → Narrows m P A B → Narrows m Q A B
narrows_weaken q⇒p ab = record { within = ab.within; keeps = λ T rules within. ab.keeps T (q⇒p T rules) within }

-- narrowed and closed: the loosest
pub narrows_loosest : (n k : ℕ) (A B : Table) → Narrows (size n k) (ClosedBySums n k) A B → ClosedBySums n k B → Loosest n k A B
narrows_loosest n k A B narrows closed =
    record { closed = by_sums_closed n k B closed; within = narrows.within; loosest = λ T T_closed. narrows.keeps T (closed_by_sums n k T T_closed) }

-- a crossed entry: nothing closed lies within
pub crossed_none : (n k : ℕ) (A B : Table) → Narrows (size n k) (ClosedBySums n k) A B → (v t : ℕ) → v < k → t ≤ n
    → B.upper (place n v t) < B.lower (place n v t) → NoneClosed n k A
crossed_none n k A B narrows v t v<k t≤n crossed T closed within =
    let kept = narrows.keeps T (closed_by_sums n k T closed) within in
    let inside = place_below n k v t v<k t≤n in
    omega (arith, kept.lowers _ inside, kept.uppers _ inside, closed.uncrossed v t v<k t≤n)

-- ---- Swept
pub swept_refl : (m : ℕ) (P : Table → Type 0) (L U : List ℕ) → Swept m P L U L U false
swept_refl m P L U =
    record {
      narrows = narrows_refl m P (view L U);
      size_l = refl;
      size_u = refl;
      less = le_refl _;
      moved = λ e. absurd (true≢false (sym e));
      still = λ e. (refl, refl);
    }

pub swept_trans : {m : ℕ} {P : Table → Type 0} {L U L' U' L'' U'' : List ℕ} {r s : Bool} → Swept m P L U L' U' r → Swept m P L' U' L'' U'' s
    → Swept m P L U L'' U'' (r || s)
swept_trans {m} {P} {L} {U} {L'} {U'} {L''} {U''} {r} {s} one two =
    record {
      narrows = narrows_trans one.narrows two.narrows;
      size_l = two.size_l ∙ one.size_l;
      size_u = two.size_u ∙ one.size_u;
      less = le_trans two.less one.less;
      moved = moves r one.moved;
      still = stills r one.still;
    }
  where
    moves : (b : Bool) → (b ≡ true → slack L' U' < slack L U) → (b || s) ≡ true → slack L'' U'' < slack L U
    moves true moved e = omega (arith, moved refl, two.less)
    moves false moved e = omega (arith, two.moved e, one.less)

    stills : (b : Bool) → (b ≡ false → (L' ≡ L) × (U' ≡ U)) → (b || s) ≡ false → (L'' ≡ L) × (U'' ≡ U)
    stills true still e = absurd (true≢false e)
    stills false still e = ((two.still e).0 ∙ (still refl).0, (two.still e).1 ∙ (still refl).1)

pub swept_weaken : {m : ℕ} {P Q : Table → Type 0} {L U L' U' : List ℕ} {r : Bool} → ((T : Table) → Q T → P T) → Swept m P L U L' U' r
    → Swept m Q L U L' U' r
swept_weaken q⇒p swept =
    record {
      narrows = narrows_weaken q⇒p swept.narrows;
      size_l = swept.size_l;
      size_u = swept.size_u;
      less = swept.less;
      moved = swept.moved;
      still = swept.still;
    }

-- a store
stored_swept : {m : ℕ} {P : Table → Type 0} {L U L' U' : List ℕ} → Narrows m P (view L U) (view L' U') → length L' ≡ length L → length U' ≡ length U
    → slack L' U' < slack L U → Swept m P L U L' U' true
stored_swept narrows size_l size_u falls =
    record { narrows = narrows; size_l = size_l; size_u = size_u; less = omega arith; moved = λ stored. falls; still = λ stored. absurd (true≢false stored) }

abbrev NoMore : ℕ → ℕ → Type 0
NoMore x y = y ≤ x

-- a rule that raises the lower at q to the x that it demands, or lowers the upper there
module _ (m : ℕ) (P : Table → Type 0) (L U : List ℕ) (q x : ℕ) where
  pub raise_swept : q < length L → x < 65536 → ((T : Table) → P T → Within m (view L U) T → x ≤ T.lower q)
      → Swept m P L U (raised L q x) U (ltb (get_or L q 0) x)
  raise_swept inside fits demanded = go (ltb (get_or L q 0) x) refl
    where
      go : (b : Bool) → ltb (get_or L q 0) x ≡ b → Swept m P L U (cond b (set L q x) L) U b
      go true e =
          let below : get_or L q 0 < x = ltb-true (get_or L q 0) x e in
          stored_swept
          (record {
            within = record { lowers = λ p p<m. set_tightens ◌≤◌ L q x inside le_refl (omega arith) p; uppers = λ p p<m. le_refl (get_or U p 0) };
            keeps = λ T rules within. record { lowers = λ p p<m. set_keeps ◌≤◌ L q x inside T.lower (demanded T rules within) p (within.lowers p p<m); uppers = within.uppers };
          })
          (length-set L q x) refl (omega (arith, weigh_set (λ y. 65536 - y) L q x inside))
      go false e = swept_refl m P L U

  pub lower_swept : q < length U → ((T : Table) → P T → Within m (view L U) T → T.upper q ≤ x) → Swept m P L U L (lowered U q x) (ltb x (get_or U q 0))
  lower_swept inside demanded = go (ltb x (get_or U q 0)) refl
    where
      go : (b : Bool) → ltb x (get_or U q 0) ≡ b → Swept m P L U L (cond b (set U q x) U) b
      go true e =
          let above : x < get_or U q 0 = ltb-true x (get_or U q 0) e in
          stored_swept
          (record {
            within = record { lowers = λ p p<m. le_refl (get_or L p 0); uppers = λ p p<m. set_tightens NoMore U q x inside le_refl (omega arith) p };
            keeps = λ T rules within. record { lowers = within.lowers; uppers = λ p p<m. set_keeps NoMore U q x inside T.upper (demanded T rules within) p (within.uppers p p<m) };
          })
          refl (length-set U q x) (omega (arith, weigh_set (λ y. y) U q x inside))
      go false e = swept_refl m P L U
