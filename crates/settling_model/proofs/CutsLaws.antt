-- The laws of `specs/Cuts.antt`, in its order: a cut shrinks the masks (`cut_low_subset`, `cut_high_subset`), keeps every stable list within
-- them (`cut_low_keeps`, `cut_high_keeps`), and changes nothing only where the slots are settled (`cut_low_settled`, `cut_high_settled`).
-- `Cuts v f` is what both kinds of cut share at one mask. No contract cites this file. Assumes nothing.
use mathlib.Core.Path.{◌≡◌, refl, sym, ap, subst⁻¹, ◌∙◌}
use mathlib.Core.Bool.{Bool, true, false, false≢true}
use mathlib.Core.Logic.{dite}
use mathlib.Core.List.{List, [], ◌∷◌}
use Prim.Native.Nat.{ℕ, zero, suc, ◌^◌, ◌≤◌, ◌<◌}
use native.Mathlib.Nat.{le_refl, le_of_eq}
use native.Mathlib.Decide.{ℕ_discrete}
use native.Mathlib.Omega.{arith}
use lib.ListN.{length, get_or}
use borrow.Author.Tests.{eq-eqb, ne_eqb, eqb-true}
use Rattle.domains.specs.Mask.{test_bit, clear_bit, Has, Fixed}
use Rattle.domains.specs.Masks.{Alive, Subset}
use Rattle.domains.specs.Counts.{count_has, count_fixed}
use Rattle.domains.proofs.MaskLaws.{test_bit_fixed_same, test_bit_fixed_other, test_bit_clear_bit_same, test_bit_clear_bit_other, test_bit_clear_bit_le}
use Rattle.domains.proofs.MasksLaws.{subset_refl, has_inside}
use Rattle.settling_model.specs.Settled.{Settled}
use Rattle.settling_model.specs.Stable.{Bound, Keeps}
use Rattle.settling_model.specs.Cuts.{fix_to, strike_unfixed, map_before, cut_if, cut_low, cut_high}
use Rattle.settling_model.proofs.StableLaws.{low_cut, high_cut}

-- ---- fix_to, strike_unfixed
-- f takes only values away, and leaves a mask as it is only where v is its only value or none of its values
record Cuts (v : ℕ) (f : ℕ → ℕ) : Type 0 where
  shrinks : (m w : ℕ) → test_bit (f m) w ≤ test_bit m w
  stops : (m : ℕ) → f m ≡ m → Has m v → Fixed m v

module _ (v m : ℕ) where
  fix_to_has : Has m v → fix_to v m ≡ 2 ^ v
  unfolding fix_to
  fix_to_has has = rw (eq-eqb (test_bit m v) 1 has)

  fix_to_lacks : (Has m v → ⊥) → fix_to v m ≡ m
  unfolding fix_to
  fix_to_lacks lacks = rw (ne_eqb (test_bit m v) 1 lacks)

  fix_to_case : (C : ℕ → Type 0) → (Has m v → C (2 ^ v)) → ((Has m v → ⊥) → C m) → C (fix_to v m)
  fix_to_case C has lacks = dite (ℕ_discrete (test_bit m v) 1) (λ e. rw (fix_to_has e) (has e)) (λ ne. rw (fix_to_lacks ne) (lacks ne))

  strike_unfixed_fixed : Fixed m v → strike_unfixed v m ≡ m
  unfolding strike_unfixed
  strike_unfixed_fixed fixed = rw (eq-eqb m (2 ^ v) fixed)

  strike_unfixed_free : (Fixed m v → ⊥) → strike_unfixed v m ≡ clear_bit m v
  unfolding strike_unfixed
  strike_unfixed_free free = rw (ne_eqb m (2 ^ v) free)

  strike_unfixed_case : (C : ℕ → Type 0) → (Fixed m v → C m) → ((Fixed m v → ⊥) → C (clear_bit m v)) → C (strike_unfixed v m)
  strike_unfixed_case C fixed free =
      dite (ℕ_discrete m (2 ^ v)) (λ e. subst⁻¹ C (strike_unfixed_fixed e) (fixed e)) (λ ne. rw (strike_unfixed_free ne) (free ne))

fixed_le : (m v w : ℕ) → Has m v → test_bit (2 ^ v) w ≤ test_bit m w
fixed_le m v w has =
    dite (ℕ_discrete w v) (λ same. rw same (omega (arith, test_bit_fixed_same v))) (λ other. omega (arith, test_bit_fixed_other v w other))

fix_to_cuts : (v : ℕ) → Cuts v (fix_to v)
fix_to_cuts v =
    record {
      shrinks = λ m w. fix_to_case v m (λ x. test_bit x w ≤ test_bit m w) (fixed_le m v w) (λ lacks. le_refl _);
      stops = λ m. fix_to_case v m (λ x. x ≡ m → Has m v → Fixed m v) (λ h still has. sym still) (λ lacks still has. absurd (lacks has));
    }

strike_unfixed_cuts : (v : ℕ) → Cuts v (strike_unfixed v)
strike_unfixed_cuts v =
    record {
      shrinks = λ m w. strike_unfixed_case v m (λ x. test_bit x w ≤ test_bit m w) (λ fixed. le_refl _) (λ free. test_bit_clear_bit_le m v w);
      stops = λ m.
          strike_unfixed_case v m (λ x. x ≡ m → Has m v → Fixed m v) (λ fixed still has. fixed)
          (λ free still has. absurd (omega (arith, ap (λ (x : ℕ). test_bit x v) still, test_bit_clear_bit_same m v)));
    }

-- ---- map_before
map_before_length : (t : ℕ) (f : ℕ → ℕ) (M : List ℕ) → length (map_before t f M) ≡ length M
unfolding map_before
map_before_length zero f M = refl
map_before_length (suc t) f [] = refl
map_before_length (suc t) f (m ∷ ms) = ap suc (map_before_length t f ms)

-- what holds of f at a slot before t, and of the slot, holds of the slot after
map_before_case : (C : ℕ → Type 0) (t : ℕ) (f : ℕ → ℕ) (M : List ℕ) (s : ℕ)
    → (s < t → C (f (get_or M s 0))) → C (get_or M s 0) → C (get_or (map_before t f M) s 0)
unfolding map_before
map_before_case C zero f M s at past = past
map_before_case C (suc t) f [] s at past = past
map_before_case C (suc t) f (m ∷ ms) zero at past = at (omega arith)
map_before_case C (suc t) f (m ∷ ms) (suc s) at past = map_before_case C t f ms s (λ s<t. at (omega arith)) past

map_before_at : (t : ℕ) (f : ℕ → ℕ) (M : List ℕ) (s : ℕ) → s < t → s < length M → get_or (map_before t f M) s 0 ≡ f (get_or M s 0)
unfolding map_before
map_before_at zero f M s s<t inside = absurd (omega arith)
map_before_at (suc t) f [] s s<t inside = absurd (omega arith)
map_before_at (suc t) f (m ∷ ms) zero s<t inside = refl
map_before_at (suc t) f (m ∷ ms) (suc s) s<t inside = map_before_at t f ms s (omega arith) (omega arith)

-- ---- cut_if
module _ {v : ℕ} {f : ℕ → ℕ} (cuts : Cuts v f) (t : ℕ) (M : List ℕ) where
  cut_if_subset : (met : Bool) → Subset (cut_if met t f M) M
  unfolding cut_if
  cut_if_subset true =
      record {
        len = map_before_length t f M;
        bits = λ s w.
            map_before_case (λ x. test_bit x w ≤ test_bit (get_or M s 0) w) t f M s (λ s<t. cuts.shrinks (get_or M s 0) w) (le_refl _);
      }
  cut_if_subset false = subset_refl M

  cut_if_settled : (met : Bool) → cut_if met t f M ≡ M → met ≡ true → Settled M v t
  unfolding cut_if
  cut_if_settled true still e =
      record {
        each = λ s s<t has.
            cuts.stops (get_or M s 0) (sym (map_before_at t f M s s<t (has_inside M s v has)) ∙ ap (λ (l : List ℕ). get_or l s 0) still) has;
      }
  cut_if_settled false still e = absurd (false≢true e)

cut_if_keeps : (met : Bool) (t : ℕ) (f : ℕ → ℕ) (N M : List ℕ) → Subset N M
    → (met ≡ true → (s w : ℕ) → s < t → test_bit (get_or N s 0) w ≤ test_bit (f (get_or M s 0)) w) → Subset N (cut_if met t f M)
unfolding cut_if
cut_if_keeps true t f N M N⊆M kept =
    record {
      len = N⊆M.len ∙ sym (map_before_length t f M);
      bits = λ s w. map_before_case (λ x. test_bit (get_or N s 0) w ≤ test_bit x w) t f M s (kept refl s w) (N⊆M.bits s w);
    }
cut_if_keeps false t f N M N⊆M kept = N⊆M

-- ---- cut_low, cut_high
module _ (b : Bound) (M : List ℕ) where
  pub cut_low_subset : Subset (cut_low b M) M
  unfolding cut_low
  cut_low_subset = cut_if_subset (fix_to_cuts b.value) b.end M _

  pub cut_high_subset : Subset (cut_high b M) M
  unfolding cut_high
  cut_high_subset = cut_if_subset (strike_unfixed_cuts b.value) b.end M _

  pub cut_low_settled : cut_low b M ≡ M → count_has M b.value b.end ≡ b.lower → Settled M b.value b.end
  unfolding cut_low
  cut_low_settled still met = cut_if_settled (fix_to_cuts b.value) b.end M _ still (eq-eqb _ _ met)

  pub cut_high_settled : cut_high b M ≡ M → count_fixed M b.value b.end ≡ b.upper → Settled M b.value b.end
  unfolding cut_high
  cut_high_settled still met = cut_if_settled (strike_unfixed_cuts b.value) b.end M _ still (eq-eqb _ _ met)

module _ {b : Bound} {N M : List ℕ} (alive : Alive N) (keeps : Keeps b N) (N⊆M : Subset N M) where
  pub cut_low_keeps : Subset N (cut_low b M)
  unfolding cut_low
  cut_low_keeps =
      cut_if_keeps _ b.end (fix_to b.value) N M N⊆M
      (λ met s w s<t.
      fix_to_case b.value (get_or M s 0) (λ x. test_bit (get_or N s 0) w ≤ test_bit x w)
      (λ has. le_of_eq (ap (λ (x : ℕ). test_bit x w) (low_cut alive keeps N⊆M (eqb-true _ _ met) s s<t has)))
      (λ lacks. N⊆M.bits s w))

  pub cut_high_keeps : Subset N (cut_high b M)
  unfolding cut_high
  cut_high_keeps =
      cut_if_keeps _ b.end (strike_unfixed b.value) N M N⊆M
      (λ met s w s<t.
      strike_unfixed_case b.value (get_or M s 0) (λ x. test_bit (get_or N s 0) w ≤ test_bit x w) (λ fixed. N⊆M.bits s w)
      (λ free.
      let lacks = high_cut alive keeps N⊆M (eqb-true _ _ met) s s<t free in
      dite (ℕ_discrete w b.value) (λ same. rw same (omega arith))
      (λ other. rw (test_bit_clear_bit_other (get_or M s 0) b.value w other) (N⊆M.bits s w))))
