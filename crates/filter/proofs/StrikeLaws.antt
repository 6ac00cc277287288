-- `strike` from its parts: the value is not there (`strike_absent`), no stable list allows the strike (`strike_contradicted`), or it is made and
-- followed (`strike_followed`; `thin_quiet` and `thin_followed` where several values are left). `follow` from its two loops: none, one, a dead
-- end in the first, or both (`follow_none` to `follow_both`). A fix to an absent value is a dead end (`fix_absent`), one of two values is a strike
-- of the other (`strike_last`).
-- No contract cites this file. Assumes nothing.
use mathlib.Core.Path.{◌≡◌, refl, sym, ◌∙◌}
use mathlib.Core.Bool.{Bool, true, false}
use mathlib.Core.Logic.{◌⊎◌, inl, inr, ⊎_elim, dite}
use mathlib.Core.List.{List}
use Prim.Native.Nat.{ℕ, ◌+◌, ◌≤◌, ◌<◌, zero-le}
use native.Mathlib.Decide.{dec_lt}
use native.Mathlib.Omega.{arith}
use lib.Count.{ones}
use lib.ListN.{length, get_or}
use Rattle.domains.specs.Masks.{HasAt, Alive}
use Rattle.domains.proofs.MaskLaws.{test_bit_fixed_same}
use Rattle.domains.proofs.MasksLaws.{has_subset, fixed_subset}
use Rattle.closing_model.specs.Table.{Table}
use Rattle.settling_model.proofs.SettledLaws.{not_has_lacks}
use Rattle.filter_model.specs.Cuts.{StrikeCut, FixCut, BoundCut}
use Rattle.filter_model.specs.State.{Moved, Contradicted, Removed}
use Rattle.filter_model.specs.Mirror.{SettledAt, SettledFrom, Passed}
use Rattle.filter_model.specs.Strike.{Due, Cuts, Struck}
use Rattle.filter_model.proofs.MirrorLaws.{settled_from_none, settled_from_subset}
use Rattle.filter_model.proofs.StateLaws.{moved_refl, moved_trans}
use Rattle.filter.specs.Filtered.{Filtered, Followed}
use Rattle.outcomes.specs.Codes.{is_dead}
use Rattle.outcomes.proofs.CodeLaws.{dead_not_lived}
use Rattle.outcomes.specs.declared.Outcome.{Outcome}
use Rattle.outcomes.specs.declared.Outcome.TheVariants.{Live, Dead}
use Rattle.filter.proofs.LoopLaws.{Other, other_cut, other_last}
use Rattle.filter.proofs.FilteredLaws.{filtered_refl, filtered_more, filtered_goal, filtered_asks}

-- ---- nothing changed
pub strike_absent : {n k : ℕ} (m c t : List ℕ) (top slot v : ℕ) → (HasAt m slot v → ⊥)
    → Filtered n k (StrikeCut slot v) (StrikeCut slot v) m c t top m c t (Live top)
strike_absent m c t top slot v absent = filtered_refl m c t top (record { lacks = not_has_lacks m slot v absent })

pub strike_contradicted : {n k : ℕ} {G : List ℕ → Type 0} {m c t m' c' t' : List ℕ} {top slot v : ℕ} → Contradicted n k m c t m' c' t' slot v
    → Filtered n k (StrikeCut slot v) G m c t top m' c' t' (Dead top)
strike_contradicted {n = n} {k = k} {m = m} {c = c} {t = t} {top = top} contradicted =
    let dead = contradicted.dead in
    rw (contradicted.masks_same, contradicted.cells_same, contradicted.trail_same)
    (record {
      moved = moved_refl n k m c t top;
      mirror = λ T mirror. mirror;
      progress = λ no. absurd no;
      keeps = dead;
      goal = λ no. absurd no;
    })

-- where v and w are all, the strike of w fixes the slot to v
pub strike_last : {n k top slot v w : ℕ} {m c t m' c' t' : List ℕ} {r : Outcome} → Other m slot v w → HasAt m slot v → ones (get_or m slot 0) ≤ 2
    → slot < length m → Alive m → Filtered n k (StrikeCut slot w) (StrikeCut slot w) m c t top m' c' t' r
    → Filtered n k (FixCut slot v) (FixCut slot v) m c t top m' c' t' r
strike_last {slot = slot} {v} other has few inside alive struck =
    filtered_asks (other_cut other)
    (filtered_goal {K = FixCut slot v} struck (λ live. other_last other has few inside struck.moved.within (struck.moved.alive alive)))

-- a slot that lacks v is fixed to v in no list
pub fix_absent : {n k : ℕ} {G : List ℕ → Type 0} (m c t : List ℕ) (top slot v : ℕ) → (HasAt m slot v → ⊥)
    → Filtered n k (FixCut slot v) G m c t top m c t (Dead top)
fix_absent {n} {k} m c t top slot v absent =
    record {
      moved = moved_refl n k m c t top;
      mirror = λ T mirror. mirror;
      progress = λ no. absurd no;
      keeps = λ T mirror N stable N⊆m cut. absent (has_subset N⊆m slot v (rw cut.fixed (test_bit_fixed_same v)));
      goal = λ no. absurd no;
    }

-- ---- what follows a strike
-- what the upper bound asks of masks it asks of later ones: a fixed slot stays fixed
high_later : {n k : ℕ} {m c t m' c' t' : List ℕ} {top h : ℕ} (w b : ℕ) → Alive m → Moved n k m c t top m' c' t' h
    → (N : List ℕ) → BoundCut false m w b N → BoundCut false m' w b N
high_later w b alive moved N cut =
    record { each = λ s s<b free. cut.each s s<b (λ fixed. free (fixed_subset moved.within (moved.alive alive) s w fixed)) }

module _ {n k : ℕ} {m c t : List ℕ} {top v x a w y b : ℕ} where
  pub follow_none : a ≡ 0 → b ≡ 0 → Filtered n k (Cuts m v a w b) (Followed v x a w y b) m c t top m c t (Live top)
  follow_none a≡0 b≡0 = rw (a≡0, b≡0) (filtered_refl m c t top (record { low = settled_from_none m v x 0 zero-le; high = settled_from_none m w y 0 zero-le }))

  module _ {m' c' t' : List ℕ} where
    pub follow_high : {r : Outcome} → a ≡ 0 → Filtered n k (BoundCut false m w b) (λ M. SettledFrom M w y b) m c t top m' c' t' r
        → Filtered n k (Cuts m v a w b) (Followed v x a w y b) m c t top m' c' t' r
    follow_high a≡0 high =
        rw a≡0 (filtered_asks (λ N cuts. cuts.high) (filtered_goal high (λ live settled. record { low = settled_from_none m' v x 0 zero-le; high = settled })))

    pub follow_low : {r : Outcome} → b ≡ 0 → Filtered n k (BoundCut true m v a) (λ M. SettledFrom M v x a) m c t top m' c' t' r
        → Filtered n k (Cuts m v a w b) (Followed v x a w y b) m c t top m' c' t' r
    follow_low b≡0 low =
        rw b≡0 (filtered_asks (λ N cuts. cuts.low) (filtered_goal low (λ live settled. record { low = settled; high = settled_from_none m' w y 0 zero-le })))

    pub follow_closed : {r : Outcome} → SettledFrom m' w y b → Filtered n k (BoundCut true m v a) (λ M. SettledFrom M v x a) m c t top m' c' t' r
        → Filtered n k (Cuts m v a w b) (Followed v x a w y b) m c t top m' c' t' r
    follow_closed closed low =
        filtered_asks (λ N cuts. cuts.low) (filtered_goal low (λ live settled. record { low = settled; high = closed }))

    pub follow_dead : {r : Outcome} {dead : Bool} → dead ≡ is_dead r → dead ≡ true
        → Filtered n k (BoundCut true m v a) (λ M. SettledFrom M v x a) m c t top m' c' t' r
        → Filtered n k (Cuts m v a w b) (Followed v x a w y b) m c t top m' c' t' r
    follow_dead {r} dead_is dead low =
        filtered_asks (λ N cuts. cuts.low) (filtered_goal low (λ live. absurd (dead_not_lived r (sym dead_is ∙ dead) live)))

    pub follow_both : {h : ℕ} {m'' c'' t'' : List ℕ} {r : Outcome} → Alive m
        → Filtered n k (BoundCut true m v a) (λ M. SettledFrom M v x a) m c t top m' c' t' (Live h)
        → Filtered n k (BoundCut false m' w b) (λ M. SettledFrom M w y b) m' c' t' h m'' c'' t'' r
        → Filtered n k (Cuts m v a w b) (Followed v x a w y b) m c t top m'' c'' t'' r
    follow_both alive low high =
        filtered_more (filtered_asks (λ N cuts. cuts.low) low) high (λ N cuts. high_later w b alive low.moved N cuts.high)
        (λ live settled_v settled_w. record { low = settled_from_subset high.moved.within settled_v; high = settled_w })

-- ---- one whole strike, and what follows it
-- a slot before a corner that is due is before one that was spent, or it is settled
module _ {n k : ℕ} {T : Table} {m₀ m₁ c₁ : List ℕ} {slot v x a w y b : ℕ} (struck : Struck n k T m₀ m₁ c₁ slot v x a w y b) {m₂ : List ℕ}
    (settled : Followed v x a w y b m₂) where
  due_settled : (kind : Bool) (q t s : ℕ) → s < t → Due kind v a w b q t → SettledAt m₂ s q ⊎ Passed kind n T m₀ q s
  due_settled true q t s s<t due =
      rw due.0
      (dite (dec_lt s x) (λ s<x. inr (struck.low_from (omega (arith, due.1)) s s<x))
      (λ x≤s. inl (settled.low.each s (omega arith) (omega (arith, due.1)))))
  due_settled false q t s s<t due =
      rw due.0
      (dite (dec_lt s y) (λ s<y. inr (struck.high_from (omega (arith, due.1)) s s<y))
      (λ y≤s. inl (settled.high.each s (omega arith) (omega (arith, due.1)))))

module _ {n k : ℕ} {m₀ c₀ t₀ m₁ c₁ t₁ : List ℕ} {top slot v x a y b w : ℕ} (removed : Removed n k m₀ c₀ t₀ top m₁ c₁ t₁ slot v x a y b w)
    {m₂ c₂ t₂ : List ℕ} where
  pub strike_followed : {r : Outcome} → Filtered n k (Cuts m₁ v a w b) (Followed v x a w y b) m₁ c₁ t₁ (top + 1) m₂ c₂ t₂ r
      → Filtered n k (StrikeCut slot v) (StrikeCut slot v) m₀ c₀ t₀ top m₂ c₂ t₂ r
  strike_followed after =
      record {
        moved = moved_trans removed.moved after.moved;
        mirror = λ T mirror. after.mirror T (removed.tables T mirror).mirror;
        -- a corner that is newly spent is due
        progress = λ live T mirror.
            let struck = removed.tables T mirror in
            record {
              spent = λ kind q t s q<k corner none s<t.
                  ⊎_elim inl
                  (λ passed.
                  ⊎_elim
                  (λ was. inr (record { end = passed.end; after = passed.after; corner = passed.corner; none = was }))
                  (due_settled struck (after.goal live) kind q passed.end s passed.after)
                  (struck.spent kind q passed.end q<k passed.corner passed.none))
                  ((after.progress live T struck.mirror).spent kind q t s q<k corner none s<t);
            };
        keeps = λ T mirror N stable N⊆m cut.
            let struck = removed.tables T mirror in
            let cuts = struck.cuts N stable N⊆m cut in
            after.keeps T struck.mirror N stable cuts.within cuts;
        goal = λ live. record { lacks = omega (arith, after.moved.within.bits slot v, removed.cut.lacks) };
      }

-- ---- a strike that leaves several values
module _ {n k : ℕ} {m₀ c₀ t₀ m₁ c₁ t₁ : List ℕ} {top slot v x a : ℕ} (removed : Removed n k m₀ c₀ t₀ top m₁ c₁ t₁ slot v x a 0 0 0) where
  pub thin_quiet : a ≡ 0 → Filtered n k (StrikeCut slot v) (StrikeCut slot v) m₀ c₀ t₀ top m₁ c₁ t₁ (Live (top + 1))
  thin_quiet a≡0 = strike_followed removed (follow_none a≡0 refl)

  pub thin_followed : {m₂ c₂ t₂ : List ℕ} {r : Outcome} → Filtered n k (BoundCut true m₁ v a) (λ M. SettledFrom M v x a) m₁ c₁ t₁ (top + 1) m₂ c₂ t₂ r
      → Filtered n k (StrikeCut slot v) (StrikeCut slot v) m₀ c₀ t₀ top m₂ c₂ t₂ r
  thin_followed low = strike_followed removed (follow_low refl low)
