-- The laws of `Fell` and `Answer` of specs/Fell.antt: one for each answer of `fall`, from the laws of a fall and of its reversal in segments_model, four of
-- them after a search (`Searched`); and that the answer says which of the three cases holds of the slack before (`answer_clash`, `answer_reached`,
-- `answer_quiet`). No contract cites this file. Assumes nothing.
use mathlib.Core.Path.{◌≡◌, refl, sym, ap, ◌∙◌}
use mathlib.Core.Bool.{Bool}
use mathlib.Core.Logic.{dite}
use mathlib.Core.List.{List}
use Prim.Native.Nat.{ℕ, ◌+◌, ◌-◌, ◌≤◌, ◌<◌, zero-le}
use native.Mathlib.Nat.{le_refl}
use native.Mathlib.Decide.{dec_lt}
use native.Mathlib.Omega.{arith}
use lib.ListN.{length, get_or, set, length-set}
use Rattle.segments_model.specs.Fall.{MoreThan, Meets, Quieted}
use Rattle.segments_model.specs.Links.{gaps, Linked, next_of}
use Rattle.segments_model.specs.Search.{Latest}
use Rattle.segments_model.proofs.FallenLaws.{clashed, quiet_none, quiet_less, quiet_join, reached_spend}
use Rattle.segments_model.proofs.LatestLaws.{latest_end, latest_none}
use Rattle.segments_model.proofs.LinksLaws.{next_after, gaps_first}
use Rattle.segments_model.proofs.RaiseLaws.{reversal_none, reversal_less, reversal_join, reversal_spend}
use Rattle.segments.specs.declared.Hit.{Hit}
use Rattle.segments.specs.declared.Hit.TheVariants.{Lowered, Still, Joined, Clash, Reached}
use Rattle.segments.specs.UsedUp.{UsedUp}
use Rattle.segments.specs.Fell.{Quiets, Answer, Fell}

-- ---- Fell

pub fell_clash : (n slot : ℕ) (l : List ℕ) → slot < get_or l 0 0 → Fell n slot l l Clash
fell_clash n slot l slot<z = record { size = refl; inside = tt; answer = λ C f held. clashed slot held slot<z; reverses = slot<z; barred = refl }

-- the slot is not before the spent corner, and the search from it ends at t
pub record Searched (n slot : ℕ) (l : List ℕ) (t : ℕ) : Type 0 where
  pub slot_in : slot < n
  pub cells_in : n < length l
  pub few : n < 1024
  pub free : get_or l 0 0 ≤ slot
  pub found : t ≡ next_of n slot l

module _ {n slot : ℕ} {l : List ℕ} {t : ℕ} (search : Searched n slot l t) where
  slot≤n : slot ≤ n
  slot≤n = omega arith

  pub searched_after : slot < t
  searched_after = next_after slot≤n l search.found

  pub fell_none : n < t → Fell n slot l l Still
  fell_none n<t =
      record {
        size = refl;
        inside = tt;
        answer = λ C f held. quiet_none slot held search.free slot≤n search.cells_in search.found n<t;
        reverses = reversal_none n slot l slot≤n search.free search.few;
        barred = search.free;
      }

  module _ (t≤n : t ≤ n) where
    pub fell_less : (l' : List ℕ) (d : ℕ) → d ≡ get_or l t 0 → 0 < d → l' ≡ set l t (d - 1) → Fell n slot l l' (Lowered t)
    fell_less l' d d_is more stored =
        let more' : 0 < get_or l t 0 = omega arith in
        record {
          size = ap length stored ∙ simp length-set;
          inside = (omega (arith, searched_after), t≤n);
          answer = λ C f held. rw (stored, d_is) (quiet_less slot held search.free slot≤n search.cells_in search.found t≤n more');
          reverses = λ tag note lowered end.
              rw (stored, d_is) (reversal_less n slot l slot≤n search.free search.found t≤n search.cells_in more' tag note lowered end);
          barred = search.free;
        }

    module _ (last : get_or l t 0 ≡ 0) {z : ℕ} (z_is : z ≡ get_or l 0 0) (l' : List ℕ) where
      fell_join : {p : ℕ} → z < p → Latest z slot (gaps l) p → l' ≡ set (set l t (get_or l p 0)) p (1024 + (t - p - 1)) → Fell n slot l l' (Joined p)
      fell_join {p} z<p latest stored =
          let 0<p : 0 < p = omega arith in
          let prev = latest_end latest z<p in
          record {
            size = ap length stored ∙ simp length-set;
            inside = tt;
            answer = λ C f held. rw stored (quiet_join slot held search.free slot≤n search.cells_in search.found t≤n last prev 0<p);
            reverses = rw stored (reversal_join n slot l slot≤n search.free search.found t≤n search.cells_in last p prev.before 0<p);
            barred = search.free;
          }

      fell_spend : (Linked n l → Latest z slot (gaps l) z) → l' ≡ set (set l t 1024) 0 t → Fell n slot l l' (Reached t z)
      fell_spend none stored =
          let first : z ≡ get_or (gaps l) 0 0 = z_is ∙ sym (gaps_first l) in
          record {
            size = ap length stored ∙ simp length-set;
            inside = t≤n;
            answer = λ C f held.
                rw stored
                (reached_spend slot held search.free slot≤n search.cells_in search.found t≤n last
                (latest_none held.cells (rw first at none held.linked) refl) refl);
            reverses = rw (stored, z_is) (reversal_spend n slot l slot≤n search.free search.found t≤n search.cells_in last);
            barred = (search.free, z_is);
          }

      pub fell_used : (r : Hit) → UsedUp n z slot t l l' r → Fell n slot l l' r
      fell_used (Lowered u) none = absurd none
      fell_used Still none = absurd none
      fell_used (Joined p) used = fell_join used.0 used.1 used.2
      fell_used Clash none = absurd none
      fell_used (Reached u x) used = rw (used.0, used.1) (fell_spend used.2 used.3)

-- ---- Answer

module _ (n slot : ℕ) (C : ℕ → Bool) (f : ℕ → ℕ) (l l' : List ℕ) where
  quiet_meets : Quieted n C f slot l' → {d u : ℕ} → d ≤ 1 → Meets n C f slot d u → ⊥
  quiet_meets quiet {d} {u} few meets = omega (arith, meets.slack, quiet.more u meets.after meets.inside meets.corner)

  -- a corner after the slot lacks slack: Clash
  pub answer_clash : (r : Hit) → Answer n C f slot l l' r → (u : ℕ) → Meets n C f slot 0 u → r ≡ Clash
  answer_clash (Lowered x) quiet u meets = absurd (quiet_meets quiet zero-le meets)
  answer_clash Still quiet u meets = absurd (quiet_meets quiet zero-le meets)
  answer_clash (Joined x) quiet u meets = absurd (quiet_meets quiet zero-le meets)
  answer_clash Clash clash u meets = refl
  answer_clash (Reached t x) reached u meets = absurd (omega (arith, meets.slack, reached.more u meets.after meets.inside meets.corner))

  -- none does, and one has a slack of 1: Reached, at the last such
  pub answer_reached : (r : Hit) → Answer n C f slot l l' r → (u : ℕ) → Meets n C f slot 1 u → MoreThan n C f slot 0 → MoreThan n C f u 1
      → (x : ℕ) × (r ≡ Reached u x)
  answer_reached (Lowered x) quiet u meets more last = absurd (quiet_meets quiet (le_refl 1) meets)
  answer_reached Still quiet u meets more last = absurd (quiet_meets quiet (le_refl 1) meets)
  answer_reached (Joined x) quiet u meets more last = absurd (quiet_meets quiet (le_refl 1) meets)
  answer_reached Clash clash u meets more last =
      let at = clash.meets in
      absurd (omega (arith, at.slack, more (get_or l 0 0) at.after at.inside at.corner))
  answer_reached (Reached t x) reached u meets more last =
      let at = reached.meets in
      dite (dec_lt t u) (λ t<u. absurd (omega (arith, meets.slack, reached.past u t<u meets.inside meets.corner)))
      (λ u≤t.
      dite (dec_lt u t) (λ u<t. absurd (omega (arith, at.slack, last t u<t at.inside at.corner)))
      (λ t≤u. let e : t ≡ u = omega arith in (x, ap (λ (w : ℕ). Reached w x) e)))

  -- all have more: a quiet one
  pub answer_quiet : (r : Hit) → Answer n C f slot l l' r → MoreThan n C f slot 1 → Quiets r
  answer_quiet (Lowered x) quiet more = tt
  answer_quiet Still quiet more = tt
  answer_quiet (Joined x) quiet more = tt
  answer_quiet Clash clash more =
      let at = clash.meets in
      omega (arith, at.slack, more (get_or l 0 0) at.after at.inside at.corner)
  answer_quiet (Reached t x) reached more =
      let at = reached.meets in
      omega (arith, at.slack, more t at.after at.inside at.corner)
