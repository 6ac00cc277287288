-- The laws of `UsedUp` of specs/UsedUp.antt: how far the links lead past no right end (`links_on`), and one law for each answer of `use_up`.
-- No contract cites this file. Assumes nothing.
use mathlib.Core.Path.{◌≡◌, refl}
use mathlib.Core.Logic.{dite}
use mathlib.Core.List.{List}
use Prim.Native.Nat.{ℕ, ◌+◌, ◌-◌, ◌≤◌, ◌<◌}
use native.Mathlib.Nat.{le_refl}
use native.Mathlib.Decide.{dec_lt}
use native.Mathlib.Omega.{arith}
use lib.ListN.{length, get_or, set}
use Rattle.segments_model.specs.Links.{gaps, target, Linked}
use Rattle.segments_model.specs.Search.{Gap, Latest}
use Rattle.segments_model.proofs.LinksLaws.{gaps_end, gaps_link}
use Rattle.segments_model.proofs.SearchLaws.{gap_before}
use Rattle.segments.specs.declared.Hit.TheVariants.{Joined, Reached}
use Rattle.segments.specs.UsedUp.{UsedUp}

pub links_on : {n z e : ℕ} (l : List ℕ) → z < e → e ≤ n → n < length l → 1024 ≤ get_or l e 0 → (Linked n l → Gap (gaps l) (z + 1) e)
    → Linked n l → Gap (gaps l) (z + 1) (e + (get_or l e 0 - 1023))
links_on {n} {z} {e} l z<e e≤n n<len link gap linked =
    let on = linked.each e (omega arith) e≤n link in
    let there : e + (get_or l e 0 - 1023) ≡ target e (get_or l e 0) = omega arith in
    rw there
    (λ i z<i i<to.
    dite (dec_lt i e) (λ i<e. gap linked i z<i i<e)
    (λ e≤i. gap_before (gaps l) e (target e (get_or l e 0)) on.gap (gaps_link l e (omega arith) (omega arith) link) i (omega arith) i<to))

latest_from : {z e slot p : ℕ} (l : List ℕ) → z < e → e < length l → get_or l e 0 < 1024 → Latest e slot (gaps l) p → Latest z slot (gaps l) p
latest_from {z} {e} {slot} {p} l z<e inside end latest =
    record {
      from = omega (arith, latest.from);
      before = latest.before;
      stands = λ z<p.
          dite (dec_lt e p) latest.stands
          (λ p≤e. let same : p ≡ e = omega (arith, latest.from) in rw same (omega (arith, gaps_end l e (omega arith) inside end)));
      gap = latest.gap;
    }

module _ (n t : ℕ) {z slot e : ℕ} (l m l' : List ℕ) (same : m ≡ l) where
  pub used_join : {p : ℕ} → z < e → e ≤ slot → slot < length l → get_or m e 0 < 1024 → Latest e slot (gaps m) p
      → l' ≡ set (set m t (get_or m p 0)) p (1024 + (t - p - 1)) → UsedUp n z slot t l l' (Joined p)
  used_join z<e e≤slot inside end latest stored =
      (omega (arith, latest.from), latest_from l z<e (omega arith) (rw same at end) (rw same at latest), rw same at stored)

  pub used_spend : z ≤ slot → slot < e → (Linked n l → Gap (gaps l) (z + 1) e) → l' ≡ set (set m t 1024) 0 t → UsedUp n z slot t l l' (Reached t z)
  used_spend z≤slot slot<e gap stored = (
    refl,
    refl,
    λ linked.
        record { from = le_refl z; before = z≤slot; stands = λ z<z. absurd (omega arith); gap = λ i z<i i≤slot. gap linked i z<i (omega arith) },
    rw same at stored,
  )
