-- The strikes of the trail, counted without the idle value: a call of the filter has left them on the trail (`moved_strikes`), each is at most one of the
-- news (`news_struck_le`), and one more is counted (`struck_next`); so many ones the masks have lost (`ones_lost`). `news_of_none` and `news_of_one` are the
-- two cases of `news`. No contract cites this file. Assumes nothing.
use mathlib.Core.Path.{◌≡◌, refl, ap, ◌∙◌}
use mathlib.Core.List.{List}
use Prim.Native.Nat.{ℕ, zero, suc, ◌+◌, ◌-◌, ◌^◌, ◌≤◌, ◌<◌}
use native.Mathlib.Omega.{arith}
use lib.Count.{ones}
use lib.ListN.{length, get_or}
use Rattle.domains.specs.Mask.{clear_bit, Fixed}
use Rattle.filter_model.specs.State.{World, Moved}
use Rattle.filter_model.specs.Trail.{value_at, TakenBack, Restores}
use Rattle.filter_model.proofs.StateLaws.{world_moved}
use Rattle.filter_model.proofs.TrailLaws.{restores_done, restores_next}
use Rattle.session_model.specs.News.{news, news_total}
use Rattle.session_model.proofs.NewsLaws.{news_single, news_put, news_total_store}
use Rattle.acts.specs.Answers.{Strikes, news_struck, OnesLost}

pub moved_strikes : {n k : ℕ} {masks cells trail masks' cells' trail' : List ℕ} {top h : ℕ} (idle : ℕ) → World masks cells trail n k top
    → length trail < 65536 → idle ≤ 32 → Moved n k masks cells trail top masks' cells' trail' h → Strikes n idle trail' top h
moved_strikes idle world fits idle_fits moved =
    record {
      order = moved.trailed.up;
      upto = omega (arith, (world_moved world moved).room);
      heights_fit = omega (arith, moved.trailed.size);
      idle_fits = idle_fits;
    }

-- ---- the news of a mask
pub news_of_none : (idle m r : ℕ) → idle ≡ 0 → r ≡ ones m → r ≡ news idle m
unfolding news
news_of_none idle m r none is = rw none is

pub news_of_one : (idle m less r : ℕ) → (idle ≡ 0 → ⊥) → less ≡ clear_bit m (idle - 1) → r ≡ ones less → r ≡ news idle m
unfolding news
news_of_one zero m less r some cleared is = absurd (some (omega arith))
news_of_one (suc v) m less r some cleared is =
    let same : suc v - 1 ≡ v = omega arith in
    is ∙ ap ones cleared ∙ ap (λ (x : ℕ). ones (clear_bit m x)) same

-- ---- the loop
pub news_struck_le : (idle n : ℕ) (trail : List ℕ) (from j : ℕ) → news_struck idle n trail from j ≤ j
unfolding news_struck
news_struck_le idle n trail from zero = omega arith
news_struck_le idle n trail from (suc j) = omega (arith, news_struck_le idle n trail from j, news_single idle (value_at n trail (from + j)))

-- one strike more
pub struck_next : (idle n : ℕ) (trail : List ℕ) (from i count m v one : ℕ) → from ≤ i → count ≡ news_struck idle n trail from (i - from)
    → v ≡ value_at n trail i → Fixed m v → one ≡ news idle m → count + one ≡ news_struck idle n trail from (i + 1 - from)
unfolding news_struck
struck_next idle n trail from i count m v one from≤i so_far v_is fixed one_is =
    let next : i + 1 - from ≡ suc (i - from) = omega arith in
    let here : from + (i - from) ≡ i = omega arith in
    rw (next, here, so_far, one_is, fixed, v_is) refl

-- ---- the ones of the masks
taken_news : {n k : ℕ} {trail : List ℕ} {slot v g x : ℕ} {M' c' M c : List ℕ} (idle : ℕ) → TakenBack n k trail slot v g x M' c' M c
    → news_total idle M ≡ news_total idle M' + news idle (2 ^ v)
taken_news {slot = slot} {v} {M' = M'} idle taken =
    let m = get_or M' slot 0 in
    omega (
      arith,
      ap (news_total idle) taken.masks_are,
      news_total_store idle M' slot (m + 2 ^ v) taken.inside,
      news_put idle m v taken.lacks,
    )

restores_news : (idle n k : ℕ) (trail : List ℕ) (from j : ℕ) (M' c' M c : List ℕ) → Restores n k trail from j M' c' M c
    → news_total idle M ≡ news_total idle M' + news_struck idle n trail from j
unfolding news_struck
restores_news idle n k trail from zero M' c' M c restores =
    omega (arith, ap (news_total idle) (restores_done n k trail from M' c' M c restores).0)
restores_news idle n k trail from (suc j) M' c' M c restores =
    let next = restores_next n k trail from j M' c' M c restores in
    omega (arith, taken_news idle next.taken, restores_news idle n k trail from j next.masks next.cells M c next.rest)

-- so many ones as strikes, the idle value left out
pub ones_lost : (n idle : ℕ) (trail : List ℕ) (from to count : ℕ) → count ≡ news_struck idle n trail from (to - from) → OnesLost n idle trail from to count
ones_lost n idle trail from to count all =
    record {
      strikes = all;
      difference = λ k before after cells cells' restores.
          omega (arith, all, restores_news idle n k trail from (to - from) after cells' before cells restores);
    }
