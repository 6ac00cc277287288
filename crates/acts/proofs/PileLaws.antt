-- The laws of `Pile` of `specs/Represents.antt`: other heights above it (`pile_heights`), another trail above it (`pile_trail`), and a call of the
-- filter on top of it (`pile_moved`). No contract cites this file. Assumes nothing.
use mathlib.Core.Path.{◌≡◌, refl}
use mathlib.Core.List.{List, [], ◌∷◌}
use Prim.Native.Nat.{ℕ, ◌+◌, ◌-◌, ◌<◌}
use native.Mathlib.Nat.{le_refl}
use native.Mathlib.Omega.{arith}
use lib.ListN.{length, get_or, set}
use lib.Seq.{get_or-set_other, get_or-set_same}
use Rattle.closing_model.specs.Table.{Table}
use Rattle.filter_model.specs.Mirror.{Mirror}
use Rattle.filter_model.specs.Trail.{Kept, Trailed}
use Rattle.filter_model.proofs.TrailLaws.{restores_none, restores_same, restores_larger, kept_refl, kept_less, trailed_trans}
use Rattle.acts.specs.Represents.{Base, Entry, Pile}

-- ---- Base
pub base_entries : {n k : ℕ} {T : Table} {M : List ℕ} {h a b : ℕ} → b ≡ a → Base n k T a M h → Base n k T b M h
base_entries same base = record { size = base.size; stable = base.stable; values = base.values; room = omega (arith, same, base.room) }

-- ---- Pile
module _ (n k : ℕ) (T : Table) where
  pub pile_none : (trail heights M c : List ℕ) (h : ℕ) → Pile n k T trail heights M c h []
  unfolding Pile
  pile_none trail heights M c h = tt

  pub pile_first : (trail heights M c : List ℕ) (h : ℕ) (M' : List ℕ) (saved : List (List ℕ)) → Pile n k T trail heights M c h (M' ∷ saved)
      → (c' : List ℕ) × Entry n k T trail M c h M' c' (get_or heights (length saved) 0)
      × Pile n k T trail heights M' c' (get_or heights (length saved) 0) saved
  unfolding Pile
  pile_first trail heights M c h M' saved pile = pile

  pub pile_heights : (trail heights heights' M c : List ℕ) (h : ℕ) (saved : List (List ℕ))
      → ((i : ℕ) → i < length saved → get_or heights' i 0 ≡ get_or heights i 0) → Pile n k T trail heights M c h saved
      → Pile n k T trail heights' M c h saved
  unfolding Pile
  pile_heights trail heights heights' M c h [] same pile = tt
  pile_heights trail heights heights' M c h (M' ∷ saved) same pile =
      rw (same (length saved) (omega arith)) (
        pile.0,
        pile.1,
        pile_heights trail heights heights' M' pile.0 (get_or heights (length saved) 0) saved (λ i i<. same i (omega arith)) pile.2,
      )

  -- a mark: the masks and cells themselves, at the height where the trail stands
  pub pile_mark : (trail heights M c : List ℕ) (h : ℕ) (saved : List (List ℕ)) → length saved < length heights → Mirror n k T M c
      → Base n k T (length trail) M h → Pile n k T trail heights M c h saved
      → Pile n k T trail (set heights (length saved) h) M c h (M ∷ saved)
  unfolding Pile
  pile_mark trail heights M c h saved free mirror base pile =
      let none : h - h ≡ 0 = omega arith in
      rw (get_or-set_same heights (length saved) h 0 free) (
        c,
        record { order = le_refl h; back = rw none (restores_none n k trail h M c); mirror = mirror; base = base },
        pile_heights trail heights (set heights (length saved) h) M c h saved
            (λ i i<. get_or-set_other heights (length saved) i h 0 (λ same. absurd (omega (arith, same, i<)))) pile,
      )

  -- what an entry needs of a trail that keeps its strikes
  entry_kept : {trail trail' M c M' c' : List ℕ} {h g : ℕ} → Kept n M trail h trail' → Entry n k T trail M c h M' c' g → Kept n M' trail g trail'
  entry_kept {trail} {M = M} {c} {M'} {c'} {h} {g} kept entry =
      kept_less (restores_larger n k trail g (h - g) M c M' c' entry.back) entry.order kept

  module _ (trail trail' heights : List ℕ) (size : length trail' ≡ length trail) where
    entry_trail : {M c M' c' : List ℕ} {h g : ℕ} → Kept n M trail h trail' → Entry n k T trail M c h M' c' g → Entry n k T trail' M c h M' c' g
    entry_trail {M} {c} {M'} {c'} {h} {g} kept entry =
        let upto : g + (h - g) ≡ h = omega (arith, entry.order) in
        record {
          order = entry.order;
          back = restores_same n k trail trail' g (h - g) M c M' c' (rw upto kept) entry.back;
          mirror = entry.mirror;
          base = base_entries size entry.base;
        }

    pub pile_trail : (M c : List ℕ) (h : ℕ) (saved : List (List ℕ)) → Kept n M trail h trail' → Pile n k T trail heights M c h saved
        → Pile n k T trail' heights M c h saved
    unfolding Pile
    pile_trail M c h [] kept pile = tt
    pile_trail M c h (M' ∷ saved) kept pile = (
      pile.0,
      entry_trail kept pile.1,
      pile_trail M' pile.0 (get_or heights (length saved) 0) saved (entry_kept kept pile.1) pile.2,
    )

  entry_trailed : {trail M c M' c' : List ℕ} {h g : ℕ} → Entry n k T trail M c h M' c' g → Trailed n k M' c' trail g M c trail h
  entry_trailed {trail} {M' = M'} {g = g} entry =
      record { size = refl; up = entry.order; kept = kept_refl n M' trail g; back = entry.back }

  pub pile_moved : (heights : List ℕ) {trail M c trail' M' c' : List ℕ} {h h' : ℕ} (saved : List (List ℕ)) → Trailed n k M c trail h M' c' trail' h'
      → Pile n k T trail heights M c h saved → Pile n k T trail' heights M' c' h' saved
  unfolding Pile
  pile_moved heights [] trailed pile = tt
  pile_moved heights {trail} {M} {c} {trail'} {M'} {c'} {h} {h'} (M₁ ∷ saved) trailed pile =
      let way = trailed_trans (entry_trailed pile.1) trailed in (
        pile.0,
        record { order = way.up; back = way.back; mirror = pile.1.mirror; base = base_entries trailed.size pile.1.base },
        pile_trail trail trail' heights trailed.size M₁ pile.0 (get_or heights (length saved) 0) saved (entry_kept trailed.kept pile.1)
            pile.2,
      )
