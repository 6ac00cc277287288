-- The laws of `OpenAnswer` of `specs/Opened.antt`: a broken corner (`open_broken`), and all rows pruned (`open_pruned`), which is `open_largest`
-- where it is Live and `open_unstable` where it is Dead. No contract cites this file. Assumes nothing.
use mathlib.Core.Bool.{true, false}
use mathlib.Core.List.{List}
use Prim.Native.Nat.{ℕ}
use Rattle.domains.specs.Masks.{Alive}
use Rattle.closing_model.specs.Table.{Table, Closed}
use Rattle.settling_model.specs.Stable.{Largest, Unstable, table_bounds}
use Rattle.filter_model.specs.Mirror.{Mirror}
use Rattle.filter_model.specs.State.{World}
use Rattle.filter_model.proofs.MirrorLaws.{quiet_stable}
use Rattle.filter_model.proofs.RisesLaws.{broken_unstable, line_table, rises_table}
use Rattle.filter_model.proofs.StateLaws.{moved_refl, world_cells}
use Rattle.filter.specs.Filtered.{Filtered}
use Rattle.outcomes.specs.declared.Outcome.{Outcome}
use Rattle.outcomes.specs.declared.Outcome.TheVariants.{Live, Dead}
use Rattle.mirroring.specs.Built.{AllBuilt}
use Rattle.opening.specs.Opened.{Anything, Opening, QuietBelow, OpenMeaning, OpenAnswer}

-- ---- all rows pruned, for a table that the cells mirror
module _ {n k : ℕ} {m c t m' c' t' : List ℕ} {top h : ℕ} {T : Table} (mirror : Mirror n k T m c) where
  pub open_largest : Closed n k T → Alive m → Filtered n k Anything (QuietBelow n k m c k) m c t top m' c' t' (Live h)
      → Largest (table_bounds n k T) m m'
  open_largest closed alive done =
      record {
        stable = quiet_stable n k T m' closed (done.moved.alive alive) (done.mirror T mirror) ((done.goal tt).quiet T mirror);
        within = done.moved.within;
        largest = λ N stable N⊆m. done.keeps T mirror N stable N⊆m tt;
      }

  pub open_unstable : Filtered n k Anything (QuietBelow n k m c k) m c t top m' c' t' (Dead h) → Unstable (table_bounds n k T) m
  open_unstable done N stable N⊆m = done.keeps T mirror N stable N⊆m tt

-- ---- OpenAnswer, from the cells as they were built
module _ {n k : ℕ} {L U m c c₁ t : List ℕ} where
  pub open_broken : AllBuilt n k L U m c c₁ false → OpenAnswer n k L U m c t m c₁ t (Dead 0)
  open_broken built =
      record {
        built = c₁;
        size = built.size;
        moved = moved_refl n k m c₁ t 0;
        meaning = λ T rises.
            let broken = built.meaning T rises in
            broken_unstable n k T m broken.0 broken.1 broken.2 broken.3 broken.4;
      }

  module _ (built : AllBuilt n k L U m c c₁ true) where
    -- the rises are those of some table, so the cells mirror one
    pub built_opening : World m c t n k 0 → Opening m c₁ t n k 0
    built_opening world =
        record {
          world = world_cells built.size world;
          mirrored = record { table = line_table n L U; mirror = built.meaning (line_table n L U) (rises_table n L U k) };
        }

    pub open_pruned : {m' c' t' : List ℕ} {r : Outcome} → Alive m → Filtered n k Anything (QuietBelow n k m c₁ k) m c₁ t 0 m' c' t' r
        → OpenAnswer n k L U m c t m' c' t' r
    open_pruned {m'} {c'} {t'} {r} alive done =
        record {
          built = c₁;
          size = built.size;
          moved = done.moved;
          meaning = λ T rises. means T (built.meaning T rises) r done;
        }
      where
        means : (T : Table) → Mirror n k T m c₁ → (o : Outcome) → Filtered n k Anything (QuietBelow n k m c₁ k) m c₁ t 0 m' c' t' o
            → OpenMeaning n k T m m' c' o
        means T mirror (Live h) live = record { mirror = live.mirror T mirror; largest = λ closed. open_largest mirror closed alive live }
        means T mirror (Dead h) dead = open_unstable mirror dead
