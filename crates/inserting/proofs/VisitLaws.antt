-- The laws of `Visit` of specs/Visit.antt: one for each return of `visit`. No contract cites this file. Assumes nothing.
use mathlib.Core.Path.{◌≡◌, refl, ◌∙◌}
use mathlib.Core.Bool.{Bool, true, false}
use mathlib.Core.List.{List}
use Rattle.std.proofs.Common.{Some, None}
use Prim.Native.Nat.{ℕ, ◌-◌, ◌≤◌, ◌<◌}
use native.Mathlib.Omega.{arith}
use Rattle.segments_model.specs.Build.{Inserted}
use Rattle.segments_model.proofs.BuildLaws.{done_skip, done_insert}
use Rattle.inserting.specs.Visit.{Visit}

module _ (n t : ℕ) (corner : Bool) (gained lost next : ℕ) (l : List ℕ) (0<t : 0 < t) where
  pub visit_skip : corner ≡ false → Visit n t corner gained lost next l l (Some next)
  visit_skip flat = record { size = refl; answer = λ C g h corner_is gained_is lost_is done. done_skip done 0<t (corner_is ∙ flat) }

  module _ (turns : corner ≡ true) where
    pub visit_lacking : t ≤ n → gained < lost → Visit n t corner gained lost next l l None
    visit_lacking t≤n short =
        record {
          size = refl;
          answer = λ C g h corner_is gained_is lost_is done.
              record { above = 0<t; inside = t≤n; corner = corner_is ∙ turns; broken = omega arith };
        }

    pub visit_insert : (l' : List ℕ) (first : ℕ) → lost ≤ gained → Inserted n t (gained - lost) next l l' first
        → Visit n t corner gained lost next l l' (Some first)
    visit_insert l' first enough inserted =
        record {
          size = inserted.size;
          answer = λ C g h corner_is gained_is lost_is done.
              done_insert done 0<t l' (gained - lost) first (corner_is ∙ turns) (omega arith) (omega arith) inserted;
        }
