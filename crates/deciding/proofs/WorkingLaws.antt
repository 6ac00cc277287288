-- The laws of `Working` of acts' `specs/Represents.antt` on a decision: what the filter and the undoing need (`working_world`, `undoable_dead`), and
-- what a call leaves: a decision that lives (`working_live`), one that dies and is taken back (`working_dead`). No contract cites this file.
-- Assumes nothing.
use mathlib.Core.Path.{◌≡◌, ◌∙◌}
use mathlib.Core.List.{List}
use Prim.Native.Nat.{ℕ}
use native.Mathlib.Omega.{arith}
use Rattle.closing_model.specs.Table.{Table}
use Rattle.filter_model.specs.State.{World, Moved}
use Rattle.filter_model.proofs.MirrorLaws.{progress_stable}
use Rattle.filter_model.proofs.StateLaws.{world_moved}
use Rattle.filter.specs.Filtered.{Filtered}
use Rattle.outcomes.specs.declared.Outcome.TheVariants.{Live, Dead}
use Rattle.undoing.specs.Undone.{Undoable, Undone}
use Rattle.undoing.proofs.UndoneLaws.{moved_undoable, moved_undone}
use Rattle.session_model.specs.State.{Rules}
use Rattle.acts.specs.Represents.{Room, Working}
use Rattle.acts.proofs.PileLaws.{base_entries, pile_moved, pile_trail}

module _ {T : Table} {R : Rules} {saved : List (List ℕ)} {masks cells trail heights : List ℕ} {n k top : ℕ} (room : Room masks cells trail n k)
    (working : Working T R saved masks cells trail heights n k top) where
  pub working_world : World masks cells trail n k top
  working_world =
      record {
        slots = omega (arith, room.masks_inside);
        rows = room.rows;
        room = working.base.room;
        slots_fit = room.slots_fit;
        values_fit = room.values_fit;
        values = working.base.values;
        alive = working.base.stable.alive;
      }

  pub room_moved : {masks' cells' trail' : List ℕ} {h : ℕ} → Moved n k masks cells trail top masks' cells' trail' h
      → Room masks' cells' trail' n k
  room_moved moved =
      record {
        masks_inside = moved.within.len ∙ room.masks_inside;
        rows = omega (arith, moved.cells_length, room.rows);
        slots_fit = room.slots_fit;
        values_fit = room.values_fit;
        heights_fit = omega (arith, moved.trailed.size, room.heights_fit);
      }

  -- a decision that lives
  pub working_live : {Q : List ℕ → Type 0} {masks' cells' trail' : List ℕ} {h : ℕ} → Filtered n k Q Q masks cells trail top masks' cells' trail' (Live h)
      → Working T R saved masks' cells' trail' heights n k h
  working_live {masks' = masks'} {cells'} {trail'} {h} done =
      let world = world_moved working_world done.moved in
      record {
        rules = working.rules;
        mirror = done.mirror T working.mirror;
        base =
            record {
              size = done.moved.within.len ∙ working.base.size;
              stable =
                  progress_stable n k T masks masks' working.rules.closed working.base.stable done.moved.within
                  (done.moved.alive working.base.stable.alive) (done.mirror T working.mirror) (done.progress tt T working.mirror);
              values = world.values;
              room = world.room;
            };
        pile = pile_moved n k T heights saved done.moved.trailed working.pile;
      }

  -- a decision that dies may be taken back
  pub undoable_dead : {Q : List ℕ → Type 0} {masks' cells' trail' : List ℕ} {h : ℕ}
      → Filtered n k Q Q masks cells trail top masks' cells' trail' (Dead h) → Undoable masks' cells' trail' n k top h
  undoable_dead done = moved_undoable done.moved working_world

  module _ {Q : List ℕ → Type 0} {masks' cells' trail' masks'' cells'' : List ℕ} {h : ℕ}
      (done : Filtered n k Q Q masks cells trail top masks' cells' trail' (Dead h))
      (undone : Undone masks' cells' trail' n k top h masks'' cells'') where
    pub masks_back : masks'' ≡ masks
    masks_back = (moved_undone done.moved undone).0

    cells_back : cells'' ≡ cells
    cells_back = (moved_undone done.moved undone).1

    -- .. and is as before
    pub working_dead : Working T R saved masks'' cells'' trail' heights n k top
    working_dead =
        let trailed = done.moved.trailed in
        rw (masks_back, cells_back)
        (record {
          rules = working.rules;
          mirror = working.mirror;
          base = base_entries trailed.size working.base;
          pile = pile_trail n k T trail trail' heights trailed.size masks cells top saved trailed.kept working.pile;
        })

    pub room_dead : Room masks'' cells'' trail' n k
    room_dead =
        rw (masks_back, cells_back)
        (record {
          masks_inside = room.masks_inside;
          rows = room.rows;
          slots_fit = room.slots_fit;
          values_fit = room.values_fit;
          heights_fit = omega (arith, done.moved.trailed.size, room.heights_fit);
        })
